-- The lines of a text: each ends at a byte 10 or at the text's end, and none begins at the end.
use Rattle.std.specs.Prelude.{ℕ, ◌+◌, Bool, cond, not, List, [], ◌∷◌, drop, ◌==◌}
use Rattle.std.specs.List.{prefix_len}

abbrev pub differs : ℕ → ℕ → Bool
differs stop byte = not (byte == stop)

-- how many bytes stand before the first byte stop, all of them where it is not there
abbrev pub before_first : ℕ → List ℕ → ℕ
before_first stop bytes = prefix_len (differs stop) bytes

-- a byte more in front of the first piece
abbrev pub in_front : ℕ → List (List ℕ) → List (List ℕ)
in_front byte [] = (byte ∷ []) ∷ []
in_front byte (piece ∷ pieces) = (byte ∷ piece) ∷ pieces

abbrev pub lines : List ℕ → List (List ℕ)
lines [] = []
lines (byte ∷ bytes) = cond (byte == 10) ([] ∷ lines bytes) (in_front byte (lines bytes))

-- what stands after the first line and the byte 10 that ends it
abbrev pub past_first : List ℕ → List ℕ
past_first bytes = drop (before_first 10 bytes + 1) bytes

-- a byte more in front of the first line, where there is one
abbrev pub to_first : ℕ → List (List ℕ) → List (List ℕ)
to_first byte [] = []
to_first byte (line ∷ more) = (byte ∷ line) ∷ more

-- the lines that a byte 10 ends
abbrev pub ended : List ℕ → List (List ℕ)
ended [] = []
ended (byte ∷ bytes) = cond (byte == 10) ([] ∷ ended bytes) (to_first byte (ended bytes))

abbrev pub where_none : {X : Type 0} → List (List ℕ) → X → X → X
where_none [] none some = none
where_none (line ∷ more) none some = some

-- what stands after the last byte 10
abbrev pub unended : List ℕ → List ℕ
unended [] = []
unended (byte ∷ bytes) = cond (byte == 10) (unended bytes) (where_none (ended bytes) (byte ∷ bytes) (unended bytes))
