-- The fields of a line against the line itself, and the lines of a text that comes in pieces.
use Rattle.std.specs.Prelude.{◌≡◌, ℕ, ◌+◌, ◌-◌, ◌<◌, ◌≤◌, List, [], ◌∷◌, ◌++◌, map, length, take, drop, ◌≢◌, slice_index, slice_index_or}
use Rattle.line.specs.Fields.{Placed, fields}
use Rattle.line.specs.Lines.{lines, ended, unended}

abbrev pub bytes : Placed → List ℕ
bytes field = field.0

abbrev pub position : Placed → ℕ
position field = field.1

-- the field of a place in the list of fields, from 0
abbrev pub field : List ℕ → ℕ → Placed
field line k = slice_index_or (fields line) k ([], 0)

-- pieces with a blank between each and the next
abbrev pub with_blanks : List (List ℕ) → List ℕ
with_blanks [] = []
with_blanks (piece ∷ []) = piece
with_blanks (piece ∷ next ∷ more) = piece ++ 32 ∷ with_blanks (next ∷ more)

pub record FieldsAreTheLine : Type 0 where
  -- joined by blanks they are the line again
  pub joined : (line : List ℕ) → with_blanks (map bytes (fields line)) ≡ line
  -- none holds a blank
  pub no_blank : (line : List ℕ) (k i : ℕ) → k < length (fields line) → i < length (bytes (field line k)) → slice_index (bytes (field line k)) i ≢ 32
  -- there is at least one
  pub some : (line : List ℕ) → 1 ≤ length (fields line)
  -- the first has position 1, each other one the position after the one before it and a blank
  pub first_position : (line : List ℕ) → position (field line 0) ≡ 1
  pub next_position : (line : List ℕ) (k : ℕ) → k + 1 < length (fields line) → position (field line (k + 1)) ≡ position (field line k) + length (bytes (field line k)) + 1
  -- the bytes of each stand in the line at its position, counted from 1
  pub stands : (line : List ℕ) (k : ℕ) → k < length (fields line) → take (length (bytes (field line k))) (drop (position (field line k) - 1) line) ≡ bytes (field line k)

pub record LinesComeInPieces : Type 0 where
  -- the lines of a text are the ended lines of its front, and the lines of what the front leaves with all that follows
  pub front : (bytes more : List ℕ) → lines (bytes ++ more) ≡ ended bytes ++ lines (unended bytes ++ more)
  -- what is left has no ended line
  pub none_left : (bytes : List ℕ) → ended (unended bytes) ≡ []
  -- where no line is ended, everything is left
  pub all_left : (bytes : List ℕ) → ended bytes ≡ [] → unended bytes ≡ bytes
