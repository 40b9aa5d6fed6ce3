-- The fields of a line: its parts between blanks, each with its position.
use Rattle.std.specs.Prelude.{ℕ, ◌+◌, cond, List, [], ◌∷◌, length, ◌==◌}
use Rattle.line.specs.Lines.{in_front}

-- the parts between the blanks, one more than there are blanks
abbrev pub parts : List ℕ → List (List ℕ)
parts [] = [] ∷ []
parts (byte ∷ bytes) = cond (byte == 32) ([] ∷ parts bytes) (in_front byte (parts bytes))

-- a part, and the place in the line, from 1, where its first byte stands or would stand
abbrev pub Placed : Type 0
Placed = List ℕ × ℕ

-- the first part stands at a position, the next one after its bytes and a blank
abbrev pub placed : ℕ → List (List ℕ) → List Placed
placed position [] = []
placed position (part ∷ more) = (part, position) ∷ placed (position + length part + 1) more

abbrev pub fields : List ℕ → List Placed
fields line = placed 1 (parts line)

-- a field, and what it is read as
pub data Token : Type 0 where
  a_command : Placed → Token
  a_letter : Placed → Token
  a_number : Placed → Token
