-- An input that comes in pieces: the lines that are ended are answered, the bytes after them are held.
use Rattle.std.specs.Prelude.{ℕ, ◌+◌, ◌-◌, List, [], ◌∷◌, ◌++◌, length, take, drop, vec_items}
use Rattle.price.specs.declared.grid.Grid
use Rattle.rulebook.specs.declared.rulebook.Rulebook
use Rattle.rulebook.specs.Meaning.{Meaning}
use Rattle.day.specs.State.{State, view, fresh}
use Rattle.line.specs.Lines.{lines, ended, unended}
use Rattle.session.specs.declared.session.Session.{Session}
use Rattle.session.specs.Talk.{printed, left_by_lines}

-- how many bytes of an input are read
abbrev pub most_read : ℕ
most_read = 65_536

-- where a session stands: its day, how many bytes came, and those of them after the last ended line
pub record Standing : Type 0 where
  pub day : State
  pub came : ℕ
  pub held : List ℕ

abbrev pub standing : {R G : Type 0} {book : Rulebook.Ghosts R G} {grid : Grid.Ghosts G} → Session R G book grid → Standing
standing session = record {
  day = view session.day;
  came = length (vec_items session.input);
  held = drop session.at (vec_items session.input);
}

-- a session just opened
abbrev pub beginning : Standing
beginning = record { day = fresh; came = 0; held = [] }

-- the part of a piece that is still read
abbrev pub read_of : Standing → List ℕ → List ℕ
read_of t piece = take (most_read - t.came) piece

-- what is held when a piece came
abbrev pub held_with : Standing → List ℕ → List ℕ
held_with t piece = t.held ++ read_of t piece

-- a piece: the lines that are now ended are answered, the rest is held
abbrev pub fed : Meaning → Standing → List ℕ → Standing
fed rules t piece = record {
  day = left_by_lines rules t.day (ended (held_with t piece));
  came = t.came + length (read_of t piece);
  held = unended (held_with t piece);
}

abbrev pub fed_text : Meaning → Standing → List ℕ → List ℕ
fed_text rules t piece = printed rules t.day (ended (held_with t piece))

-- the end of the input: what is held is answered
abbrev pub closed : Meaning → Standing → Standing
closed rules t = record { day = left_by_lines rules t.day (lines t.held); came = t.came; held = [] }

abbrev pub closed_text : Meaning → Standing → List ℕ
closed_text rules t = printed rules t.day (lines t.held)

-- all that is printed for pieces and the end after them, and the day in the end
abbrev pub all_text : Meaning → Standing → List (List ℕ) → List ℕ
all_text rules t [] = closed_text rules t
all_text rules t (piece ∷ pieces) = fed_text rules t piece ++ all_text rules (fed rules t piece) pieces

abbrev pub all_fed : Meaning → Standing → List (List ℕ) → State
all_fed rules t [] = (closed rules t).day
all_fed rules t (piece ∷ pieces) = all_fed rules (fed rules t piece) pieces

-- pieces one after the other
abbrev pub joined : List (List ℕ) → List ℕ
joined [] = []
joined (piece ∷ pieces) = piece ++ joined pieces
