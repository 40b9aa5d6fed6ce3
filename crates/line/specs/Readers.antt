-- What a reader has left, and what it has read.
use Rattle.std.specs.Prelude.{ℕ, ◌+◌, cond, List, [], length, drop, nat_le}
use Rattle.line.specs.Fields.{Placed, parts, placed, Token, a_command, a_letter, a_number}
use Rattle.line.specs.Lines.{lines}
use Rattle.line.specs.declared.fields.Field.{Field}
use Rattle.line.specs.declared.fields.Field.TheVariants.{Command, Letter, Number}
use Rattle.line.specs.declared.fields.FieldReader.{FieldReader}
use Rattle.line.specs.declared.fields.Part.{Part}
use Rattle.line.specs.declared.lines.LineReader.{LineReader}

-- the bytes that are still to be read
abbrev pub unread : LineReader → List ℕ
unread reader = drop reader.at reader.input.now

abbrev pub lines_left : LineReader → List (List ℕ)
lines_left reader = lines (unread reader)

-- the fields from a place in the line on, which is one past its end after the last field
abbrev pub fields_from : List ℕ → ℕ → List Placed
fields_from line at = cond (nat_le at (length line)) (placed (at + 1) (parts (drop at line))) []

abbrev pub fields_left : FieldReader → List Placed
fields_left reader = fields_from reader.line.now reader.at

abbrev pub part_read : Part → Placed
part_read part = (part.bytes.now, part.position)

abbrev pub field_read : Field → Token
field_read (Command part) = a_command (part_read part)
field_read (Letter part) = a_letter (part_read part)
field_read (Number part) = a_number (part_read part)
