-- The checks of an entry, as the code makes them, are those of the rulings.
use Rattle.std.specs.Prelude.{◌≡◌, suc, cond, length, is_ok}
use Rattle.rulebook.specs.Meaning.{Meaning}
use Rattle.history.specs.declared.Entry.{Entry}
use Rattle.history.specs.declared.Call.TheVariants.{Enter}
use Rattle.history.specs.declared.Answer.TheVariants.{Ordered}
use Rattle.history.specs.Rulings.{ruled_on}
use Rattle.day.specs.State.{State, board_of}
use Rattle.day.specs.Calls.{partner_on, admitted, entered, after_entry, changed}

-- under every rulebook and after every day: an entry is answered as the rulings fix, and leaves the changed day or the same
pub record EntriesFollowTheRulings : Type 0 where
  pub answer : (rules : Meaning) (s : State) (entry : Entry)
      → entered (admitted rules s entry) (Ordered (suc (length s.orders)) (partner_on s entry)) ≡ ruled_on rules (board_of s) (Enter entry)
  pub after : (rules : Meaning) (s : State) (entry : Entry)
      → after_entry (admitted rules s entry) s entry ≡ cond (is_ok (admitted rules s entry)) (changed rules s (Enter entry)) s
