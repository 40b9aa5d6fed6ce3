-- A fresh day says the board of the empty history.
use Rattle.std.proofs.Common.{◌≡◌, ℕ, false, None, Ok, Err, Option, Result, unwrap_or, sym, refl, ap, ◌∙◌, arith}
use Rattle.std.proofs.lemmas.Bool.Decides.{nat_tests}
use Rattle.rulebook.specs.declared.HoursClass.{HoursClass}
use Rattle.rulebook.specs.declared.HoursClass.TheVariants.{A, B, C, D, E}
use Rattle.rulebook.specs.declared.RuleFault.{RuleFault}
use Rattle.rulebook.specs.Meaning.{Meaning, hours_of}
use Rattle.history.specs.History.{opened}
use Rattle.history.specs.Prices.{closing_in}
use Rattle.history.specs.Orders.{waits}
use Rattle.history.specs.Board.{board}
use Rattle.day.specs.declared.order.Order.{Order}
use Rattle.day.specs.State.{fresh, just_listed, no_order, is_waiting, board_of}
use Rattle.day.specs.Following.{Brings}
use Rattle.day.proofs.Places.{numbered-none}

-- nothing is open at the start of the day
none_open : (class : HoursClass) → closing_in (Ok class) 0 ≡ None
none_open A = refl
none_open B = refl
none_open C = refl
none_open D = refl
none_open E = refl

closed_at_first : (hours : Result HoursClass RuleFault) → closing_in hours 0 ≡ None
closed_at_first (Ok class) = none_open class
closed_at_first (Err fault) = refl

none_waits : (rules : Meaning) (k : ℕ) → waits rules opened k ≡ false
unfolding waits
none_waits rules k = grind (arith, nat_tests)

module _ (rules : Meaning) where
  until_none : (k : ℕ) → (board_of fresh).until k ≡ (board rules opened).until k
  until_none k =
      ap (λ (o : Order). o.until) (numbered-none no_order k) ∙ sym (ap (λ (o : Option ℕ). unwrap_or o 0) (closed_at_first (hours_of rules 0)))

  waits-none : (k : ℕ) → (board_of fresh).waits k ≡ (board rules opened).waits k
  waits-none k = ap (λ (o : Order). is_waiting o.status) (numbered-none no_order k) ∙ sym (none_waits rules k)

  pub start : Brings rules opened fresh
  start = record {
    lawful = tt;
    shown = λ i. record {
      minute = 0;
      listed = 0;
      product = λ c. (numbered-none (just_listed 0) c i).product;
      figures = λ c. (numbered-none (just_listed 0) c i).figures;
      collar = λ c. (numbered-none (just_listed 0) c i).collar;
      halted = λ c. (numbered-none (just_listed 0) c i).halted;
      orders = 0;
      entry = λ k. (numbered-none no_order k i).entry;
      until = λ k. until_none k i;
      waits = λ k. waits-none k i;
    };
  }
