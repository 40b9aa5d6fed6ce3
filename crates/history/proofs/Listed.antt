-- A contract that is listed has a product, by induction over the history.
use Rattle.std.proofs.Common.{◌≡◌, ℕ, suc, false, eqb, Some, None, Err, Option, ◌≢◌, refl, ap, inl, inr, arith}
use Rattle.std.proofs.lemmas.Bool.{cases_Bool, cond-true, cond-false}
use Rattle.std.proofs.lemmas.Bool.Decides.{nat_tests}
use Rattle.rulebook.specs.declared.Letter.{Letter}
use Rattle.rulebook.specs.declared.RuleFault.TheVariants.{ProductAbsent}
use Rattle.rulebook.specs.Meaning.{Meaning, Product, PricesInBand, unless_lacking, hours_of, hours_of_product, prices_of_product}
use Rattle.history.specs.declared.calls.Call.{Call}
use Rattle.history.specs.declared.answers.Answer.{Answer}
use Rattle.history.specs.History.{History, opened, after, listed, product, figures}
use Rattle.history.specs.Rulings.{by_the_book, outside, Lawful}
use Rattle.history.specs.Law.{ListedContractsHaveProducts}
use Rattle.history.proofs.Steps.{Step, step, refused, lists, posts, collars, clocks, halts, lifts, asks, enters, withdraws}

-- every listed contract's product is one of the book
abbrev InBook : Meaning → History → Type 0
InBook rules h = (contract : ℕ) → outside (listed h) contract ≡ false → by_the_book (hours_of rules (product h contract)) ≡ None

module _ (rules : Meaning) (h : History) where
  one_more : (call : Call) (answer : Answer) → Step rules h call answer → InBook rules h → InBook rules (after h call answer)
  one_more call answer (refused _ fault) old = old
  one_more call answer (lists number _ there) old = λ contract inside.
      elim (cases_Bool (eqb contract (suc (listed h)))) [
        | inl new ↦ rw (cond-true _ number (product h contract) new) there
        | inr before ↦ rw (cond-false _ number (product h contract) before) (old contract (grind (arith, nat_tests)))
      ]
  one_more call answer (posts contract letter value) old = old
  one_more call answer (collars contract low high within) old = old
  one_more call answer (clocks to count later) old = old
  one_more call answer (halts contract) old = old
  one_more call answer (lifts contract) old = old
  one_more call answer (asks contract n d price distance) old = old
  one_more call answer (enters entry fit) old = old
  one_more call answer (withdraws k participant there) old = old

in_book : (rules : Meaning) (h : History) → Lawful rules h → InBook rules h
in_book rules opened lawful = λ contract inside. absurd (grind (arith, nat_tests))
in_book rules (after h call answer) lawful = one_more rules h call answer (step rules h call answer lawful.1) (in_book rules h lawful.0)

found : (held : Option Product) → by_the_book (hours_of_product held) ≡ None → (its : Product) × (held ≡ Some its)
found None is = cc
found (Some its) is = (its, refl)

not_absent : (blank : Option Letter) (prices : PricesInBand) → unless_lacking blank prices ≢ Err ProductAbsent
not_absent None prices is = cc
not_absent (Some letter) prices is = cc

pub listed_contracts_have_products : ListedContractsHaveProducts
listed_contracts_have_products rules h lawful contract inside =
    let (its, known) = found (rules.product (product h contract)) (in_book rules h lawful contract inside) in
    let prices = ap (λ (held : Option Product). prices_of_product held (figures h contract)) known in
    record {
      its = its;
      known = known;
      hours = ap hours_of_product known;
      prices = prices;
      never_absent = rw prices (not_absent _ _);
    }
