-- Items by their numbers.
use Rattle.std.proofs.Common.{◌≡◌, ℕ, zero, suc, ◌≤◌, false, List, length, get_or, take, refl, sym, ap, ◌∙◌, inl, inr, add-one, arith}
use Rattle.std.specs.List.{count_by}
use Rattle.std.proofs.lemmas.List.{take_all}
use Rattle.std.proofs.lemmas.List.Sums.{count_by_more_yes, count_by_more_no}
use Rattle.std.proofs.lemmas.Bool.{cases_Bool}
use Rattle.std.proofs.lemmas.Bool.Decides.{nat_tests}
use Rattle.history.specs.Orders.{how_many}
use Rattle.history.specs.Rulings.{outside}
use Rattle.history.proofs.Firsts.{many_on, many_at}
use Rattle.day.specs.declared.order.Order.{Order}
use Rattle.day.specs.State.{numbered, no_order}
use Rattle.day.specs.Calls.{is_due, due_at}

pub inside : (last number : ℕ) → outside last number ≡ false → (1 ≤ number) × (number ≤ last)
inside last number is = (grind (arith, nat_tests), grind (arith, nat_tests))

-- the order after so many
pub order_next : (orders : List Order) (i : ℕ) → numbered no_order orders (suc i) ≡ get_or orders i no_order
order_next orders i = grind (arith, nat_tests)

-- the orders that are due, counted by their numbers and along the list
due_so_far : (orders : List Order) (to n : ℕ) → n ≤ length orders → how_many (due_at orders to) n ≡ count_by (is_due to) (take n orders)
unfolding how_many
due_so_far orders to zero within = refl
due_so_far orders to (suc n) within =
    let before = due_so_far orders to n (omega arith) in
    let next : due_at orders to (suc n) ≡ is_due to (get_or orders n no_order) = ap (is_due to) (order_next orders n) in
    elim (cases_Bool (is_due to (get_or orders n no_order))) [
      | inl due ↦ many_at (due_at orders to) n (next ∙ due) ∙ ap suc before ∙ sym (add-one _) ∙ sym (count_by_more_yes (is_due to) orders n no_order (omega arith) due)
          ∙ ap (λ (k : ℕ). count_by (is_due to) (take k orders)) (add-one n)
      | inr kept ↦ many_on (due_at orders to) n (next ∙ kept) ∙ before ∙ sym (count_by_more_no (is_due to) orders n no_order (omega arith) kept)
          ∙ ap (λ (k : ℕ). count_by (is_due to) (take k orders)) (add-one n)
    ]

pub many_due : (orders : List Order) (to : ℕ) → how_many (due_at orders to) (length orders) ≡ count_by (is_due to) orders
many_due orders to = due_so_far orders to (length orders) (omega arith) ∙ ap (count_by (is_due to)) (take_all (length orders) orders (omega arith))
