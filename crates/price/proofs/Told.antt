-- The sets of the grids hold what they say.
use Rattle.std.proofs.Common.{◌≡◌, ℕ, zero, suc, ◌*◌, ◌/◌, ◌%◌, ◌≤◌, refl, zero-mul, arith}
use native.Mathlib.Nat.{mul-mod_left}
use Rattle.std.proofs.lemmas.Nat.{mul-le}
use Rattle.std.proofs.lemmas.Bool.{and_parts, and_from, leb-true, le-leb, eqb-true, eq-eqb}
use Rattle.price.specs.Sets.{PriceSet, ◌among◌, Prices, last_price, multiples, between}
use Rattle.price.specs.Laws.{SetsHoldWhatTheySay}
use Rattle.price.proofs.Quotients.{in_steps}

-- a multiple, taken apart and put together
pub multiple_parts : (step price : ℕ) → price among multiples step → (1 ≤ price) × (price ≤ last_price) × (price % step ≡ 0)
multiple_parts step price in_set =
    let parts = and_parts _ _ in_set in
    let others = and_parts _ _ parts.1 in
    (leb-true _ _ parts.0, leb-true _ _ others.0, eqb-true _ _ others.1)

pub multiple_from : (step price : ℕ) → 1 ≤ price → price ≤ last_price → price % step ≡ 0 → price among multiples step
multiple_from step price positive bounded even =
    and_from _ _ (le-leb _ _ positive) (and_from _ _ (le-leb _ _ bounded) (eq-eqb _ _ even))

pub multiples_are_prices : (step : ℕ) → Prices (multiples step)
multiples_are_prices step = record {
  positive = λ price in_set. (multiple_parts step price in_set).0;
  bounded = λ price in_set. (multiple_parts step price in_set).1;
}

-- a price between two ends, taken apart and put together
pub between_parts : (low high : ℕ) (set : PriceSet) (price : ℕ) → price among between low high set
    → (price among set) × (low ≤ 1000 * price) × (1000 * price ≤ high)
between_parts low high set price in_set =
    let parts = and_parts _ _ in_set in
    let ends = and_parts _ _ parts.1 in
    (parts.0, leb-true _ _ ends.0, leb-true _ _ ends.1)

pub between_from : (low high : ℕ) (set : PriceSet) (price : ℕ)
    → price among set → low ≤ 1000 * price → 1000 * price ≤ high → price among between low high set
between_from low high set price in_set least most = and_from _ _ in_set (and_from _ _ (le-leb _ _ least) (le-leb _ _ most))

-- a positive multiple has at least one step
one_step : (count step price : ℕ) → 1 ≤ price → count * step ≡ price → 1 ≤ count
one_step zero step price positive steps = absurd (omega (arith, zero-mul step))
one_step (suc count) step price positive steps = omega arith

pub sets_hold_what_they_say : SetsHoldWhatTheySay
sets_hold_what_they_say = record {
  counted = λ step price in_set.
      let parts = multiple_parts step price in_set in
      let steps = in_steps step price parts.2 in
      (price / step, one_step (price / step) step price parts.0 steps, steps);
  every_multiple = λ step count positive one bounded.
      multiple_from step (count * step) (omega (arith, mul-le 1 1 count step one positive)) bounded (mul-mod_left count step);
  no_further = λ step price in_set. (multiple_parts step price in_set).1;
  itself = λ price. eq-eqb price price refl;
  no_other = λ price other in_set. eqb-true other price in_set;
  kept = between_from;
  of_the_set = λ low high set price in_set. (between_parts low high set price in_set).0;
  not_below = λ low high set price in_set. (between_parts low high set price in_set).1;
  not_above = λ low high set price in_set. (between_parts low high set price in_set).2;
  crossed = λ low high set price passed in_set.
      let parts = between_parts low high set price in_set in omega (arith, parts.1, parts.2);
}
