-- The mid-price: what it is nearest to, and how large it can be.
use Rattle.std.specs.Prelude.{◌≡◌, ℕ, ◌+◌, ◌*◌, ◌/◌, ◌<◌, ◌≤◌, ℤ, Some, Option}
use Rattle.std.proofs.Common.{sym, ap, subst, ◌∙◌, inl, inr, div-add-mod', mod-lt, add-mul, one-mul, mul_assoc, mul_comm, arith}
use Rattle.std.proofs.Math.Nat.{mul-mod_left}
use Rattle.std.proofs.lemmas.Bool.{cases_eq}
use Rattle.price.specs.Sets.{multiples, last_price}
use Rattle.price.specs.Closest.{closest}
use Rattle.price.specs.Questions.{Nearest}
use Rattle.price.proofs.Search.{closest_is_nearest}
use Rattle.price.proofs.Told.{multiple_parts, multiple_from, multiples_are_prices}

-- what the search finds is the nearest
pub found_nearest : (step n d : ℕ) (found : Option (ℕ × ℤ)) → found ≡ closest (multiples step) n d → Nearest (multiples step) n d found
found_nearest step n d found is = subst (Nearest (multiples step) n d) (sym is) (closest_is_nearest (multiples step) n d (multiples_are_prices step))

pub found_bounded : (step n d price : ℕ) (signed : ℤ) → Some (price, signed) ≡ closest (multiples step) n d → price ≤ last_price
found_bounded step n d price signed is =
    (multiple_parts step price (found_nearest step n d (Some (price, signed)) is).0).1

-- the nearest multiple lies less than a step and a half beyond half the sum
pub nearest_small : (step sum price : ℕ) (signed : ℤ) → 1 ≤ step → step ≤ 100_000 → sum ≤ 200_000_000_000
    → Nearest (multiples step) sum 2 (Some (price, signed)) → price ≤ 100_000_100_000
nearest_small step sum price signed one small bounded near =
    let count = sum / (2 * step) in
    let other = (sum / (2 * step) + 1) * step in
    let double : 0 < 2 * step = omega arith in
    let whole = div-add-mod' sum (2 * step) in
    let rest = mod-lt sum double in
    let next : other ≡ count * step + step = add-mul count 1 step ∙ ap (λ (x : ℕ). count * step + x) (one-mul step) in
    let twice : count * (2 * step) ≡ 2 * (count * step) = sym (mul_assoc count 2 step) ∙ ap (λ (x : ℕ). x * step) (mul_comm count 2) ∙ mul_assoc 2 count step in
    let in_set = multiple_from step other (omega arith) (omega arith) (mul-mod_left (count + 1) step) in
    elim (cases_eq other price) [
      | inl same ↦ omega arith
      | inr differs ↦
          elim (near.2 other in_set differs) [ inl farther ↦ omega arith | inr lower ↦ omega (arith, lower.0) ]
    ]
