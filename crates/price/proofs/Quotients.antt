-- Quotients rounded down and up, multiples of a step, and a fraction held to an end.
use Rattle.std.proofs.Common.{◌≡◌, ℕ, zero, suc, ◌+◌, ◌-◌, ◌*◌, ◌/◌, ◌%◌, ◌<◌, ◌≤◌, min, ◌⊎◌, refl, ap, ◌∙◌, inl, inr, mul-le-mul_right, mod-lt, suc-mul, add-mul, lt_of_mul-lt-mul_right, one-mul, div-add-mod', zero-mul, mul_right_comm, le_of_mul-le-mul_right, arith}
use native.Mathlib.Nat.{mul-mod_left}
use Rattle.std.proofs.lemmas.Nat.{le-div}
use Rattle.price.specs.Rounding.{Ceiling, LastMultiple, FirstMultiple, Lesser, Greater}

-- `div_ceil` adds one exactly where there is a rest
rest : (x : ℕ) → ((min 1 x ≡ 0) × (x ≡ 0)) ⊎ ((min 1 x ≡ 1) × (0 < x))
rest zero = inl (omega arith, refl)
rest (suc x) = inr (omega arith, omega arith)

rounded_up : (n d q r up : ℕ) → 1 ≤ d → r < d → q * d + r ≡ n
    → ((up ≡ 0) × (r ≡ 0)) ⊎ ((up ≡ 1) × (0 < r)) → Ceiling n d (q + up)
rounded_up n d q r up positive less whole (inl (none, even)) number = (
  λ above. let t : q * d ≤ number * d = omega arith in let u : q ≤ number = le_of_mul-le-mul_right t positive in omega arith,
  λ least. let t : q ≤ number = omega arith in omega (arith, mul-le-mul_right d t),
)
rounded_up n d q r up positive less whole (inr (one, odd)) number = (
  λ above. let t : q * d < number * d = omega arith in let u : q < number = lt_of_mul-lt-mul_right d t in omega arith,
  λ least. let t : suc q ≤ number = omega arith in omega (arith, mul-le-mul_right d t, suc-mul q d),
)

pub ceiling_div : (n d : ℕ) → 1 ≤ d → Ceiling n d (n / d + min 1 (n % d))
ceiling_div n d positive =
    rounded_up n d (n / d) (n % d) (min 1 (n % d)) positive (mod-lt n positive) (div-add-mod' n d) (rest (n % d))

-- a multiple is a whole number of steps
pub in_steps : (step price : ℕ) → price % step ≡ 0 → price / step * step ≡ price
in_steps step price even = omega (arith, div-add-mod' price step)

pub last_multiple : (step most : ℕ) → 1 ≤ step → LastMultiple step most (most - most % step)
last_multiple step most positive =
    let whole : most - most % step ≡ most / step * step = omega (arith, div-add-mod' most step) in (
      ap (λ (x : ℕ). x % step) whole ∙ mul-mod_left (most / step) step,
      omega arith,
      λ other even below.
          let steps = in_steps step other even in
          let t : other / step ≤ most / step = le-div (other / step) most step positive (omega arith) in
          omega (arith, mul-le-mul_right step t),
    )

pub first_multiple : (step least : ℕ) → 1 ≤ step → FirstMultiple step least ((least / step + min 1 (least % step)) * step)
first_multiple step least positive =
    let up = ceiling_div least step positive in (
      mul-mod_left (least / step + min 1 (least % step)) step,
      (up (least / step + min 1 (least % step))).1 (omega arith),
      λ other even above.
          let steps = in_steps step other even in
          let t : least / step + min 1 (least % step) ≤ other / step = (up (other / step)).0 (omega arith) in
          omega (arith, mul-le-mul_right step t),
    )

-- the first multiple lies less than a step above
pub first_within : (step least : ℕ) → 1 ≤ step → (least / step + min 1 (least % step)) * step < least + step
first_within step least positive =
    elim (rest (least % step)) [
      | inl (none, even) ↦ omega (arith, add-mul (least / step) (min 1 (least % step)) step, ap (λ (x : ℕ). x * step) none, zero-mul step, div-add-mod' least step)
      | inr (one, odd) ↦ omega (arith, add-mul (least / step) (min 1 (least % step)) step, ap (λ (x : ℕ). x * step) one, one-mul step, div-add-mod' least step)
    ]

module _ (n d end : ℕ) where
  pub lesser_fraction : 1 ≤ d → n * 1000 ≤ end * d → Lesser n d end n d
  lesser_fraction positive less price = (
    λ below. (
      below,
      let t : price * 1000 * d ≤ end * d = omega (arith, mul_right_comm price 1000 d, mul-le-mul_right 1000 below) in
          let u : price * 1000 ≤ end = le_of_mul-le-mul_right t positive in
          omega arith,
    ),
    λ below _. below,
  )

  pub lesser_end : end * d < n * 1000 → Lesser n d end end 1000
  lesser_end less price = (
    λ below. (
      (let t : price * d * 1000 ≤ n * 1000 = omega (arith, mul_right_comm price 1000 d, mul-le-mul_right d below) in omega arith),
      omega arith,
    ),
    λ _ below. omega arith,
  )

  pub greater_fraction : 1 ≤ d → end * d ≤ n * 1000 → Greater n d end n d
  greater_fraction positive less price = (
    λ above. (
      above,
      let t : end * d ≤ price * 1000 * d = omega (arith, mul_right_comm price 1000 d, mul-le-mul_right 1000 above) in
          let u : end ≤ price * 1000 = le_of_mul-le-mul_right t positive in
          omega arith,
    ),
    λ above _. above,
  )

  pub greater_end : n * 1000 < end * d → Greater n d end end 1000
  greater_end less price = (
    λ above. (
      (let t : n * 1000 ≤ price * d * 1000 = omega (arith, mul_right_comm price 1000 d, mul-le-mul_right d above) in omega arith),
      omega arith,
    ),
    λ _ above. omega arith,
  )
