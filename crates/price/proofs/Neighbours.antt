-- On the multiples of a unit between two ends, a price that neither neighbour beats is the nearest.
use Rattle.std.proofs.Common.{◌≡◌, ℕ, suc, ◌+◌, ◌-◌, ◌*◌, ◌/◌, ◌%◌, ◌<◌, ◌≤◌, Bool, true, false, not, ◌&&◌, ◌||◌, eqb, ltb, leb, ◌⊎◌, List, [], ◌∷◌, ℤ, pos, negsuc, Some, None, Option, sym, refl, ap, ◌∙◌, subst, inl, inr, mul-le-mul_right, suc-mul, lt_of_mul-lt-mul_right, arith}
use native.Mathlib.Nat.{add-mod_right, mod-eq-sub-mod}
use Rattle.std.specs.List.{AllByRecursion}
use Rattle.std.proofs.lemmas.Nat.{le-div}
use Rattle.std.proofs.lemmas.Bool.{and_parts, or_cases, not-true, both_ways, leb-true, ltb-true, eqb-true, cases_lt, cases_order}
use Rattle.price.specs.Sets.{PriceSet, ◌among◌, last_price, multiples, between}
use Rattle.price.specs.Closest.{closest}
use Rattle.price.specs.Questions.{distance, signed_distance, Worse, Nearest}
use Rattle.price.specs.Rounding.{LastMultiple}
use Rattle.price.specs.Worked.{Case, Right, cases, NeighboursDecide, WorkedCasesAreRight}
use Rattle.price.proofs.Quotients.{in_steps, last_multiple}
use Rattle.price.proofs.Nearness.{up}
use Rattle.price.proofs.Search.{nearest_is_closest}
use Rattle.price.proofs.Told.{multiples_are_prices, multiple_parts, multiple_from, between_parts, between_from}

-- two multiples lie at least a unit apart
unit_apart : (unit lower higher : ℕ) → lower % unit ≡ 0 → higher % unit ≡ 0 → lower < higher → lower + unit ≤ higher
unit_apart unit lower higher even even' less =
    let steps = in_steps unit lower even in
    let steps' = in_steps unit higher even' in
    let t : lower / unit * unit < higher / unit * unit = omega arith in
    let u : lower / unit < higher / unit = lt_of_mul-lt-mul_right unit t in
    omega (arith, mul-le-mul_right {m = suc (lower / unit)} {n = higher / unit} unit u, suc-mul (lower / unit) unit)

module _ (unit low high n d : ℕ) (one : 1 ≤ unit) (whole : 1 ≤ d) where
  abbrev set : PriceSet
  set = between low high (multiples unit)

  -- a multiple between two prices of the set is of the set
  inside : (lower price higher : ℕ) → lower among set → higher among set → lower ≤ price → price ≤ higher → price % unit ≡ 0
      → price among set
  inside lower price higher in_low in_high least most even =
      let (from_low, low_end, _) = between_parts low high (multiples unit) lower in_low in
      let (from_high, _, high_end) = between_parts low high (multiples unit) higher in_high in
      let (positive, _, _) = multiple_parts unit lower from_low in
      let (_, bounded, _) = multiple_parts unit higher from_high in
      between_from low high (multiples unit) price
      (multiple_from unit price (omega arith) (omega arith) even) (omega arith) (omega arith)

  even : (price : ℕ) → price among set → price % unit ≡ 0
  even price in_set = (multiple_parts unit price (between_parts low high (multiples unit) price in_set).0).2

  -- where the next price up is worse, so is every price above
  worse_up : (price other : ℕ) → price among set → (price + unit among set → Worse n d (price + unit) price)
      → other among set → price < other → Worse n d other price
  worse_up price other in_set next in_other less =
      let apart = unit_apart unit price other (even price in_set) (even other in_other) less in
      let in_next = inside price (price + unit) other in_set in_other (omega arith) apart (add-mod_right price unit ∙ even price in_set) in
      let near = mul-le-mul_right {m = price} {n = price + unit} d (omega arith) in
      let far = mul-le-mul_right {m = price + unit} {n = other} d apart in
      elim (next in_next) [ inl farther ↦ inl (omega arith) | inr lower ↦ absurd (omega (arith, lower.1)) ]

  -- where the next price down is worse, so is every price below
  worse_down : (price other : ℕ) → price among set → (price - unit among set → Worse n d (price - unit) price)
      → other among set → other < price → Worse n d other price
  worse_down price other in_set next in_other less =
      let apart = unit_apart unit other price (even other in_other) (even price in_set) less in
      let in_next = inside other (price - unit) price in_other in_set (omega arith) (omega arith)
      (sym (mod-eq-sub-mod {n = price} {m = unit} (omega arith)) ∙ even price in_set) in
      let near = up d (price - unit) price (omega arith) in
      let far = mul-le-mul_right {m = other} {n = price - unit} d (omega arith) in
      let no_nearer : distance n d price ≤ distance n d other =
      elim (next in_next) [ inl farther ↦ omega arith | inr lower ↦ omega (arith, lower.0) ] in
      elim (cases_lt (distance n d price) (distance n d other)) [
        | inl farther ↦ inl farther
        | inr as_far ↦ inr (omega arith, less)
      ]

  unbeaten : (price : ℕ) → price among set
      → (price + unit among set → Worse n d (price + unit) price)
      → (price - unit among set → Worse n d (price - unit) price)
      → Nearest set n d (Some (price, signed_distance n d price))
  unbeaten price in_set above below = (
    in_set,
    refl,
    λ other in_other differs.
        elim (cases_order other price) [
          | inl same ↦ absurd (differs same)
          | inr (inl less) ↦ worse_down price other in_set below in_other less
          | inr (inr more) ↦ worse_up price other in_set above in_other more
        ],
  )

  empty : (last : ℕ) → LastMultiple unit (high / 1000) last → (1000 * last < low) ⊎ (last ≡ 0) → Nearest set n d None
  empty last is_last nothing price in_set =
      let (from_set, low_end, high_end) = between_parts low high (multiples unit) price in_set in
      let (positive, _, in_units) = multiple_parts unit price from_set in
      let most = is_last.2 price in_units (le-div price high 1000 (omega arith) (omega arith)) in
      elim nothing [ inl below ↦ omega arith | inr none ↦ omega arith ]

pub neighbours_decide : (unit low high n d : ℕ) → 1 ≤ unit → 1 ≤ d → NeighboursDecide unit low high n d
neighbours_decide unit low high n d one whole =
    record { unbeaten = unbeaten unit low high n d one whole; empty = empty unit low high n d one whole }

-- Whether a case can be decided so is a test that is computed.

abbrev pub same_signed : ℤ → ℤ → Bool
same_signed (pos a) (pos b) = eqb a b
same_signed (pos a) (negsuc b) = false
same_signed (negsuc a) (pos b) = false
same_signed (negsuc a) (negsuc b) = eqb a b

same_signed_true : (x y : ℤ) → same_signed x y ≡ true → x ≡ y
same_signed_true (pos a) (pos b) same = ap pos (eqb-true a b same)
same_signed_true (pos a) (negsuc b) same = absurd (both_ways false refl same)
same_signed_true (negsuc a) (pos b) same = absurd (both_ways false refl same)
same_signed_true (negsuc a) (negsuc b) same = ap negsuc (eqb-true a b same)

-- the last multiple of a unit up to a high end
abbrev pub last_of : ℕ → ℕ → ℕ
last_of unit high = high / 1000 - high / 1000 % unit

module _ (unit low high n d : ℕ) where
  abbrev pub decides : Option (ℕ × ℤ) → Bool
  decides None = ltb (1000 * last_of unit high) low || eqb (last_of unit high) 0
  decides (Some (price, signed)) =
      between low high (multiples unit) price
      && (same_signed signed (signed_distance n d price)
      && ((not (between low high (multiples unit) (price + unit)) || ltb (distance n d price) (distance n d (price + unit)))
      && (not (between low high (multiples unit) (price - unit)) || leb (distance n d price) (distance n d (price - unit)))))

  -- a neighbour that is out of the set or farther, or below and no nearer, does not beat a price
  not_above : (price : ℕ)
      → (not (between low high (multiples unit) (price + unit)) || ltb (distance n d price) (distance n d (price + unit))) ≡ true
      → price + unit among between low high (multiples unit) → Worse n d (price + unit) price
  not_above price test in_set =
      elim (or_cases _ _ test) [
        | inl out ↦ absurd (both_ways _ (not-true _ out) in_set)
        | inr farther ↦ inl (ltb-true _ _ farther)
      ]

  not_below : (price : ℕ) → 1 ≤ unit → 1 ≤ price
      → (not (between low high (multiples unit) (price - unit)) || leb (distance n d price) (distance n d (price - unit))) ≡ true
      → price - unit among between low high (multiples unit) → Worse n d (price - unit) price
  not_below price one positive test in_set =
      elim (or_cases _ _ test) [
        | inl out ↦ absurd (both_ways _ (not-true _ out) in_set)
        | inr no_nearer ↦
            elim (cases_lt (distance n d price) (distance n d (price - unit))) [
              | inl farther ↦ inl farther
              | inr as_far ↦
                  (let at_most = leb-true (distance n d price) (distance n d (price - unit)) no_nearer in
                  let same : distance n d price ≡ distance n d (price - unit) = omega arith in
                  inr (same, omega arith))
            ]
      ]

  decided : (answer : Option (ℕ × ℤ)) → 1 ≤ unit → 1 ≤ d → decides answer ≡ true
      → Nearest (between low high (multiples unit)) n d answer
  decided None one whole test =
      (neighbours_decide unit low high n d one whole).empty _ (last_multiple unit (high / 1000) one)
      (elim (or_cases _ _ test) [ inl below ↦ inl (ltb-true _ _ below) | inr none ↦ inr (eqb-true _ _ none) ])
  decided (Some (price, signed)) one whole test =
      let (in_set, others) = and_parts _ _ test in
      let (same, neighbours) = and_parts _ _ others in
      let (above, below) = and_parts _ _ neighbours in
      let positive = (multiple_parts unit price (between_parts low high (multiples unit) price in_set).0).0 in
      subst (λ (s : ℤ). Nearest (between low high (multiples unit)) n d (Some (price, s))) (sym (same_signed_true _ _ same))
      ((neighbours_decide unit low high n d one whole).unbeaten price in_set (not_above price above) (not_below price one positive below))

passes : Case → Bool
passes c = leb 1 c.unit && (leb 1 c.d && decides c.unit c.low c.high c.n c.d c.answer)

all_pass : List Case → Bool
all_pass [] = true
all_pass (c ∷ others) = passes c && all_pass others

all_right : (list : List Case) → all_pass list ≡ true → AllByRecursion Right list
unfolding all_pass passes
all_right [] test = tt
all_right (c ∷ others) test =
    let (first, later) = and_parts _ _ test in
    let (one, then) = and_parts _ _ first in
    let (whole, test') = and_parts _ _ then in
    (decided c.unit c.low c.high c.n c.d c.answer (leb-true _ _ one) (leb-true _ _ whole) test', all_right others later)

pub worked_cases : WorkedCasesAreRight
unfolding all_pass passes
worked_cases = record { decided = neighbours_decide; right = all_right cases refl }

-- The same without ends: every multiple of a unit lies between 0 and 1,000 times the last price.

abbrev pub whole_range : ℕ
whole_range = 1000 * last_price

widened : (unit n d : ℕ) (answer : Option (ℕ × ℤ)) → Nearest (between 0 whole_range (multiples unit)) n d answer → Nearest (multiples unit) n d answer
widened unit n d None near = λ price in_set.
    near price (between_from 0 whole_range (multiples unit) price in_set (omega arith) (omega (arith, (multiple_parts unit price in_set).1)))
widened unit n d (Some (nearest, signed)) near = (
  (between_parts 0 whole_range (multiples unit) nearest near.0).0,
  near.1,
  λ price in_set other.
      near.2 price (between_from 0 whole_range (multiples unit) price in_set (omega arith) (omega (arith, (multiple_parts unit price in_set).1))) other,
)

-- the nearest multiple of a unit, where the test of its neighbours is computed
pub nearest_multiple_by_neighbours : (unit n d price : ℕ) (signed : ℤ)
    → (leb 1 unit && (leb 1 d && decides unit 0 whole_range n d (Some (price, signed)))) ≡ true
    → closest (multiples unit) n d ≡ Some (price, signed)
nearest_multiple_by_neighbours unit n d price signed test =
    let (one, others) = and_parts _ _ test in
    let (whole, decided_by) = and_parts _ _ others in
    sym (nearest_is_closest (multiples unit) n d (Some (price, signed)) (multiples_are_prices unit)
    (widened unit n d (Some (price, signed))
    (decided unit 0 whole_range n d (Some (price, signed)) (leb-true 1 unit one) (leb-true 1 d whole) decided_by)))
