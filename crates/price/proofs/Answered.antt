-- Each question has exactly one answer. The greatest price at or below n / d is the nearest of those at or below it,
-- and so for the least at or above; what the search finds among them is therefore the answer.
use Rattle.std.proofs.Common.{ℕ, ◌*◌, ◌≤◌, Bool, ◌&&◌, leb, ℤ, Some, None, Option, inl, inr, le_of_mul-le-mul_right, arith}
use Rattle.std.proofs.lemmas.Bool.{and_parts, and_from, leb-true, le-leb, cases_lt, cases_eq}
use Rattle.price.specs.Sets.{PriceSet, Prices}
use Rattle.price.specs.Questions.{GreatestAtOrBelow, LeastAtOrAbove, Nearest}
use Rattle.price.specs.Closest.{closest}
use Rattle.price.specs.Laws.{OneAnswer, EachQuestionHasOneAnswer}
use Rattle.price.proofs.Nearness.{one_greatest, one_least, one_nearest}
use Rattle.price.proofs.Search.{closest_is_nearest}

-- a set cut by a test
cut : (ℕ → Bool) → PriceSet → PriceSet
cut test set price = set price && test price

-- the price of an answer
price_of : Option (ℕ × ℤ) → Option ℕ
price_of None = None
price_of (Some (price, signed)) = Some price

module _ (set : PriceSet) (n d : ℕ) where
  cut_prices : (test : ℕ → Bool) → Prices set → Prices (cut test set)
  unfolding cut
  cut_prices test prices = record {
    positive = λ price in_set. prices.positive price (and_parts _ _ in_set).0;
    bounded = λ price in_set. prices.bounded price (and_parts _ _ in_set).0;
  }

  -- the nearest price at or below
  below_from_nearest : (r : Option (ℕ × ℤ)) → 1 ≤ d → Nearest (cut (λ price. leb (price * d) n) set) n d r
      → GreatestAtOrBelow set n d (price_of r)
  unfolding cut price_of
  below_from_nearest None positive near = λ p in_set.
      elim (cases_lt n (p * d)) [
        | inl above ↦ above
        | inr below ↦ absurd (near p (and_from _ _ in_set (le-leb _ _ below)))
      ]
  below_from_nearest (Some (r, s)) positive near =
      let parts = and_parts _ _ near.0 in
      let under = leb-true _ _ parts.1 in (
        parts.0,
        under,
        λ p in_set below.
            elim (cases_eq p r) [
              | inl same ↦ omega arith
              | inr other ↦
                  elim (near.2 p (and_from _ _ in_set (le-leb _ _ below)) other) [
                    | inl farther ↦ (let less : p * d ≤ r * d = omega arith in le_of_mul-le-mul_right less positive)
                    | inr lower ↦ omega (arith, lower.1)
                  ]
            ],
      )

  -- the nearest price at or above
  above_from_nearest : (r : Option (ℕ × ℤ)) → 1 ≤ d → Nearest (cut (λ price. leb n (price * d)) set) n d r
      → LeastAtOrAbove set n d (price_of r)
  unfolding cut price_of
  above_from_nearest None positive near = λ p in_set.
      elim (cases_lt (p * d) n) [
        | inl below ↦ below
        | inr above ↦ absurd (near p (and_from _ _ in_set (le-leb _ _ above)))
      ]
  above_from_nearest (Some (r, s)) positive near =
      let parts = and_parts _ _ near.0 in
      let over = leb-true _ _ parts.1 in (
        parts.0,
        over,
        λ p in_set above.
            elim (cases_eq p r) [
              | inl same ↦ omega arith
              | inr other ↦
                  elim (near.2 p (and_from _ _ in_set (le-leb _ _ above)) other) [
                    | inl farther ↦ (let less : r * d ≤ p * d = omega arith in le_of_mul-le-mul_right less positive)
                    | inr lower ↦ (let less : r * d ≤ p * d = omega (arith, lower.0) in le_of_mul-le-mul_right less positive)
                  ]
            ],
      )

  answered_below : Prices set → 1 ≤ d → OneAnswer (GreatestAtOrBelow set n d)
  answered_below prices positive =
      let below = λ (price : ℕ). leb (price * d) n in
      let found = below_from_nearest _ positive (closest_is_nearest (cut below set) n d (cut_prices below prices)) in
      record { answer = price_of (closest (cut below set) n d); right = found; only = λ other holds. one_greatest set n d other _ holds found }

  answered_above : Prices set → 1 ≤ d → OneAnswer (LeastAtOrAbove set n d)
  answered_above prices positive =
      let above = λ (price : ℕ). leb n (price * d) in
      let found = above_from_nearest _ positive (closest_is_nearest (cut above set) n d (cut_prices above prices)) in
      record { answer = price_of (closest (cut above set) n d); right = found; only = λ other holds. one_least set n d other _ holds found }

  answered_nearest : Prices set → OneAnswer (Nearest set n d)
  answered_nearest prices =
      let found = closest_is_nearest set n d prices in
      record { answer = closest set n d; right = found; only = λ other holds. one_nearest set n d other _ holds found }

pub each_question_has_one_answer : EachQuestionHasOneAnswer
each_question_has_one_answer = record {
  greatest = answered_below;
  least = answered_above;
  nearest = answered_nearest;
  closest_is_nearest = closest_is_nearest;
}
