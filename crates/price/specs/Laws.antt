-- What holds of all price sets: each question has exactly one answer, and the sets of the grids are what they are called.
use Rattle.std.specs.Prelude.{◌≡◌, ℕ, ◌*◌, ◌<◌, ◌≤◌}
use Rattle.price.specs.Sets.{PriceSet, ◌among◌, Prices, last_price, multiples, single, between}
use Rattle.price.specs.Questions.{GreatestAtOrBelow, LeastAtOrAbove, Nearest}
use Rattle.price.specs.Closest.{closest}

-- a question that has an answer, and no other
pub record OneAnswer {A : Type 0} (Answers : A → Type 0) : Type 0 where
  pub answer : A
  pub right : Answers answer
  pub only : (other : A) → Answers other → other ≡ answer

pub record EachQuestionHasOneAnswer : Type 0 where
  pub greatest : (set : PriceSet) (n d : ℕ) → Prices set → 1 ≤ d → OneAnswer (GreatestAtOrBelow set n d)
  pub least : (set : PriceSet) (n d : ℕ) → Prices set → 1 ≤ d → OneAnswer (LeastAtOrAbove set n d)
  pub nearest : (set : PriceSet) (n d : ℕ) → Prices set → OneAnswer (Nearest set n d)
  -- and the search for the nearest finds it
  pub closest_is_nearest : (set : PriceSet) (n d : ℕ) → Prices set → Nearest set n d (closest set n d)

pub record SetsHoldWhatTheySay : Type 0 where
  -- the multiples of a step are one step, two steps and so on, up to the last price
  pub counted : (step price : ℕ) → price among multiples step → (count : ℕ) × (1 ≤ count) × (count * step ≡ price)
  pub every_multiple : (step count : ℕ) → 1 ≤ step → 1 ≤ count → count * step ≤ last_price → count * step among multiples step
  pub no_further : (step price : ℕ) → price among multiples step → price ≤ last_price
  -- a single price is the only one of its set
  pub itself : (price : ℕ) → price among single price
  pub no_other : (price other : ℕ) → other among single price → other ≡ price
  -- a limit keeps the prices of the set from its low end to its high end, and no other
  pub kept : (low high : ℕ) (set : PriceSet) (price : ℕ)
      → price among set → low ≤ 1000 * price → 1000 * price ≤ high → price among between low high set
  pub of_the_set : (low high : ℕ) (set : PriceSet) (price : ℕ) → price among between low high set → price among set
  pub not_below : (low high : ℕ) (set : PriceSet) (price : ℕ) → price among between low high set → low ≤ 1000 * price
  pub not_above : (low high : ℕ) (set : PriceSet) (price : ℕ) → price among between low high set → 1000 * price ≤ high
  -- so none where the low end passes the high
  pub crossed : (low high : ℕ) (set : PriceSet) (price : ℕ) → high < low → price among between low high set → ⊥
