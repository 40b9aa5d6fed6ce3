-- Worked cases: a fraction asked for on the multiples of a unit between two ends, and the answer worked out by hand.
use Rattle.std.specs.Prelude.{◌≡◌, ℕ, ◌+◌, ◌-◌, ◌*◌, ◌/◌, ◌<◌, ◌≤◌, ◌⊎◌, List, [], ◌∷◌, ℤ, pos, negsuc, Some, None, Option}
use Rattle.std.specs.List.{AllByRecursion}
use Rattle.price.specs.Sets.{◌among◌, multiples, between}
use Rattle.price.specs.Questions.{signed_distance, Worse, Nearest}
use Rattle.price.specs.Rounding.{LastMultiple}

pub record Case : Type 0 where
  pub unit : ℕ
  pub low : ℕ
  pub high : ℕ
  pub n : ℕ
  pub d : ℕ
  pub answer : Option (ℕ × ℤ)

-- the answer is the nearest price to the fraction, with its distance
abbrev pub Right : Case → Type 0
Right c = Nearest (between c.low c.high (multiples c.unit)) c.n c.d c.answer

-- soybeans at 1,000,000 with 32% either side: halfway between two prices, and half a pip short of halfway (-9,999 halves)
abbrev pub halfway : Case
halfway = record {
  unit = 10_000;
  low = 680_000_000;
  high = 1_320_000_000;
  n = 1_005_000;
  d = 1;
  answer = Some (1_010_000, pos 5_000);
}

abbrev pub short_of_halfway : Case
short_of_halfway = record {
  unit = 10_000;
  low = 680_000_000;
  high = 1_320_000_000;
  n = 2_009_999;
  d = 2;
  answer = Some (1_000_000, negsuc 9_998);
}

-- soybeans at 15,000: the band holds no multiple of the unit
abbrev pub no_price : Case
no_price = record { unit = 10_000; low = 10_200_000; high = 19_800_000; n = 15_000; d = 1; answer = None }

-- soybeans at 20,000: the band holds one
abbrev pub one_price : Case
one_price = record {
  unit = 10_000;
  low = 13_600_000;
  high = 26_400_000;
  n = 1;
  d = 1;
  answer = Some (20_000, pos 19_999);
}

abbrev pub cases : List Case
cases = halfway ∷ short_of_halfway ∷ no_price ∷ one_price ∷ []

-- the theorem that decides them: a price of such a set that neither neighbour beats is the nearest,
-- and where the last multiple up to the high end is below the low end, or none, the set is empty
pub record NeighboursDecide (unit low high n d : ℕ) : Type 0 where
  pub unbeaten : (price : ℕ) → price among between low high (multiples unit)
      → (price + unit among between low high (multiples unit) → Worse n d (price + unit) price)
      → (price - unit among between low high (multiples unit) → Worse n d (price - unit) price)
      → Nearest (between low high (multiples unit)) n d (Some (price, signed_distance n d price))
  pub empty : (last : ℕ) → LastMultiple unit (high / 1000) last → (1000 * last < low) ⊎ (last ≡ 0)
      → Nearest (between low high (multiples unit)) n d None

pub record WorkedCasesAreRight : Type 0 where
  pub decided : (unit low high n d : ℕ) → 1 ≤ unit → 1 ≤ d → NeighboursDecide unit low high n d
  pub right : AllByRecursion Right cases
