-- The worked cases, and what the mid-price is nearest to.
use Rattle.std.proofs.Common.{◌≡◌, ℕ, ◌+◌, ◌≤◌, Bool, true, false, not, ◌&&◌, List, [], ◌∷◌, ℤ, pos, Some, None, Option, sym, refl, ap, subst, arith}
use native.Mathlib.Nat.{mod_self}
use Rattle.std.specs.List.{AllByRecursion}
use Rattle.std.proofs.lemmas.Bool.{and_parts, not-true}
use Rattle.price.specs.Sets.{multiples}
use Rattle.price.specs.Closest.{closest}
use Rattle.price.specs.Questions.{Nearest}
use Rattle.price.proofs.Told.{multiple_from}
use Rattle.price.proofs.Neighbours.{nearest_multiple_by_neighbours}
use Rattle.rulebook.specs.declared.Letter.TheVariants.{B, O}
use Rattle.books.specs.Reference.{price_of, mid, MidPrice}
use Rattle.books.specs.Exchange.{single_issue_rule, flexible_rule}
use Rattle.books.specs.Laws.{TheMidPriceIsNearest}
use Rattle.books.specs.Worked.{Case, admits, Right, cases, WorkedCasesAreRight}
use Rattle.books.specs.Mid.{found_nearest}

mid_found : (step sum : ℕ) (found : Option (ℕ × ℤ)) → 1 ≤ step → step ≤ 100_000 → found ≡ closest (multiples step) sum 2
    → (bid offer : ℕ) → bid + offer ≡ sum → MidPrice step (Some bid) (Some offer) (price_of found)
mid_found step sum None one small is bid offer adds =
    absurd (found_nearest step sum 2 None is step (multiple_from step step one (omega arith) (mod_self step)))
mid_found step sum (Some (price, signed)) one small is bid offer adds =
    (signed, subst (λ (n : ℕ). Nearest (multiples step) n 2 (Some (price, signed))) (sym adds) (found_nearest step sum 2 (Some (price, signed)) is))

mid_is_nearest : (step : ℕ) (bid offer : Option ℕ) → 1 ≤ step → step ≤ 100_000 → MidPrice step bid offer (mid step bid offer)
mid_is_nearest step None offer one small = refl
mid_is_nearest step (Some bid) None one small = refl
mid_is_nearest step (Some bid) (Some offer) one small =
    mid_found step (bid + offer) (closest (multiples step) (bid + offer) 2) one small refl bid offer refl

pub the_mid_price_is_nearest : TheMidPriceIsNearest
the_mid_price_is_nearest step figures one small = mid_is_nearest step (figures B) (figures O) one small

-- The cases are one test that is computed; the nearest multiple in it is decided by its neighbours.

all_admitted : Case → List ℕ → Bool
all_admitted c [] = true
all_admitted c (price ∷ others) = admits c price && all_admitted c others

none_admitted : Case → List ℕ → Bool
none_admitted c [] = true
none_admitted c (price ∷ others) = not (admits c price) && none_admitted c others

all_right : List Case → Bool
all_right [] = true
all_right (c ∷ others) = (all_admitted c c.admitted && none_admitted c c.turned_away) && all_right others

admitted : (c : Case) (list : List ℕ) → all_admitted c list ≡ true → AllByRecursion (λ price. admits c price ≡ true) list
unfolding all_admitted
admitted c [] test = tt
admitted c (price ∷ others) test = let (first, later) = and_parts _ _ test in (first, admitted c others later)

turned_away : (c : Case) (list : List ℕ) → none_admitted c list ≡ true → AllByRecursion (λ price. admits c price ≡ false) list
unfolding none_admitted
turned_away c [] test = tt
turned_away c (price ∷ others) test =
    let (first, later) = and_parts _ _ test in (not-true _ first, turned_away c others later)

right : (list : List Case) → all_right list ≡ true → AllByRecursion Right list
unfolding all_right
right [] test = tt
right (c ∷ others) test =
    let (here, later) = and_parts _ _ test in
    let (taken, refused) = and_parts _ _ here in
    ((admitted c c.admitted taken, turned_away c c.turned_away refused), right others later)

half_way : closest (multiples 100_000) 800_100_000 2 ≡ Some (400_100_000, pos 100_000)
half_way = nearest_multiple_by_neighbours 100_000 800_100_000 2 400_100_000 (pos 100_000) refl

pub worked_cases : WorkedCasesAreRight
unfolding single_issue_rule flexible_rule all_admitted none_admitted all_right
worked_cases = record {
  right = right cases (rw half_way refl);
  soybean_ends = refl;
  higher_soybean_ends = refl;
  usual_soybean_ends = refl;
  nikkei_mid = ap price_of half_way;
  nikkei_trading = rw half_way refl;
  bonds_open_at_914 = refl;
  bonds_closed_at_915 = refl;
}
