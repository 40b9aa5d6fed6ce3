-- Every ask of a lawful day was answered right.
use Rattle.std.proofs.Common.{◌≡◌, ℕ, ◌*◌, ◌≤◌, Bool, true, false, cond, not, ◌&&◌, eqb, leb, ℤ, Some, None, Ok, Err, Option, Result, sym, refl, ap, ◌∙◌, subst, inl, inr, arith}
use Rattle.std.proofs.lemmas.Bool.{and_parts, or_cases, not-false, both_ways, leb-true, not_from_true}
use Rattle.price.specs.Sets.{PriceSet, Prices, last_end}
use Rattle.price.specs.Closest.{closest}
use Rattle.price.specs.Questions.{Nearest}
use Rattle.price.proofs.Told.{between_parts}
use Rattle.price.proofs.Search.{closest_is_nearest}
use Rattle.rulebook.specs.declared.RuleFault.{RuleFault}
use Rattle.rulebook.specs.Meaning.{Meaning, PricesInBand}
use Rattle.history.specs.declared.calls.Call.{Call}
use Rattle.history.specs.declared.calls.Call.TheVariants.{Ask}
use Rattle.history.specs.declared.answers.Answer.{Answer}
use Rattle.history.specs.declared.answers.Answer.TheVariants.{Price}
use Rattle.price.specs.declared.PriceFault.TheVariants.{FractionOutsideLimits}
use Rattle.history.specs.declared.faults.DayFault.{DayFault}
use Rattle.history.specs.declared.faults.DayFault.TheVariants.{Price as Fraction, ContractNotListed}
use Rattle.history.specs.History.{History, opened, after, collar, collar_of}
use Rattle.history.specs.Prices.{inside_collar, admissible_in, band_now, admissible, is_fraction}
use Rattle.history.specs.Board.{board}
use Rattle.history.specs.Rulings.{◌when◌, refuse, unlisted, no_collar, priced, quoted, ruled, Fixed, Lawful}
use Rattle.history.specs.Law.{Made, AskedRight}
use Rattle.history.proofs.Steps.{Step, step, refused, lists, posts, collars, clocks, halts, lifts, asks, enters, withdraws}

-- every call that was made was answered as the history before it fixes, and that history is lawful too
pub fixed : (rules : Meaning) (h before : History) (call : Call) (answer : Answer) → Lawful rules h → Made h before call answer
    → Fixed rules before call answer × Lawful rules before
fixed rules opened before call answer lawful made = absurd made
fixed rules (after h made given) before call answer lawful (inl (same, is, gave)) = (
  sym gave ∙ lawful.1 ∙ ap (λ (c : Call). ruled rules h c) is ∙ ap (λ (g : History). ruled rules g call) same,
  subst (Lawful rules) same lawful.0,
)
fixed rules (after h made given) before call answer lawful (inr earlier) = fixed rules h before call answer lawful.0 earlier

-- a collar lies from 1 to 220,000,000,000 pips
abbrev Collared : Option (ℕ × ℕ) → Type 0
Collared None = Unit {0}
Collared (Some (low, high)) = (1 ≤ low) × (high ≤ 220_000_000_000)

new_collar : (low high : ℕ) (none : Bool) → (eqb low 0 && eqb high 0) ≡ none → no_collar low high ≡ false
    → Collared (cond none None (Some (low, high)))
new_collar low high true is within = tt
new_collar low high false is within =
    let allowed = not-false _ within in
    elim (or_cases (eqb low 0 && eqb high 0) _ allowed) [
      | inl zeros ↦ absurd (both_ways _ is zeros)
      | inr inside ↦
          (let (least, others) = and_parts (leb 1 low) _ inside in
          let (_, most) = and_parts (leb low high) _ others in
          (leb-true 1 low least, leb-true high 220_000_000_000 most))
    ]

chosen : (low high : ℕ) (here : Bool) (before : Option (ℕ × ℕ)) → Collared before → Collared (collar_of low high)
    → Collared (cond here (collar_of low high) before)
chosen low high true before old new = new
chosen low high false before old new = old

one_more : (rules : Meaning) (h : History) (contract : ℕ) (call : Call) (answer : Answer) → Step rules h call answer
    → Collared (collar h contract) → Collared (collar (after h call answer) contract)
one_more rules h contract call answer (refused _ fault) old = old
one_more rules h contract call answer (lists product next there) old = old
one_more rules h contract call answer (posts other letter value) old = old
one_more rules h contract call answer (collars other low high within) old =
    chosen low high (eqb contract other) (collar h contract) old (new_collar low high (eqb low 0 && eqb high 0) refl within)
one_more rules h contract call answer (clocks to count later) old = old
one_more rules h contract call answer (halts other) old = old
one_more rules h contract call answer (lifts other) old = old
one_more rules h contract call answer (asks other n d price distance) old = old
one_more rules h contract call answer (enters entry fit) old = old
one_more rules h contract call answer (withdraws k participant there) old = old

collared : (rules : Meaning) (h : History) (contract : ℕ) → Lawful rules h → Collared (collar h contract)
collared rules opened contract lawful = tt
collared rules (after h call answer) contract lawful =
    one_more rules h contract call answer (step rules h call answer lawful.1) (collared rules h contract lawful.0)

-- so every admissible set is one of prices
inside_prices : (ends : Option (ℕ × ℕ)) (set : PriceSet) → Collared ends → Prices (inside_collar ends set)
inside_prices None set within = record {
  positive = λ price in_set. omega (arith, (between_parts 1000 last_end set price in_set).1);
  bounded = λ price in_set. omega (arith, (between_parts 1000 last_end set price in_set).2);
}
inside_prices (Some (low, high)) set within = record {
  positive = λ price in_set. omega (arith, (between_parts (1000 * low) (1000 * high) set price in_set).1, within.0);
  bounded = λ price in_set. omega (arith, (between_parts (1000 * low) (1000 * high) set price in_set).2, within.1);
}

-- the answer of an ask, by what the search for the nearest found
by_nearest : (rules : Meaning) (h : History) (contract n d : ℕ) (found : Option (ℕ × ℤ)) (answer : Answer)
    → Nearest (admissible rules h contract) n d found → answer ≡ priced found → AskedRight rules h contract n d answer
by_nearest rules h contract n d None answer near is = inl (is, near)
by_nearest rules h contract n d (Some (best, signed)) answer near is =
    inr (best, is ∙ ap (λ (s : ℤ). Price best s) near.1, near.0, near.2)

posted : (rules : Meaning) (h : History) (contract n d : ℕ) (prices : PricesInBand) (band : Result PricesInBand RuleFault) (ends : Option (ℕ × ℕ)) (answer : Answer)
    → band ≡ Ok prices → answer ≡ quoted band ends n d → answer ≡ priced (closest (admissible_in band ends) n d)
unfolding quoted
posted rules h contract n d prices (Ok said) ends answer is given = given
posted rules h contract n d prices (Err fault) ends answer is given = absurd cc

band_prices : (rules : Meaning) (h : History) (contract : ℕ) (prices : PricesInBand) (band : Result PricesInBand RuleFault) (ends : Option (ℕ × ℕ))
    → band ≡ Ok prices → Collared ends → Prices (admissible_in band ends)
band_prices rules h contract prices (Ok said) ends is within = inside_prices ends _ within
band_prices rules h contract prices (Err fault) ends is within = absurd cc

-- a check that is passed
pub passed : (fault : DayFault) (ground : Bool) (rest answer : Answer) → ground ≡ false → answer ≡ refuse (fault when ground) rest → answer ≡ rest
passed fault true rest answer is given = cc
passed fault false rest answer is given = given

pub asked_right : (rules : Meaning) (h : History) → Lawful rules h → (before : History) (contract n d : ℕ) (answer : Answer) (prices : PricesInBand)
    → Made h before (Ask contract n d) answer → is_fraction n d ≡ true → unlisted (board rules before) contract ≡ false
    → band_now rules before contract ≡ Ok prices → AskedRight rules before contract n d answer
asked_right rules h lawful before contract n d answer prices made fraction there band =
    let (fixes, earlier) = fixed rules h before (Ask contract n d) answer lawful made in
    let found = closest (admissible rules before contract) n d in
    let last = quoted (band_now rules before contract) (collar before contract) n d in
    let first = passed (Fraction FractionOutsideLimits) (not (is_fraction n d)) (refuse (ContractNotListed when unlisted (board rules before) contract) last) answer (not_from_true _ fraction) fixes in
    let second = passed ContractNotListed (unlisted (board rules before) contract) last answer there first in
    by_nearest rules before contract n d found answer
    (closest_is_nearest (admissible rules before contract) n d
    (band_prices rules before contract prices (band_now rules before contract) (collar before contract) band (collared rules before contract earlier)))
    (posted rules before contract n d prices (band_now rules before contract) (collar before contract) answer band second)
