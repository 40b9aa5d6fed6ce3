-- The prices that a row gives are prices, and the ends of its band keep their bounds.
use Rattle.std.specs.Prelude.{◌≡◌, ℕ, ◌+◌, ◌-◌, ◌*◌, ◌<◌, ◌≤◌, Bool, true, false, cond, ℤ, Some, None, Ok, Err, Option, Result, ◌==◌, ◌≢◌}
use Rattle.std.proofs.Math.Path.{refl, ap, subst}
use Rattle.std.proofs.Common.{◌∙◌}
use native.Mathlib.Omega.{arith}
use Rattle.std.proofs.lemmas.Nat.{mul-le}
use Rattle.std.proofs.lemmas.Bool.{cond_both, and_parts, leb-true, eq-eqb, eqb-true, both_ways, or_left}
use Rattle.price.specs.Sets.{multiples, Prices, last_end}
use Rattle.price.specs.Closest.{closest}
use Rattle.price.specs.Makers.{from_to}
use Rattle.price.proofs.Told.{multiple_parts, multiples_are_prices}
use Rattle.rulebook.specs.declared.Letter.{Letter}
use Rattle.rulebook.specs.declared.Letter.TheVariants.{B, O, L, U, H, K, M}
use Rattle.rulebook.specs.declared.RuleFault.{RuleFault}
use Rattle.rulebook.specs.declared.RuleFault.TheVariants.{ProductAbsent}
use Rattle.rulebook.specs.Letters.{rank, same, most}
use Rattle.rulebook.specs.Sheets.{Sheet, WithinLimits}
use Rattle.rulebook.specs.Meaning.{PricesInBand, lacking, unless_lacking, prices_of_product, Meaning, prices_of, Sound}
use Rattle.rulebook.specs.Laws.{FirstLacking}
use Rattle.rulebook.proofs.Lackings.{first_lacking}
use Rattle.books.specs.declared.rows.Centre.{Centre}
use Rattle.books.specs.declared.rows.Centre.TheVariants.{TradingPrice, LastPrice, ReferencePrice, TheoreticalPrice}
use Rattle.books.specs.declared.rows.Row.{Row}
use Rattle.books.specs.Reference.{◌else◌, amount, price_of, mid, mid_price, chooses_last, trading_price, last_or_reference}
use Rattle.books.specs.Rows.{centre_letter, needs, centre, swing, row_product, Small, weight_stands, step_stands}
use Rattle.books.specs.Exchange.{Rule, single_issue_rule, flexible_rule}
use Rattle.books.specs.Books.{written, row_in, product_of, product_in, single_issue, flexible, at_settlement, compression}
use Rattle.books.specs.Bounds.{single_issue_small, flexible_small}
use Rattle.books.specs.Mid.{found_nearest, nearest_small}

-- a figure from 1 to a most, if it is posted
Fine : ℕ → Option ℕ → Type 0
Fine top None = Unit {0}
Fine top (Some value) = (1 ≤ value) × (value ≤ top)

Posted : Option ℕ → Type 0
Posted None = ⊥
Posted (Some value) = Unit {0}

else_fine : (top : ℕ) (one other : Option ℕ) → Fine top one → Fine top other → Fine top (one else other)
unfolding Fine
else_fine top None other f g = g
else_fine top (Some value) other f g = f

else_posted : (one other : Option ℕ) → Posted other → Posted (one else other)
unfolding Posted
else_posted None other g = g
else_posted (Some value) other g = tt

amount_within : (top : ℕ) (figure : Option ℕ) → Fine top figure → Posted figure → (1 ≤ amount figure) × (amount figure ≤ top)
unfolding Fine Posted
amount_within top None f g = absurd g
amount_within top (Some value) f g = f

amount_most : (top : ℕ) (figure : Option ℕ) → Fine top figure → amount figure ≤ top
unfolding Fine
amount_most top None f = omega arith
amount_most top (Some value) f = f.1

fine_more : (top more : ℕ) (figure : Option ℕ) → top ≤ more → Fine top figure → Fine more figure
unfolding Fine
fine_more top more None less f = tt
fine_more top more (Some value) less f = (f.0, omega (arith, f.1))

most_small : (letter : Letter) → most letter ≤ 100_000_000_000
most_small letter =
    cond_both (rank letter == 13) 2 100_000_000_000 (λ (x : ℕ). x ≤ 100_000_000_000) (λ _. omega arith) (λ _. omega arith)

fine_at : (figures : Sheet) → WithinLimits figures → (letter : Letter) (figure : Option ℕ) → figures letter ≡ figure → Fine 100_000_000_000 figure
unfolding Fine
fine_at figures within letter None is = tt
fine_at figures within letter (Some value) is =
    (within.positive letter value is, omega (arith, within.bounded letter value is, most_small letter))

module _ (figures : Sheet) (within : WithinLimits figures) where
  fine : (letter : Letter) → Fine 100_000_000_000 (figures letter)
  fine letter = fine_at figures within letter (figures letter) refl

  found_fine : (step sum : ℕ) (found : Option (ℕ × ℤ)) → 1 ≤ step → step ≤ 100_000 → sum ≤ 200_000_000_000
      → found ≡ closest (multiples step) sum 2 → Fine 100_000_100_000 (price_of found)
  unfolding Fine
  found_fine step sum None one small bounded is = tt
  found_fine step sum (Some (price, signed)) one small bounded is =
      let near = found_nearest step sum 2 (Some (price, signed)) is in
      ((multiple_parts step price near.0).0, nearest_small step sum price signed one small bounded near)

  mid_fine : (step : ℕ) (bid offer : Option ℕ) → 1 ≤ step → step ≤ 100_000
      → Fine 100_000_000_000 bid → Fine 100_000_000_000 offer → Fine 100_000_100_000 (mid step bid offer)
  unfolding Fine
  mid_fine step None offer one small f g = tt
  mid_fine step (Some bid) None one small f g = tt
  mid_fine step (Some bid) (Some offer) one small f g =
      found_fine step (bid + offer) (closest (multiples step) (bid + offer) 2) one small (omega (arith, f.1, g.1)) refl

  wide : (letter : Letter) → Fine 100_000_100_000 (figures letter)
  wide letter = fine_more 100_000_000_000 100_000_100_000 (figures letter) (omega arith) (fine letter)

  trading_within : (step : ℕ) → 1 ≤ step → step ≤ 100_000 → Posted (figures U)
      → (1 ≤ trading_price step figures) × (trading_price step figures ≤ 100_000_100_000)
  trading_within step one small posted =
      let middle = mid_fine step (figures B) (figures O) one small (fine B) (fine O) in
      cond_both (chooses_last (figures M)) _ _
      (λ (o : Option ℕ). (1 ≤ amount o) × (amount o ≤ 100_000_100_000))
      (λ _. amount_within _ _
      (else_fine _ (figures L else mid_price step figures) (figures U) (else_fine _ (figures L) (mid_price step figures) (wide L) middle) (wide U))
      (else_posted (figures L else mid_price step figures) (figures U) posted))
      (λ _. amount_within _ _
      (else_fine _ (mid_price step figures else figures L) (figures U) (else_fine _ (mid_price step figures) (figures L) middle (wide L)) (wide U))
      (else_posted (mid_price step figures else figures L) (figures U) posted))

  last_within : Posted (figures U) → (1 ≤ last_or_reference figures) × (last_or_reference figures ≤ 100_000_000_000)
  last_within posted =
      amount_within _ (figures L else figures U) (else_fine _ (figures L) (figures U) (fine L) (fine U)) (else_posted (figures L) (figures U) posted)

  -- how far T may reach, and how far the other centres
  reach : Centre → ℕ
  reach TradingPrice = 100_000_100_000
  reach LastPrice = 100_000_000_000
  reach ReferencePrice = 100_000_000_000
  reach TheoreticalPrice = 100_000_000_000

  centre_within : (from : Centre) (step : Option ℕ) → step_stands from step ≡ true → Posted (figures (centre_letter from))
      → (1 ≤ centre from step figures) × (centre from step figures ≤ reach from)
  unfolding reach
  centre_within TradingPrice None test posted = absurd (both_ways false refl test)
  centre_within TradingPrice (Some step) test posted =
      let (one, small) = and_parts _ _ test in trading_within step (leb-true 1 step one) (leb-true step 100_000 small) posted
  centre_within LastPrice step test posted = last_within posted
  centre_within ReferencePrice step test posted = amount_within _ (figures U) (fine U) posted
  centre_within TheoreticalPrice step test posted = amount_within _ (figures H) (fine H) posted

  -- 1,000 times the centre and the width stay within the last end
  width_within : (from : Centre) (letters : Option (Letter × Letter)) (weight : ℕ) (letter : Letter) (c : ℕ)
      → weight_stands from letters weight ≡ true → c ≤ reach from
      → 1000 * c + (weight * amount (figures letter) + 1000 * swing letters figures) ≤ last_end
  unfolding reach
  width_within TradingPrice None weight letter c test most =
      omega (arith, mul-le weight (amount (figures letter)) 320 100_000_000_000 (leb-true weight 320 test) (amount_most _ (figures letter) (fine letter)))
  width_within LastPrice None weight letter c test most =
      omega (arith, mul-le weight (amount (figures letter)) 320 100_000_000_000 (leb-true weight 320 test) (amount_most _ (figures letter) (fine letter)))
  width_within ReferencePrice None weight letter c test most =
      omega (arith, mul-le weight (amount (figures letter)) 320 100_000_000_000 (leb-true weight 320 test) (amount_most _ (figures letter) (fine letter)))
  width_within TheoreticalPrice None weight letter c test most =
      omega (arith, mul-le weight (amount (figures letter)) 320 100_000_000_000 (leb-true weight 320 test) (amount_most _ (figures letter) (fine letter)))
  width_within TradingPrice (Some (one, other)) weight letter c test most = absurd (both_ways false refl test)
  width_within LastPrice (Some (one, other)) weight letter c test most =
      omega (
        arith,
        mul-le weight (amount (figures letter)) 200 100_000_000_000 (leb-true weight 200 test) (amount_most _ (figures letter) (fine letter)),
        amount_most _ (figures one) (fine one),
        amount_most _ (figures other) (fine other),
      )
  width_within ReferencePrice (Some (one, other)) weight letter c test most =
      omega (
        arith,
        mul-le weight (amount (figures letter)) 200 100_000_000_000 (leb-true weight 200 test) (amount_most _ (figures letter) (fine letter)),
        amount_most _ (figures one) (fine one),
        amount_most _ (figures other) (fine other),
      )
  width_within TheoreticalPrice (Some (one, other)) weight letter c test most =
      omega (
        arith,
        mul-le weight (amount (figures letter)) 200 100_000_000_000 (leb-true weight 200 test) (amount_most _ (figures letter) (fine letter)),
        amount_most _ (figures one) (fine one),
        amount_most _ (figures other) (fine other),
      )

-- what a rulebook owes of the prices that it answers
pub record Good (prices : PricesInBand) : Type 0 where
  pub priced : Prices prices.on_grid
  pub low_least : 1000 ≤ prices.low
  pub low_most : prices.low ≤ last_end
  pub high_least : 1000 ≤ prices.high
  pub high_most : prices.high ≤ last_end

-- a needed letter is posted where none is lacking
posted_at : (figure : Option ℕ) → (figure ≢ None) → Posted figure
unfolding Posted
posted_at None blank = absurd (blank refl)
posted_at (Some value) blank = tt

posted_when : (needed : Letter → Bool) (figures : Sheet) (letter : Letter) → lacking needed figures ≡ None
    → needed letter ≡ true → Posted (figures letter)
posted_when needed figures letter none need =
    posted_at (figures letter)
    (λ blank. subst (FirstLacking needed figures) none (first_lacking needed figures) letter (need, blank))

module _ (figures : Sheet) (within : WithinLimits figures) where
  row_good : (row : Row) → Small row → lacking (needs row) figures ≡ None → Good ((row_product row).prices figures)
  row_good row small none =
      let letter = centre_letter row.centre in
      let posted = posted_when (needs row) figures letter none (or_left (same letter letter) _ (eq-eqb (rank letter) (rank letter) refl)) in
      let middle = centre_within figures within row.centre row.auction_step small.step_fits posted in
      let most = width_within figures within row.centre row.swing row.weight row.of (centre row.centre row.auction_step figures) small.weight_fits middle.1 in
      let one = small.one_unit in
      let unit = small.unit_fits in
      let least = middle.0 in
      record {
        priced = multiples_are_prices row.unit;
        low_least = omega arith;
        low_most = omega arith;
        high_least = omega arith;
        high_most = most;
      }

  -- an answered product has a row that lacks nothing, and its prices are that row's
  Answered : Result Row RuleFault → PricesInBand → Type 0
  Answered entry prices =
      (row : Row) × (entry ≡ Ok row) × (lacking (needs row) figures ≡ None) × ((row_product row).prices figures ≡ prices)

  answered_row : (row : Row) (prices : PricesInBand) (missing : Option Letter) → lacking (needs row) figures ≡ missing
      → unless_lacking missing ((row_product row).prices figures) ≡ Ok prices → Answered (Ok row) prices
  unfolding Answered
  answered_row row prices None none answer =
      let same : (row_product row).prices figures ≡ prices = cc in (row, refl, none, same)
  answered_row row prices (Some letter) lacks answer = let z : ◌≡◌ {A = ℕ} 0 1 = cc in absurd (omega arith)

  answered : (entry : Result Row RuleFault) (prices : PricesInBand)
      → prices_of_product (product_of entry) figures ≡ Ok prices → Answered entry prices
  answered (Ok row) prices answer = answered_row row prices (lacking (needs row) figures) refl answer
  answered (Err fault) prices answer = let z : ◌≡◌ {A = ℕ} 0 1 = cc in absurd (omega arith)

  module _ (last : ℕ) (rule : ℕ → Rule) (small : (index : ℕ) → index < last → Small (written (rule (index + 1)))) where
    listed : (number : ℕ) (row : Row) (known : Bool) → from_to 1 last number ≡ known
        → cond known (Ok (written (rule number))) (Err ProductAbsent) ≡ Ok row → (written (rule number) ≡ row) × Small (written (rule number))
    listed number row true test found =
        let (one, most) = and_parts _ _ test in
        let least = leb-true 1 number one in
        let bounded = leb-true number last most in
        let same : number - 1 + 1 ≡ number = omega arith in
        let is : written (rule number) ≡ row = cc in
        (is, subst (λ (k : ℕ). Small (written (rule k))) same (small (number - 1) (omega arith)))
    listed number row false test found = let z : ◌≡◌ {A = ℕ} 0 1 = cc in absurd (omega arith)

    -- what a book answers of a product is what the product's row gives
    pub row_answers : (number : ℕ) (prices : PricesInBand) → prices_of_product (product_in last rule number) figures ≡ Ok prices
        → ((row_product (written (rule number))).prices figures ≡ prices) × Small (written (rule number)) × Good prices
    unfolding Answered
    row_answers number prices answer =
        let (row, entry, none, gives) = answered (row_in last rule number) prices answer in
        let (same, fits) = listed number row (from_to 1 last number) refl entry in
        let is : (row_product (written (rule number))).prices figures ≡ prices =
        ap (λ (r : Row). (row_product r).prices figures) same ∙ gives in
        let lacks_none : lacking (needs (written (rule number))) figures ≡ None =
        ap (λ (r : Row). lacking (needs r) figures) same ∙ none in
        (is, fits, subst Good is (row_good (written (rule number)) fits lacks_none))

-- a book whose answers are good is sound
pub sound : (rules : Meaning)
    → ((number : ℕ) (figures : Sheet) (prices : PricesInBand) → WithinLimits figures → prices_of rules number figures ≡ Ok prices → Good prices)
    → Sound rules
sound rules good = record {
  priced = λ number figures prices within answer. (good number figures prices within answer).priced;
  low_least = λ number figures prices within answer. (good number figures prices within answer).low_least;
  low_most = λ number figures prices within answer. (good number figures prices within answer).low_most;
  high_least = λ number figures prices within answer. (good number figures prices within answer).high_least;
  high_most = λ number figures prices within answer. (good number figures prices within answer).high_most;
}

-- the settlement price

settled_good : (figures : Sheet) (prices : PricesInBand) (figure : Option ℕ) → figures K ≡ figure → WithinLimits figures
    → unless_lacking (lacking (λ letter. same letter K) figures) (at_settlement.prices figures) ≡ Ok prices → Good prices
settled_good figures prices None is within answer = let z : ◌≡◌ {A = ℕ} 0 1 = cc in absurd (omega arith)
settled_good figures prices (Some value) is within answer =
    let least = within.positive K value is in
    let most = within.bounded K value is in
    let same : at_settlement.prices figures ≡ prices = cc in
    let worth : amount (figures K) ≡ value = ap amount is in
    subst Good same (record {
      priced = record {
        positive = λ price in_set. omega (arith, eqb-true price (amount (figures K)) in_set);
        bounded = λ price in_set. omega (arith, eqb-true price (amount (figures K)) in_set);
      };
      low_least = omega arith;
      low_most = omega arith;
      high_least = omega arith;
      high_most = omega arith;
    })

compression_product : (number : ℕ) (figures : Sheet) (prices : PricesInBand) (known : Bool) → WithinLimits figures
    → prices_of_product (cond known (Some at_settlement) None) figures ≡ Ok prices → Good prices
compression_product number figures prices true within answer = settled_good figures prices (figures K) refl within answer
compression_product number figures prices false within answer = let z : ◌≡◌ {A = ℕ} 0 1 = cc in absurd (omega arith)

pub compression_sound : Sound compression
compression_sound = sound compression (λ number figures prices within answer. compression_product number figures prices (from_to 1 2 number) within answer)

pub single_issue_sound : Sound single_issue
single_issue_sound = sound single_issue
    (λ number figures prices within answer. (row_answers figures within 22 single_issue_rule single_issue_small number prices answer).2)

pub flexible_sound : Sound flexible
flexible_sound = sound flexible
    (λ number figures prices within answer. (row_answers figures within 4 flexible_rule flexible_small number prices answer).2)
