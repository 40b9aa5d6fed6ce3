-- A rule, written as a row, gives a band of exactly the prices that the rule admits.
use Rattle.std.proofs.Common.{◌≡◌, ℕ, ◌+◌, ◌-◌, ◌*◌, ◌%◌, ◌<◌, ◌≤◌, max, Bool, true, false, cond, Some, None, Ok, Option, sym, refl, ap, ◌∙◌, subst, mul-le-mul_right, mul_assoc, one-mul, arith}
use native.Mathlib.Nat.{mul-mod_left}
use Rattle.std.proofs.lemmas.Bool.{eqb-true, eq-eqb}
use Rattle.price.specs.Sets.{◌among◌, multiples, single, between, last_end}
use Rattle.price.specs.Makers.{from_to}
use Rattle.price.proofs.Told.{between_parts, between_from, multiple_from, sets_hold_what_they_say}
use Rattle.rulebook.specs.declared.Letter.{Letter}
use Rattle.rulebook.specs.declared.Letter.TheVariants.{K}
use Rattle.rulebook.specs.Letters.{same}
use Rattle.rulebook.specs.Sheets.{Sheet, WithinLimits}
use Rattle.rulebook.specs.Meaning.{PricesInBand, lacking, unless_lacking, prices_of_product}
use Rattle.books.specs.Reference.{amount}
use Rattle.books.specs.Exchange.{Share, percent, half_a_percent, parts, in_all, MeasuredFrom, trading_on, last_traded, reference, theoretical, starting_price, Rule, moved_by, Admits, single_issue_rule, flexible_rule, AdmitsSettlement}
use Rattle.books.specs.Rows.{Small, centre, swing, ends, row_product}
use Rattle.books.specs.Books.{thousandths, centre_of, step_of, written, product_in, at_settlement}
use Rattle.books.specs.Laws.{BooksAdmitWhatTheRulesAdmit}
use Rattle.books.specs.Bounds.{single_issue_small, flexible_small}
use Rattle.books.specs.Soundness.{row_answers}

-- a share in thousandths and in hundredths
above_to : (share : Share) (price from figure moved : ℕ)
    → 1000 * price ≤ 1000 * from + (thousandths share * figure + 1000 * moved)
    → in_all share * price ≤ in_all share * (from + moved) + parts share * figure
above_to (percent n) price from figure moved h = omega (arith, mul_assoc 10 n figure)
above_to half_a_percent price from figure moved h = omega arith

above_from : (share : Share) (price from figure moved : ℕ)
    → in_all share * price ≤ in_all share * (from + moved) + parts share * figure
    → 1000 * price ≤ 1000 * from + (thousandths share * figure + 1000 * moved)
above_from (percent n) price from figure moved h = omega (arith, mul_assoc 10 n figure)
above_from half_a_percent price from figure moved h = omega arith

below_to : (share : Share) (price from figure moved unit : ℕ)
    → max (1000 * from - (thousandths share * figure + 1000 * moved)) (1000 * unit) ≤ 1000 * price
    → in_all share * from ≤ in_all share * (price + moved) + parts share * figure
below_to (percent n) price from figure moved unit h = omega (arith, mul_assoc 10 n figure)
below_to half_a_percent price from figure moved unit h = omega arith

below_from : (share : Share) (price from figure moved unit : ℕ) → unit ≤ price
    → in_all share * from ≤ in_all share * (price + moved) + parts share * figure
    → max (1000 * from - (thousandths share * figure + 1000 * moved)) (1000 * unit) ≤ 1000 * price
below_from (percent n) price from figure moved unit least h = omega (arith, mul_assoc 10 n figure)
below_from half_a_percent price from figure moved unit least h = omega arith

-- the row's centre and swing are the rule's
same_centre : (from : MeasuredFrom) (figures : Sheet) → starting_price from figures ≡ centre (centre_of from) (step_of from) figures
same_centre (trading_on step) figures = refl
same_centre last_traded figures = refl
same_centre reference figures = refl
same_centre theoretical figures = refl

same_swing : (letters : Option (Letter × Letter)) (figures : Sheet) → moved_by letters figures ≡ swing letters figures
same_swing None figures = refl
same_swing (Some (one, other)) figures = refl

-- at least one unit
one_unit : (units unit : ℕ) → 1 ≤ units → unit ≤ units * unit
one_unit units unit least = omega (arith, mul-le-mul_right {m = 1} {n = units} unit least, one-mul unit)

abbrev Inside : PricesInBand → ℕ → Type 0
Inside prices price = price among between prices.low prices.high prices.on_grid

module _ (rule : Rule) (figures : Sheet) where
  abbrev prices : PricesInBand
  prices =
      ends rule.unit (starting_price rule.from figures)
      (thousandths rule.share * amount (figures rule.share_of) + 1000 * moved_by rule.moved figures)

  to_admitted : (price : ℕ) → Inside prices price → Admits rule figures price
  to_admitted price inside =
      let (in_set, low, high) = between_parts prices.low prices.high (multiples rule.unit) price inside in
      record {
        whole_units = sets_hold_what_they_say.counted rule.unit price in_set;
        not_above = above_to rule.share price _ _ _ high;
        not_below = below_to rule.share price _ _ _ rule.unit low;
      }

  from_admitted : (price : ℕ) → 1 ≤ rule.unit → prices.high ≤ last_end → Admits rule figures price → Inside prices price
  from_admitted price unit bounded admitted =
      let (units, least, counted) = admitted.whole_units in
      let whole = one_unit units rule.unit least in
      let high = above_from rule.share price (starting_price rule.from figures) (amount (figures rule.share_of)) (moved_by rule.moved figures) admitted.not_above in
      let low = below_from rule.share price (starting_price rule.from figures) (amount (figures rule.share_of)) (moved_by rule.moved figures) rule.unit (omega arith) admitted.not_below in
      let even : price % rule.unit ≡ 0 = ap (λ (x : ℕ). x % rule.unit) (sym counted) ∙ mul-mod_left units rule.unit in
      between_from prices.low prices.high (multiples rule.unit) price
      (multiple_from rule.unit price (omega arith) (omega arith) even) low high

  -- the prices of the row are those of the rule
  same_prices : prices ≡ (row_product (written rule)).prices figures
  same_prices =
      λ i. ends rule.unit (same_centre rule.from figures i)
      (thousandths rule.share * amount (figures rule.share_of) + 1000 * same_swing rule.moved figures i)

  exactly : (answer : PricesInBand) → (row_product (written rule)).prices figures ≡ answer → 1 ≤ rule.unit → answer.high ≤ last_end
      → (price : ℕ) → (Inside answer price → Admits rule figures price) × (Admits rule figures price → Inside answer price)
  exactly answer is unit bounded price =
      let same : prices ≡ answer = same_prices ∙ is in
      let high : prices.high ≤ last_end = subst (λ (x : ℕ). x ≤ last_end) (ap (λ (p : PricesInBand). p.high) (sym same)) bounded in (
        λ inside. to_admitted price (subst (λ (p : PricesInBand). Inside p price) (sym same) inside),
        λ admitted. subst (λ (p : PricesInBand). Inside p price) same (from_admitted price unit high admitted),
      )

-- a book of a table
table_exactly : (last : ℕ) (rule : ℕ → Rule) → ((index : ℕ) → index < last → Small (written (rule (index + 1))))
    → (number : ℕ) (figures : Sheet) → WithinLimits figures → (answer : PricesInBand)
    → prices_of_product (product_in last rule number) figures ≡ Ok answer → (price : ℕ)
    → (Inside answer price → Admits (rule number) figures price) × (Admits (rule number) figures price → Inside answer price)
table_exactly last rule small number figures within answer found =
    let (is, fits, good) = row_answers figures within last rule small number answer found in
    exactly (rule number) figures answer is fits.one_unit good.high_most

-- the settlement price
settled : (figures : Sheet) (answer : PricesInBand) (figure : Option ℕ) → figures K ≡ figure → WithinLimits figures
    → unless_lacking (lacking (λ letter. same letter K) figures) (at_settlement.prices figures) ≡ Ok answer → (price : ℕ)
    → (Inside answer price → figures K ≡ Some price) × (figures K ≡ Some price → Inside answer price)
settled figures answer None is within found price = let z : ◌≡◌ {A = ℕ} 0 1 = cc in absurd (omega arith)
settled figures answer (Some value) is within found price =
    let worth : amount (figures K) ≡ value = ap amount is in
    let same : at_settlement.prices figures ≡ answer = cc in
    let low = 1000 * amount (figures K) in (
      λ inside.
          let here = subst (λ (p : PricesInBand). Inside p price) (sym same) inside in
          let at = eqb-true price (amount (figures K)) (between_parts low low (single (amount (figures K))) price here).0 in
          is ∙ ap Some (sym (at ∙ worth)),
      λ posted.
          let value-is : amount (figures K) ≡ price = ap amount posted in
          subst (λ (p : PricesInBand). Inside p price) same
          (between_from low low (single (amount (figures K))) price (eq-eqb price (amount (figures K)) (sym value-is)) (omega arith) (omega arith)),
    )

compression_exactly : (figures : Sheet) → WithinLimits figures → (known : Bool) (answer : PricesInBand)
    → prices_of_product (cond known (Some at_settlement) None) figures ≡ Ok answer → (price : ℕ)
    → (Inside answer price → AdmitsSettlement figures price) × (AdmitsSettlement figures price → Inside answer price)
compression_exactly figures within true answer found = settled figures answer (figures K) refl within found
compression_exactly figures within false answer found = let z : ◌≡◌ {A = ℕ} 0 1 = cc in absurd (omega arith)

pub books_admit_what_the_rules_admit : BooksAdmitWhatTheRulesAdmit
books_admit_what_the_rules_admit = record {
  single_issue_trading = table_exactly 22 single_issue_rule single_issue_small;
  flexible_trading = table_exactly 4 flexible_rule flexible_small;
  compression_trading = λ number figures within. compression_exactly figures within (from_to 1 2 number);
}
