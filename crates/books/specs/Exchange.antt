-- The exchange's rules for block prices as of November 17, 2025: for each group of products the unit, the price that a
-- block is measured from, and how far from it a block may trade, in percent of a figure. Nothing is rounded.
use Rattle.std.specs.Prelude.{◌≡◌, ℕ, ◌+◌, ◌*◌, ◌≤◌, Bool, false, cond, ◌||◌, List, [], ◌∷◌, Some, None, Option, ◌==◌}
use Rattle.rulebook.specs.declared.Letter.{Letter}
use Rattle.rulebook.specs.declared.Letter.TheVariants.{U, V, W, X, Y, Z, H, I, K}
use Rattle.rulebook.specs.declared.HoursClass.{HoursClass}
use Rattle.rulebook.specs.declared.HoursClass.TheVariants.{A, B, C, D, E}
use Rattle.rulebook.specs.Sheets.{Sheet}
use Rattle.books.specs.Reference.{amount, trading_price, last_or_reference, apart}

-- a share of a figure
pub data Share : Type 0 where
  percent : ℕ → Share
  half_a_percent : Share

-- so many parts ..
abbrev pub parts : Share → ℕ
parts (percent n) = n
parts half_a_percent = 1

-- .. in so many
abbrev pub in_all : Share → ℕ
in_all (percent n) = 100
in_all half_a_percent = 200

-- what a price is measured from: T on an auction step, S, the reference price U, or the theoretical price H
pub data MeasuredFrom : Type 0 where
  trading_on : ℕ → MeasuredFrom
  last_traded : MeasuredFrom
  reference : MeasuredFrom
  theoretical : MeasuredFrom

abbrev pub starting_price : MeasuredFrom → Sheet → ℕ
starting_price (trading_on step) figures = trading_price step figures
starting_price last_traded figures = last_or_reference figures
starting_price reference figures = amount (figures U)
starting_price theoretical figures = amount (figures H)

-- a rule: whole units, at most a share of a figure away, and further by as much as two figures are apart
pub record Rule : Type 0 where
  pub unit : ℕ
  pub from : MeasuredFrom
  pub share : Share
  pub share_of : Letter
  pub moved : Option (Letter × Letter)
  pub hours : HoursClass

abbrev pub moved_by : Option (Letter × Letter) → Sheet → ℕ
moved_by None figures = 0
moved_by (Some (one, other)) figures = apart (amount (figures one)) (amount (figures other))

-- which prices a rule admits
pub record Admits (rule : Rule) (figures : Sheet) (price : ℕ) : Type 0 where
  pub whole_units : (units : ℕ) × (1 ≤ units) × (units * rule.unit ≡ price)
  pub not_above : in_all rule.share * price
      ≤ in_all rule.share * (starting_price rule.from figures + moved_by rule.moved figures)
      + parts rule.share * amount (figures rule.share_of)
  pub not_below : in_all rule.share * starting_price rule.from figures
      ≤ in_all rule.share * (price + moved_by rule.moved figures)
      + parts rule.share * amount (figures rule.share_of)

-- Single-issue trading. A product goes by its number; the groups:

abbrev pub bond_and_rate_futures : List ℕ
bond_and_rate_futures = 1 ∷ 2 ∷ 3 ∷ 4 ∷ []

abbrev pub index_futures : List ℕ
index_futures = 5 ∷ 6 ∷ 7 ∷ 8 ∷ 9 ∷ 10 ∷ []

abbrev pub commodity_futures : List ℕ
commodity_futures = 11 ∷ 12 ∷ 13 ∷ 14 ∷ 15 ∷ 16 ∷ []

abbrev pub securities_options : List ℕ
securities_options = 17 ∷ 18 ∷ []

abbrev pub bond_options : List ℕ
bond_options = 19 ∷ []

abbrev pub index_options : List ℕ
index_options = 20 ∷ 21 ∷ []

abbrev pub gold_options : List ℕ
gold_options = 22 ∷ []

abbrev pub one_of : List ℕ → ℕ → Bool
one_of [] product = false
one_of (number ∷ others) product = product == number || one_of others product

-- one pip, but for commodities other than silver, for securities options, and for gold options
abbrev pub unit_of : ℕ → ℕ
unit_of product =
    cond (one_of (11 ∷ 14 ∷ []) product) 10 ( -- gold standard, rubber
    cond (one_of (12 ∷ 22 ∷ []) product) 100 ( -- the other gold futures, platinum, palladium; gold options
    cond (one_of (16 ∷ 17 ∷ []) product) 1_000 ( -- azuki, corn; securities options ..
    cond (one_of (15 ∷ 18 ∷ []) product) 10_000 1)))  -- soybeans; .. of an odd trading unit

-- the step of the auction market
abbrev pub auction_step : ℕ → ℕ
auction_step product =
    cond (one_of (4 ∷ []) product) 25 ( -- 3-month TONA
    cond (one_of (3 ∷ []) product) 50 ( -- mini 10-year bonds
    cond (one_of (9 ∷ []) product) 500 ( -- Nikkei 225 VI
    cond (one_of (10 ∷ []) product) 1_000 ( -- Nikkei 225 dividends
    cond (one_of (8 ∷ []) product) 2_500 ( -- mini-TOPIX
    cond (one_of (7 ∷ []) product) 5_000 ( -- TOPIX
    cond (one_of (6 ∷ []) product) 50_000 ( -- Nikkei 225 mini
    cond (one_of (5 ∷ []) product) 100_000 100)))))))  -- Nikkei 225; bonds and their options

-- futures on bonds, rates and indices and bond options are measured from T, commodities and gold options from S, other options from U
abbrev pub from_of : ℕ → MeasuredFrom
from_of product =
    cond (one_of bond_and_rate_futures product || (one_of index_futures product || one_of bond_options product)) (trading_on (auction_step product)) (
    cond (one_of commodity_futures product || one_of gold_options product) last_traded reference)

-- bonds and rates half a percent, 20-year bonds 2; index futures 8, VI 20, dividends 10; commodities 32;
-- securities options and the nearest three index options 8, other index options 11; bond options half, gold options 10
abbrev pub share : ℕ → Share
share product =
    cond (one_of (2 ∷ []) product) (percent 2) (
    cond (one_of bond_and_rate_futures product || one_of bond_options product) half_a_percent (
    cond (one_of (9 ∷ []) product) (percent 20) (
    cond (one_of (10 ∷ []) product || one_of gold_options product) (percent 10) (
    cond (one_of (21 ∷ []) product) (percent 11) (
    cond (one_of commodity_futures product) (percent 32) (percent 8))))))

-- of U, but of V for securities options, of Z for index options, of X for options on futures
abbrev pub share_letter : ℕ → Letter
share_letter product =
    cond (one_of securities_options product) V (
    cond (one_of index_options product) Z (
    cond (one_of bond_options product || one_of gold_options product) X U))

-- further by |W - V| for securities options and by |Y - Z| for index options
abbrev pub moved_letters : ℕ → Option (Letter × Letter)
moved_letters product =
    cond (one_of securities_options product) (Some (W, V)) (
    cond (one_of index_options product) (Some (Y, Z)) None)

-- A for bonds, rates and bond options, C for VI and rubber, D for securities options, B for all else
abbrev pub hours_class : ℕ → HoursClass
hours_class product =
    cond (one_of bond_and_rate_futures product || one_of bond_options product) A (
    cond (one_of (9 ∷ 14 ∷ []) product) C (
    cond (one_of securities_options product) D B))

abbrev pub single_issue_rules : ℕ → Rule
single_issue_rules product = record {
  unit = unit_of product;
  from = from_of product;
  share = share product;
  share_of = share_letter product;
  moved = moved_letters product;
  hours = hours_class product;
}

unfoldable pub single_issue_rule : ℕ → Rule
single_issue_rule product = single_issue_rules product

-- Flexible trading: one pip, from the theoretical price. Index futures (1) 24 percent of it; securities options (2) 20 percent
-- of V and |W - V|; Nikkei 225 and TOPIX options (3) 11 percent of Z and |Y - Z|; TOPIX Banks and REIT options (4) with |I - Z|.

abbrev pub flexible_share : ℕ → Share
flexible_share product =
    cond (one_of (1 ∷ []) product) (percent 24) (
    cond (one_of (2 ∷ []) product) (percent 20) (percent 11))

abbrev pub flexible_share_letter : ℕ → Letter
flexible_share_letter product =
    cond (one_of (1 ∷ []) product) H (
    cond (one_of (2 ∷ []) product) V Z)

abbrev pub flexible_moved_letters : ℕ → Option (Letter × Letter)
flexible_moved_letters product =
    cond (one_of (1 ∷ []) product) None (
    cond (one_of (2 ∷ []) product) (Some (W, V)) (
    cond (one_of (3 ∷ []) product) (Some (Y, Z)) (Some (I, Z))))

abbrev pub flexible_hours_class : ℕ → HoursClass
flexible_hours_class product = cond (one_of (2 ∷ []) product) E B

abbrev pub flexible_rules : ℕ → Rule
flexible_rules product = record {
  unit = 1;
  from = theoretical;
  share = flexible_share product;
  share_of = flexible_share_letter product;
  moved = flexible_moved_letters product;
  hours = flexible_hours_class product;
}

unfoldable pub flexible_rule : ℕ → Rule
flexible_rule product = flexible_rules product

-- Compression trading: index futures (1) and index options (2) at the previous settlement price and at no other.
abbrev pub AdmitsSettlement : Sheet → ℕ → Type 0
AdmitsSettlement figures price = figures K ≡ Some price
