-- Worked cases: products with their figures, and prices that are admitted or turned away.
use Rattle.std.specs.Prelude.{◌≡◌, ℕ, Bool, true, false, List, [], ◌∷◌, Some, None, Ok, Err, Option, Result}
use Rattle.std.specs.List.{AllByRecursion}
use Rattle.price.specs.Sets.{multiples, between}
use Rattle.rulebook.specs.declared.RuleFault.{RuleFault}
use Rattle.rulebook.specs.declared.HoursClass.{HoursClass}
use Rattle.rulebook.specs.Hours.{closing}
use Rattle.rulebook.specs.declared.Letter.TheVariants.{B, O, L, U, V, W, Z, H, I}
use Rattle.rulebook.specs.Sheets.{Sheet, all_blank, with_figure}
use Rattle.rulebook.specs.Meaning.{PricesInBand, Meaning, prices_of, hours_of}
use Rattle.books.specs.Reference.{mid_price, trading_price}
use Rattle.books.specs.Books.{single_issue, flexible}

pub record Case : Type 0 where
  pub rules : Meaning
  pub product : ℕ
  pub figures : Sheet
  pub admitted : List ℕ
  pub turned_away : List ℕ

abbrev pub inside : Result PricesInBand RuleFault → ℕ → Bool
inside (Ok prices) price = between prices.low prices.high prices.on_grid price
inside (Err fault) price = false

abbrev pub admits : Case → ℕ → Bool
admits c price = inside (prices_of c.rules c.product c.figures) price

abbrev pub Right : Case → Type 0
Right c = AllByRecursion (λ price. admits c price ≡ true) c.admitted × AllByRecursion (λ price. admits c price ≡ false) c.turned_away

-- last and reference price of soybeans
abbrev pub soybeans_at : ℕ → Sheet
soybeans_at price = with_figure (with_figure all_blank L price) U price

-- soybeans at 15,000: the band lies between two multiples of the unit
abbrev pub soybeans : Case
soybeans = record {
  rules = single_issue;
  product = 15;
  figures = soybeans_at 15_000;
  admitted = [];
  turned_away = 10_000 ∷ 15_000 ∷ 20_000 ∷ [];
}

-- Nikkei 225 futures: the mid-price of 400,000,000 and 400,100,000 is 400,100,000, the higher of two equally near
abbrev pub nikkei : Case
nikkei = record {
  rules = single_issue;
  product = 5;
  figures = with_figure (with_figure (with_figure all_blank B 400_000_000) O 400_100_000) U 400_000_000;
  admitted = 368_100_000 ∷ 432_100_000 ∷ [];
  turned_away = 368_099_999 ∷ 432_100_001 ∷ [];
}

-- 10-year bonds with nothing but the reference price: a half percent of it is 7,000.75
abbrev pub bonds : Case
bonds = record {
  rules = single_issue;
  product = 1;
  figures = with_figure all_blank U 1_400_150;
  admitted = 1_393_150 ∷ 1_407_150 ∷ [];
  turned_away = 1_393_149 ∷ 1_407_151 ∷ [];
}

-- securities options whose underlying has risen, and fallen, by as much
abbrev pub risen : Case
risen = record {
  rules = single_issue;
  product = 17;
  figures = with_figure (with_figure (with_figure all_blank U 100_000) V 20_000_000) W 20_500_000;
  admitted = 1_000 ∷ 2_200_000 ∷ [];
  turned_away = 0 ∷ 1_500 ∷ 2_201_000 ∷ [];
}

abbrev pub fallen : Case
fallen = record {
  rules = single_issue;
  product = 17;
  figures = with_figure (with_figure (with_figure all_blank U 100_000) V 20_000_000) W 19_500_000;
  admitted = 1_000 ∷ 2_200_000 ∷ [];
  turned_away = 0 ∷ 1_500 ∷ 2_201_000 ∷ [];
}

-- flexible options on TOPIX Banks: eleven hundredths of the index, not one
abbrev pub banks : Case
banks = record {
  rules = flexible;
  product = 4;
  figures = with_figure (with_figure (with_figure all_blank H 300_000) Z 3_000_000) I 3_000_000;
  admitted = 1 ∷ 630_000 ∷ [];
  turned_away = 0 ∷ 630_001 ∷ [];
}

abbrev pub cases : List Case
cases = soybeans ∷ nikkei ∷ bonds ∷ risen ∷ fallen ∷ banks ∷ []

-- when the hours of a product that hold a minute end
abbrev pub open_until : Result HoursClass RuleFault → ℕ → Option ℕ
open_until (Ok class) now = closing class now
open_until (Err fault) now = None

pub record WorkedCasesAreRight : Type 0 where
  pub right : AllByRecursion Right cases
  pub soybean_ends : prices_of single_issue 15 (soybeans_at 15_000)
      ≡ Ok (record { on_grid = multiples 10_000; low = 10_200_000; high = 19_800_000 })
  pub higher_soybean_ends : prices_of single_issue 15 (soybeans_at 20_000)
      ≡ Ok (record { on_grid = multiples 10_000; low = 13_600_000; high = 26_400_000 })
  pub usual_soybean_ends : prices_of single_issue 15 (soybeans_at 1_000_000)
      ≡ Ok (record { on_grid = multiples 10_000; low = 680_000_000; high = 1_320_000_000 })
  pub nikkei_mid : mid_price 100_000 nikkei.figures ≡ Some 400_100_000
  pub nikkei_trading : trading_price 100_000 nikkei.figures ≡ 400_100_000
  pub bonds_open_at_914 : open_until (hours_of single_issue 1) 914 ≡ Some 915
  pub bonds_closed_at_915 : open_until (hours_of single_issue 1) 915 ≡ None
