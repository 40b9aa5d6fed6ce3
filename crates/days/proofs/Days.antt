-- The worked days: every answer is computed, but for the ask, whose price is its own nearest.
use Rattle.std.proofs.Common.{◌≡◌, ℕ, leb, pos, Some, refl, ap, inl, arith, lit<}
use Rattle.std.proofs.lemmas.Bool.{and_parts, leb-true}
use Rattle.price.specs.Sets.{PriceSet, Prices, ◌among◌, multiples, between, last_end, last_price}
use Rattle.price.specs.Closest.{closest}
use Rattle.price.proofs.Search.{nearest_is_closest}
use Rattle.books.specs.Exchange.{single_issue_rule}
use Rattle.history.specs.History.{letter_named, takes}
use Rattle.history.specs.Orders.{waits, counters, first, how_many}
use Rattle.history.specs.Rulings.{priced, quoted}
use Rattle.days.specs.Worked.{WorkedDays}

-- the prices of Nikkei 225 futures at a reference price of 400,000,000
abbrev nikkei : PriceSet
nikkei = between 1_000 last_end (between 368_000_000_000 432_000_000_000 (multiples 1))

among_multiples : (price : ℕ) → price among nikkei → price among multiples 1
among_multiples price is = let inside = (and_parts _ _ is).0 in (and_parts _ _ inside).0

nikkei_prices : Prices nikkei
nikkei_prices = record {
  positive = λ price is. leb-true 1 price (and_parts (leb 1 price) _ (among_multiples price is)).0;
  bounded = λ price is.
      let upper = (and_parts (leb 1 price) _ (among_multiples price is)).1 in
      leb-true price last_price (and_parts (leb price last_price) _ upper).0;
}

own_nearest : Some (431_999_999, pos 0) ≡ closest nikkei 431_999_999 1
own_nearest = nearest_is_closest nikkei 431_999_999 1 (Some (431_999_999, pos 0)) nikkei_prices (refl, refl, λ price is other. inl (omega arith))

pub worked_days : WorkedDays
unfolding single_issue_rule letter_named takes waits counters first how_many quoted
worked_days = record {
  lawful = (((((((((tt, refl), refl), refl), refl), refl), refl), ap priced own_nearest), refl), refl);
  traded = record { accepted = refl; named = refl; somebody = lit< tt };
  open_at_914 = ((((tt, refl), refl), refl), refl);
  closed_at_915 = ((((tt, refl), refl), refl), refl);
  waits_at_989 = (((((tt, refl), refl), refl), refl), refl);
  lapses_at_990 = (refl, refl);
  lapses_at_1005 = (refl, refl);
  open_at_1005 = refl;
  stays_at_989 = refl;
}
