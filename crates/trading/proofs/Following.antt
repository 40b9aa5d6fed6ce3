-- The stored day says the board that the history says, and every call keeps it so.
use Rattle.std.proofs.Common.{◌≡◌, ℕ, suc, ◌-◌, ◌<◌, ◌≤◌, Bool, true, false, cond, not, ◌&&◌, eqb, ltb, leb, ◌⊎◌, List, [], ◌∷◌, ◌++◌, length, ℤ, is_some, Some, None, Ok, Err, Option, Result, unwrap_or, sym, refl, ◌∙◌, subst, inl, inr, arith}
use Rattle.std.proofs.lemmas.List.{length-append, length-set, length-map}
use Rattle.std.proofs.lemmas.Bool.{cond-false, ltb-false, ne_eqb, le-ltb, or_from, not_from_false, and_parts, and_from, both_ways, not-false}
use Rattle.std.proofs.lemmas.Bool.Decides.{nat_tests}
use Rattle.rulebook.specs.declared.HoursClass.{HoursClass}
use Rattle.rulebook.specs.declared.RuleFault.{RuleFault}
use Rattle.rulebook.specs.Sheets.{Sheet}
use Rattle.rulebook.specs.Meaning.{Meaning, PricesInBand, hours_of}
use Rattle.history.specs.declared.Entry.{Entry}
use Rattle.history.specs.declared.Call.{Call}
use Rattle.history.specs.declared.Call.TheVariants.{List as Listing, Post, Collar, Clock, Halt, Lift, Ask, Enter, Withdraw}
use Rattle.history.specs.declared.Answer.{Answer}
use Rattle.history.specs.declared.Answer.TheVariants.{Listed, Done, Lapsed, Price, Ordered, Refused}
use Rattle.history.specs.declared.DayFault.{DayFault}
use Rattle.history.specs.declared.DayFault.TheVariants.{Price as Fraction, MinuteOverLimit, CollarOutsideLimits, EntryOutsideLimits, ContractNotListed, ContractsFull, MinuteBeforePresent, HaltUnchanged, NoAdmissiblePrice, NotOpen, Halted, PriceNotAdmissible, OrdersFull, NoSuchOrder, AnotherParticipants, NotWaiting}
use Rattle.history.specs.declared.EntryField.TheVariants.{Quantity, Participant, Counterparty}
use Rattle.price.specs.declared.PriceFault.TheVariants.{FractionOutsideLimits}
use Rattle.price.specs.Closest.{closest}
use Rattle.history.specs.History.{History, after, accepted, minute, listed, product, figures, collar, halted, letter_named}
use Rattle.history.specs.Prices.{admissible_in, closing_in, is_fraction}
use Rattle.history.specs.Orders.{Order as Came, order, orders, first, hours_end, ends, waits}
use Rattle.history.specs.Board.{board, band_on, admissible_on, closing_on, meets_on}
use Rattle.history.specs.Rulings.{◌when◌, refuse, by_the_book, outside, figure_fault, no_collar, priced, quoted, ruled_on, Lawful}
use Rattle.day.specs.declared.Order.{Order}
use Rattle.day.specs.State.{Terms, State, just_listed, numbered, no_order, contract_at, order_at, is_waiting, board_of}
use Rattle.history.proofs.Next.{waits-clock, waits-withdraw, waits-enter, waits-new, waits-not, waits-known, same, unnamed}
use Rattle.history.proofs.Kept.{known_parts, waits-parts}
use Rattle.history.proofs.Firsts.{Nothing, Found, first_is}
use Rattle.rulebook.specs.Hours.{closing}
use Rattle.rulebook.proofs.Opening.{open_exactly_in_its_hours}
use Rattle.day.specs.declared.Status.{Status}
use Rattle.day.specs.declared.Status.TheVariants.{Waiting, Traded, Withdrawn}
use Rattle.day.specs.Calls.{marked, clocked, with_marked, paired, with_one_more, with_terms, with_figures, with_collar, with_halt, changed}
use Rattle.day.proofs.Numbering.{inside}
use Rattle.day.proofs.Places.{numbered-push, numbered-set, numbered-past, numbered-map}

-- contracts that are as many as said, each with the product, the figures, the collar and the halt that are said of it
pub record AreContracts (contracts : List Terms) (many : ℕ) (products : ℕ → ℕ) (sheets : ℕ → Sheet) (collars : ℕ → Option (ℕ × ℕ)) (halts : ℕ → Bool) : Type 0 where
  pub listed : length contracts ≡ many
  pub product : (c : ℕ) → (numbered (just_listed 0) contracts c).product ≡ products c
  pub figures : (c : ℕ) → (numbered (just_listed 0) contracts c).figures ≡ sheets c
  pub collar : (c : ℕ) → (numbered (just_listed 0) contracts c).collar ≡ collars c
  pub halted : (c : ℕ) → (numbered (just_listed 0) contracts c).halted ≡ halts c

-- the same of orders
pub record AreOrders (list : List Order) (many : ℕ) (entries : ℕ → Entry) (untils : ℕ → ℕ) (waiting : ℕ → Bool) : Type 0 where
  pub count : length list ≡ many
  pub entry : (k : ℕ) → (numbered no_order list k).entry ≡ entries k
  pub until : (k : ℕ) → (numbered no_order list k).until ≡ untils k
  pub waits : (k : ℕ) → is_waiting (numbered no_order list k).status ≡ waiting k

pub record Follows (rules : Meaning) (s : State) (h : History) : Type 0 where
  pub minute : s.minute ≡ minute h
  pub contracts : AreContracts s.contracts (listed h) (λ c. product h c) (λ c. figures h c) (λ c. collar h c) (λ c. halted h c)
  pub orders : AreOrders s.orders (orders h) (λ k. (order h k).entry) (λ k. ends rules h k) (λ k. waits rules h k)

pub same_board : (rules : Meaning) (s : State) (h : History) → Follows rules s h → board_of s ≡ board rules h
same_board rules s h f = λ i. record {
  minute = f.minute i;
  listed = f.contracts.listed i;
  product = λ c. f.contracts.product c i;
  figures = λ c. f.contracts.figures c i;
  collar = λ c. f.contracts.collar c i;
  halted = λ c. f.contracts.halted c i;
  orders = f.orders.count i;
  entry = λ k. f.orders.entry k i;
  until = λ k. f.orders.until k i;
  waits = λ k. f.orders.waits k i;
}

-- a ruling, check by check
unless : (P : Answer → Type 0) (fault : Option DayFault) (rest : Answer) → ((f : DayFault) → P (Refused f)) → (fault ≡ None → P rest) → P (refuse fault rest)
unless P None rest against through = through refl
unless P (Some fault) rest against through = against fault

unless_when : (P : Answer → Type 0) (fault : DayFault) (ground : Bool) (rest : Answer) → ((f : DayFault) → P (Refused f)) → (ground ≡ false → P rest)
    → P (refuse (fault when ground) rest)
unless_when P fault true rest against through = against fault
unless_when P fault false rest against through = through refl

module _ (rules : Meaning) (s : State) (h : History) (lawful : Lawful rules h) (f : Follows rules s h) where
  -- the day that a call leaves, and the history that it makes
  abbrev Kept : Call → Answer → Type 0
  Kept call answer = Follows rules (cond (accepted answer) (changed rules s call) s) (after h call answer)

  refused_keeps : (call : Call) (fault : DayFault) → Kept call (Refused fault)
  unfolding waits
  refused_keeps call fault = record {
    minute = f.minute;
    contracts = f.contracts;
    orders = f.orders;
  }

  -- the terms of a contract when one more was listed
  module _ (number : ℕ) where
    abbrev grown : State
    grown = with_one_more s (just_listed number)

    at_grown : (c : ℕ) → contract_at grown c ≡ cond (eqb c (suc (length s.contracts))) (just_listed number) (contract_at s c)
    at_grown c = numbered-push (just_listed 0) s.contracts (just_listed number) c

    -- what all new contracts have in common
    as_new : {B : Type 0} (part : Terms → B) (c : ℕ) → part (just_listed number) ≡ part (just_listed 0) → part (contract_at grown c) ≡ part (contract_at s c)
    as_new part c common = grind (arith, nat_tests, common, at_grown c, numbered-past (just_listed 0) s.contracts c)

    list_keeps : (contract : ℕ) → Kept (Listing number) (Listed contract)
    unfolding waits
    list_keeps contract = record {
      minute = f.minute;
      contracts = record {
        listed = length-append s.contracts (just_listed number ∷ []) ∙ omega (arith, f.contracts.listed);
        product = λ c. grind (arith, nat_tests, at_grown c, f.contracts.listed, f.contracts.product c);
        figures = λ c. as_new (λ (t : Terms). t.figures) c refl ∙ f.contracts.figures c;
        collar = λ c. as_new (λ (t : Terms). t.collar) c refl ∙ f.contracts.collar c;
        halted = λ c. as_new (λ (t : Terms). t.halted) c refl ∙ f.contracts.halted c;
      };
      orders = f.orders;
    }

  -- the terms of a contract when those of one were changed
  module _ (contract : ℕ) (there : outside (listed h) contract ≡ false) (terms : Terms) where
    abbrev altered : State
    altered = with_terms s contract terms

    at_altered : (c : ℕ) → contract_at altered c ≡ cond (eqb c contract) terms (contract_at s c)
    at_altered c =
        let (least, most) = inside (listed h) contract there in
        numbered-set (just_listed 0) s.contracts terms contract c least (omega (arith, f.contracts.listed))

    length-kept : length altered.contracts ≡ listed h
    length-kept = length-set s.contracts (contract - 1) terms ∙ f.contracts.listed

  post_keeps : (contract letter value : ℕ) → outside (listed h) contract ≡ false → Kept (Post contract letter value) Done
  unfolding waits
  post_keeps contract letter value there =
      let terms = with_figures (contract_at s contract) (letter_named letter) value in
      let at = at_altered contract there terms in
      record {
        minute = f.minute;
        contracts = record {
          listed = length-kept contract there terms;
          product = λ c. grind (arith, nat_tests, at c, f.contracts.product c);
          figures = λ c. grind (arith, nat_tests, at c, f.contracts.figures c);
          collar = λ c. grind (arith, nat_tests, at c, f.contracts.collar c);
          halted = λ c. grind (arith, nat_tests, at c, f.contracts.halted c);
        };
        orders = f.orders;
      }

  collar_keeps : (contract low high : ℕ) → outside (listed h) contract ≡ false → Kept (Collar contract low high) Done
  unfolding waits
  collar_keeps contract low high there =
      let terms = with_collar (contract_at s contract) low high in
      let at = at_altered contract there terms in
      record {
        minute = f.minute;
        contracts = record {
          listed = length-kept contract there terms;
          product = λ c. grind (arith, nat_tests, at c, f.contracts.product c);
          figures = λ c. grind (arith, nat_tests, at c, f.contracts.figures c);
          collar = λ c. grind (arith, nat_tests, at c, f.contracts.collar c);
          halted = λ c. grind (arith, nat_tests, at c, f.contracts.halted c);
        };
        orders = f.orders;
      }

  halt_keeps : (contract : ℕ) → outside (listed h) contract ≡ false → Kept (Halt contract) Done
  unfolding waits
  halt_keeps contract there =
      let terms = with_halt (contract_at s contract) true in
      let at = at_altered contract there terms in
      record {
        minute = f.minute;
        contracts = record {
          listed = length-kept contract there terms;
          product = λ c. grind (arith, nat_tests, at c, f.contracts.product c);
          figures = λ c. grind (arith, nat_tests, at c, f.contracts.figures c);
          collar = λ c. grind (arith, nat_tests, at c, f.contracts.collar c);
          halted = λ c. grind (arith, nat_tests, at c, f.contracts.halted c);
        };
        orders = f.orders;
      }

  lift_keeps : (contract : ℕ) → outside (listed h) contract ≡ false → Kept (Lift contract) Done
  unfolding waits
  lift_keeps contract there =
      let terms = with_halt (contract_at s contract) false in
      let at = at_altered contract there terms in
      record {
        minute = f.minute;
        contracts = record {
          listed = length-kept contract there terms;
          product = λ c. grind (arith, nat_tests, at c, f.contracts.product c);
          figures = λ c. grind (arith, nat_tests, at c, f.contracts.figures c);
          collar = λ c. grind (arith, nat_tests, at c, f.contracts.collar c);
          halted = λ c. grind (arith, nat_tests, at c, f.contracts.halted c);
        };
        orders = f.orders;
      }

  ask_keeps : (contract n d price : ℕ) (distance : ℤ) → Kept (Ask contract n d) (Price price distance)
  unfolding waits
  ask_keeps contract n d price distance = record {
    minute = f.minute;
    contracts = f.contracts;
    orders = f.orders;
  }

  -- the orders when the clock comes to a minute
  module _ (to : ℕ) where
    at_clock : (k : ℕ) → order_at (changed rules s (Clock to)) k ≡ clocked to (order_at s k)
    at_clock k = numbered-map no_order (clocked to) refl s.orders k

    clock_keeps : (count : ℕ) → minute h ≤ to → Kept (Clock to) (Lapsed count)
    clock_keeps count later = record {
      minute = refl;
      contracts = f.contracts;
      orders = record {
        count = length-map s.orders (clocked to) ∙ f.orders.count;
        entry = λ k. grind (arith, at_clock k, f.orders.entry k);
        until = λ k. grind (arith, at_clock k, f.orders.until k);
        waits = λ k. grind (arith, nat_tests, at_clock k, f.orders.until k, f.orders.waits k, waits-clock rules h to count k later);
      };
    }

  -- the orders when one was marked
  module _ (number : ℕ) (there : outside (orders h) number ≡ false) (status : Status) where
    at_marked : (k : ℕ) → order_at (with_marked s number status) k ≡ cond (eqb k number) (marked (order_at s number) status) (order_at s k)
    at_marked k =
        let (least, most) = inside (orders h) number there in
        numbered-set no_order s.orders (marked (order_at s number) status) number k least (omega (arith, f.orders.count))

    waits-by_mark : is_waiting status ≡ false → (k : ℕ) → is_waiting (order_at (with_marked s number status) k).status ≡ (waits rules h k && not (eqb k number))
    waits-by_mark done k = grind (arith, nat_tests, done, f.orders.waits k, at_marked k)

    length_marked : length (with_marked s number status).orders ≡ orders h
    length_marked = length-set s.orders (number - 1) (marked (order_at s number) status) ∙ f.orders.count

  withdraw_keeps : (number participant : ℕ) → outside (orders h) number ≡ false → Kept (Withdraw number participant) Done
  withdraw_keeps number participant there = record {
    minute = f.minute;
    contracts = f.contracts;
    orders = record {
      count = length_marked number there Withdrawn;
      entry = λ k. grind (arith, nat_tests, at_marked number there Withdrawn k, f.orders.entry k);
      until = λ k. grind (arith, nat_tests, at_marked number there Withdrawn k, f.orders.until k);
      waits = λ k. waits-by_mark number there Withdrawn refl k ∙ sym (waits-withdraw rules h number participant k);
    };
  }

  and_not_zero : (k : ℕ) → (waits rules h k && not (eqb k 0)) ≡ waits rules h k
  and_not_zero k = same _ _ (λ is. (and_parts (waits rules h k) _ is).0)
      (λ is. and_from _ _ is (not_from_false _ (ne_eqb k 0 (λ zero. let low = (known_parts h k (waits-parts rules h k is).there).low in omega arith))))

  -- the orders when one more came
  module _ (entry : Entry) (p : ℕ) (status : Status) (list : List Order) (long : length list ≡ orders h) (old : p ≤ orders h) where
    abbrev newest : Order
    newest = record { entry = entry; until = hours_end rules h entry; status = status }

    abbrev joined : State
    joined = record { minute = s.minute; contracts = s.contracts; orders = list ++ (newest ∷ []) }

    abbrev later : History
    later = after h (Enter entry) (Ordered (suc (orders h)) p)

    at_joined : (k : ℕ) → order_at joined k ≡ cond (eqb k (suc (orders h))) newest (numbered no_order list k)
    at_joined k = numbered-push no_order list newest k ∙ (λ i. cond (eqb k (suc (long i))) newest (numbered no_order list k))

    abbrev came : Came
    came = record { entry = entry; before = h; partner = p }

    waits-joined : ((k : ℕ) → is_waiting (numbered no_order list k).status ≡ (waits rules h k && not (eqb k p)))
        → ((k : ℕ) → k ≡ suc (orders h) → is_waiting status ≡ waits rules later k)
        → (k : ℕ) → is_waiting (order_at joined k).status ≡ waits rules later k
    waits-joined before new k =
        grind (arith, nat_tests, at_joined k, before k, new k, waits-enter rules h entry p k, waits-known rules h k, waits-known rules later k)

    joined_keeps : ((k : ℕ) → (numbered no_order list k).entry ≡ (order h k).entry) → ((k : ℕ) → (numbered no_order list k).until ≡ ends rules h k)
        → ((k : ℕ) → is_waiting (numbered no_order list k).status ≡ (waits rules h k && not (eqb k p)))
        → ((k : ℕ) → k ≡ suc (orders h) → is_waiting status ≡ waits rules later k)
        → Follows rules joined later
    joined_keeps entries untils before new = record {
      minute = f.minute;
      contracts = f.contracts;
      orders = record {
        count = length-append list (newest ∷ []) ∙ omega (arith, long);
        entry = λ k. grind (arith, nat_tests, at_joined k, entries k);
        until = λ k. grind (arith, nat_tests, at_joined k, untils k);
        waits = waits-joined before new;
      };
    }

  in_time : (hours : Result HoursClass RuleFault) (now : ℕ) → is_some (closing_in hours now) ≡ true → now < unwrap_or (closing_in hours now) 0
  in_time (Ok class) now trades = by_end (closing class now) refl trades
    where
      by_end : (end : Option ℕ) → closing class now ≡ end → is_some end ≡ true → now < unwrap_or end 0
      by_end (Some last) is some = let (first, among, least, less) = open_exactly_in_its_hours.inside class now last is in less
      by_end None is some = absurd (both_ways false refl some)
  in_time (Err fault) now trades = absurd (both_ways false refl trades)

  module _ (entry : Entry) where
    entered_by : (p : ℕ) → is_some (closing_in (hours_of rules (product h entry.contract)) (minute h)) ≡ true → (p ≡ 0) ⊎ ((1 ≤ p) × (p ≤ orders h))
        → Follows rules (paired s p entry (hours_end rules h entry)) (after h (Enter entry) (Ordered (suc (orders h)) p))
    entered_by p trades (inl zero) =
        subst (λ (q : ℕ). Follows rules (paired s q entry (hours_end rules h entry)) (after h (Enter entry) (Ordered (suc (orders h)) q))) (sym zero)
        (joined_keeps entry 0 Waiting s.orders f.orders.count (omega arith) f.orders.entry f.orders.until (λ k. f.orders.waits k ∙ sym (and_not_zero k))
        (λ k is. sym (waits-new rules h entry k is (unnamed rules h lawful k (omega arith)).free (unnamed rules h lawful k (omega arith)).kept
        (in_time (hours_of rules (product h entry.contract)) (minute h) trades))))
    entered_by p trades (inr (least, most)) =
        let there : outside (orders h) p ≡ false = or_from (eqb p 0) _ (ne_eqb p 0 (λ is. omega arith)) (le-ltb (orders h) p most) in
        subst (λ (t : State). Follows rules t (after h (Enter entry) (Ordered (suc (orders h)) p))) (sym (cond-false (eqb p 0) _ _ (ne_eqb p 0 (λ is. omega arith))))
        (joined_keeps entry p Traded (with_marked s p Traded).orders (length_marked p there Traded) most
        (λ k. grind (arith, nat_tests, at_marked p there Traded k, f.orders.entry k))
        (λ k. grind (arith, nat_tests, at_marked p there Traded k, f.orders.until k))
        (waits-by_mark p there Traded refl)
        (λ k is. sym (waits-not rules h entry p k least is)))

    enter_keeps : is_some (closing_on rules (board rules h) entry.contract) ≡ true
        → Kept (Enter entry) (Ordered (suc (orders h)) (first (meets_on (board rules h) entry) (orders h)))
    enter_keeps trades =
        let same_days : board_of s ≡ board rules h = same_board rules s h f in
        let p = first (meets_on (board rules h) entry) (orders h) in
        subst (λ (t : State). Follows rules t (after h (Enter entry) (Ordered (suc (orders h)) p)))
        (sym (λ i. paired s (first (meets_on (same_days i) entry) (same_days i).orders) entry (unwrap_or (closing_on rules (same_days i) entry.contract) 0)))
        (entered_by p trades (found (first_is (meets_on (board rules h) entry) (orders h))))
      where
        found : Nothing (meets_on (board rules h) entry) (orders h) (first (meets_on (board rules h) entry) (orders h))
            ⊎ Found (meets_on (board rules h) entry) (orders h) (first (meets_on (board rules h) entry) (orders h))
            → (first (meets_on (board rules h) entry) (orders h) ≡ 0) ⊎ ((1 ≤ first (meets_on (board rules h) entry) (orders h)) × (first (meets_on (board rules h) entry) (orders h) ≤ orders h))
        found (inl none) = inl none.zero_is
        found (inr one) = inr (one.low, one.high)

  asked_keeps : (contract n d : ℕ) (band : Result PricesInBand RuleFault) (ends : Option (ℕ × ℕ)) → Kept (Ask contract n d) (quoted band ends n d)
  unfolding quoted
  asked_keeps contract n d band ends =
      unless (Kept (Ask contract n d)) (by_the_book band) (priced (closest (admissible_in band ends) n d)) (refused_keeps (Ask contract n d))
      (λ _. found (closest (admissible_in band ends) n d))
    where
      found : (best : Option (ℕ × ℤ)) → Kept (Ask contract n d) (priced best)
      found None = refused_keeps (Ask contract n d) NoAdmissiblePrice
      found (Some (price, distance)) = ask_keeps contract n d price distance

  -- every call keeps the stored day and the history together
  pub keeps : (call : Call) → Kept call (ruled_on rules (board rules h) call)
  keeps (Listing product) =
      unless (Kept (Listing product)) (by_the_book (hours_of rules product)) _ (refused_keeps (Listing product))
      (λ _. unless_when (Kept (Listing product)) ContractsFull (leb 32 (listed h)) _ (refused_keeps (Listing product)) (λ _. list_keeps product (suc (listed h))))
  keeps (Post contract letter value) =
      unless (Kept (Post contract letter value)) (figure_fault (letter_named letter) value) _ (refused_keeps (Post contract letter value))
      (λ _. unless_when (Kept (Post contract letter value)) ContractNotListed (outside (listed h) contract) _ (refused_keeps (Post contract letter value))
      (post_keeps contract letter value))
  keeps (Collar contract low high) =
      unless_when (Kept (Collar contract low high)) CollarOutsideLimits (no_collar low high) _ (refused_keeps (Collar contract low high))
      (λ _. unless_when (Kept (Collar contract low high)) ContractNotListed (outside (listed h) contract) _ (refused_keeps (Collar contract low high))
      (collar_keeps contract low high))
  keeps (Clock to) =
      unless_when (Kept (Clock to)) MinuteOverLimit (ltb 1800 to) _ (refused_keeps (Clock to))
      (λ _. unless_when (Kept (Clock to)) MinuteBeforePresent (ltb to (minute h)) _ (refused_keeps (Clock to))
      (λ later. clock_keeps to _ (ltb-false to (minute h) later)))
  keeps (Halt contract) =
      unless_when (Kept (Halt contract)) ContractNotListed (outside (listed h) contract) _ (refused_keeps (Halt contract))
      (λ there. unless_when (Kept (Halt contract)) HaltUnchanged (halted h contract) _ (refused_keeps (Halt contract)) (λ _. halt_keeps contract there))
  keeps (Lift contract) =
      unless_when (Kept (Lift contract)) ContractNotListed (outside (listed h) contract) _ (refused_keeps (Lift contract))
      (λ there. unless_when (Kept (Lift contract)) HaltUnchanged (not (halted h contract)) _ (refused_keeps (Lift contract)) (λ _. lift_keeps contract there))
  keeps (Ask contract n d) =
      unless_when (Kept (Ask contract n d)) (Fraction FractionOutsideLimits) (not (is_fraction n d)) _ (refused_keeps (Ask contract n d))
      (λ _. unless_when (Kept (Ask contract n d)) ContractNotListed (outside (listed h) contract) _ (refused_keeps (Ask contract n d))
      (λ _. asked_keeps contract n d (band_on rules (board rules h) contract) (collar h contract)))
  keeps (Enter entry) =
      let rest = unless_when (Kept (Enter entry)) in
      let refusal = refused_keeps (Enter entry) in
      rest (EntryOutsideLimits Quantity) (outside 10_000 entry.quantity) _ refusal
      (λ _. rest (EntryOutsideLimits Participant) (outside 9_999 entry.participant) _ refusal
      (λ _. rest (EntryOutsideLimits Counterparty) (outside 9_999 entry.counterparty) _ refusal
      (λ _. rest ContractNotListed (outside (listed h) entry.contract) _ refusal
      (λ _. unless (Kept (Enter entry)) (by_the_book (band_on rules (board rules h) entry.contract)) _ refusal
      (λ _. rest NotOpen (not (is_some (closing_on rules (board rules h) entry.contract))) _ refusal
      (λ trades. rest Halted (halted h entry.contract && rules.halt_binds) _ refusal
      (λ _. rest PriceNotAdmissible (not (admissible_on rules (board rules h) entry.contract entry.price)) _ refusal
      (λ _. rest OrdersFull (leb 256 (orders h)) _ refusal
      (λ _. enter_keeps entry (not-false _ trades))))))))))
  keeps (Withdraw number participant) =
      unless_when (Kept (Withdraw number participant)) NoSuchOrder (outside (orders h) number) _ (refused_keeps (Withdraw number participant))
      (λ there. unless_when (Kept (Withdraw number participant)) AnotherParticipants (not (eqb participant (order h number).entry.participant)) _ (refused_keeps (Withdraw number participant))
      (λ _. unless_when (Kept (Withdraw number participant)) NotWaiting (not (waits rules h number)) _ (refused_keeps (Withdraw number participant))
      (λ _. withdraw_keeps number participant there)))
