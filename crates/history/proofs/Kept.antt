-- What one more call keeps of the orders before it.
use Rattle.std.proofs.Common.{◌≡◌, ℕ, suc, ◌<◌, ◌≤◌, true, false, eqb, sym, refl, ap, ◌∙◌, le_refl, arith}
use Rattle.std.proofs.lemmas.Bool.{or_parts, or_left, or_right, eq-eqb, ne_eqb, cond-true, cond-false}
use Rattle.std.proofs.lemmas.Bool.Decides.{nat_tests}
use Rattle.rulebook.specs.Meaning.{Meaning}
use Rattle.history.specs.declared.calls.Side.{Side}
use Rattle.history.specs.declared.calls.Side.TheVariants.{Bid, Offer}
use Rattle.history.specs.declared.calls.Entry.{Entry}
use Rattle.history.specs.declared.calls.Call.{Call}
use Rattle.history.specs.declared.answers.Answer.{Answer}
use Rattle.history.specs.declared.answers.Answer.TheVariants.{Listed, Done, Lapsed, Price, Ordered, Refused}
use Rattle.history.specs.History.{History, after, minute}
use Rattle.history.specs.Orders.{Order, order, orders, known, taken, withdrawn, hours_end, ends, waits, counters, opposite, earliest}
use Rattle.history.proofs.Steps.{Step, refused, lists, posts, collars, clocks, halts, lifts, asks, enters, withdraws, Taken}

-- the parts of `known` and of `waits`
pub record Known (h : History) (k : ℕ) : Type 0 where
  pub low : 1 ≤ k
  pub high : k ≤ orders h

pub known_parts : (h : History) (k : ℕ) → known h k ≡ true → Known h k
known_parts h k is = record { low = grind (arith, nat_tests); high = grind (arith, nat_tests) }

pub known_from : (h : History) (k : ℕ) → 1 ≤ k → k ≤ orders h → known h k ≡ true
known_from h k low high = grind (arith, nat_tests)

pub record Waiting (rules : Meaning) (h : History) (k : ℕ) : Type 0 where
  pub there : known h k ≡ true
  pub alone : (order h k).partner ≡ 0
  pub free : taken h k ≡ false
  pub kept : withdrawn h k ≡ false
  pub time : minute h < ends rules h k

pub waits-parts : (rules : Meaning) (h : History) (k : ℕ) → waits rules h k ≡ true → Waiting rules h k
unfolding waits
waits-parts rules h k is = record {
  there = grind (arith, nat_tests);
  alone = grind (arith, nat_tests);
  free = grind (arith, nat_tests);
  kept = grind (arith, nat_tests);
  time = grind (arith, nat_tests);
}

pub waits-from : (rules : Meaning) (h : History) (k : ℕ) → Waiting rules h k → waits rules h k ≡ true
unfolding waits
waits-from rules h k w = grind (arith, nat_tests, w.there, w.alone, w.free, w.kept, w.time)

-- an order that was taken stays so
pub taken_back : (h : History) (call : Call) (answer : Answer) (k : ℕ) → taken (after h call answer) k ≡ false → taken h k ≡ false
taken_back h call (Listed contract) k is = is
taken_back h call Done k is = is
taken_back h call (Lapsed count) k is = is
taken_back h call (Price price distance) k is = is
taken_back h call (Ordered number partner) k is = (or_parts (eqb k partner) (taken h k) is).1
taken_back h call (Refused fault) k is = is

pub taken_on : (h : History) (call : Call) (answer : Answer) (k : ℕ) → taken h k ≡ true → taken (after h call answer) k ≡ true
taken_on h call (Listed contract) k is = is
taken_on h call Done k is = is
taken_on h call (Lapsed count) k is = is
taken_on h call (Price price distance) k is = is
taken_on h call (Ordered number partner) k is = or_right (eqb k partner) (taken h k) is
taken_on h call (Refused fault) k is = is

-- a new order
pub record New (rules : Meaning) (h : History) (call : Call) (answer : Answer) (k : ℕ) : Type 0 where
  pub entry : Entry
  pub number : k ≡ suc (orders h)
  pub is : order (after h call answer) k ≡ record { entry = entry; before = h; partner = earliest rules h entry }
  pub took : taken (after h call answer) (earliest rules h entry) ≡ true
  pub fit : Taken rules h entry

module _ (rules : Meaning) (h : History) where
  -- an order of the day before is the order that it was
  pub same_order : (call : Call) (answer : Answer) → Step rules h call answer → (k : ℕ) → k ≤ orders h
      → order (after h call answer) k ≡ order h k
  same_order call answer (refused _ fault) k old = refl
  same_order call answer (lists product contract there) k old = refl
  same_order call answer (posts contract letter value) k old = refl
  same_order call answer (collars contract low high within) k old = refl
  same_order call answer (clocks to count later) k old = refl
  same_order call answer (halts contract) k old = refl
  same_order call answer (lifts contract) k old = refl
  same_order call answer (asks contract n d price distance) k old = refl
  same_order call answer (enters entry fit) k old =
      cond-false (eqb k (suc (orders h))) _ _ (ne_eqb k (suc (orders h)) (λ z. omega arith))
  same_order call answer (withdraws j participant there) k old = refl

  pub minute_on : (call : Call) (answer : Answer) → Step rules h call answer → minute h ≤ minute (after h call answer)
  minute_on call answer (refused _ fault) = le_refl (minute h)
  minute_on call answer (lists product contract there) = le_refl (minute h)
  minute_on call answer (posts contract letter value) = le_refl (minute h)
  minute_on call answer (collars contract low high within) = le_refl (minute h)
  minute_on call answer (clocks to count later) = later
  minute_on call answer (halts contract) = le_refl (minute h)
  minute_on call answer (lifts contract) = le_refl (minute h)
  minute_on call answer (asks contract n d price distance) = le_refl (minute h)
  minute_on call answer (enters entry fit) = le_refl (minute h)
  minute_on call answer (withdraws j participant there) = le_refl (minute h)

  pub new_order : (call : Call) (answer : Answer) → Step rules h call answer → (k : ℕ) → orders h < k
      → k ≤ orders (after h call answer) → New rules h call answer k
  new_order call answer (refused _ fault) k more most = absurd (omega arith)
  new_order call answer (lists product contract there) k more most = absurd (omega arith)
  new_order call answer (posts contract letter value) k more most = absurd (omega arith)
  new_order call answer (collars contract low high within) k more most = absurd (omega arith)
  new_order call answer (clocks to count later) k more most = absurd (omega arith)
  new_order call answer (halts contract) k more most = absurd (omega arith)
  new_order call answer (lifts contract) k more most = absurd (omega arith)
  new_order call answer (asks contract n d price distance) k more most = absurd (omega arith)
  new_order call answer (enters entry fit) k more most =
      let number : k ≡ suc (orders h) = omega arith in
      record {
        entry = entry;
        number = number;
        is = cond-true (eqb k (suc (orders h))) _ _ (eq-eqb k (suc (orders h)) number);
        took = or_left (eqb (earliest rules h entry) (earliest rules h entry)) _ (eq-eqb (earliest rules h entry) (earliest rules h entry) refl);
        fit = fit;
      }
  new_order call answer (withdraws j participant there) k more most = absurd (omega arith)

  -- what waits after one more call, and is no new order, waited before
  pub waits_back : (call : Call) (answer : Answer) → Step rules h call answer → (k : ℕ) → k ≤ orders h
      → waits rules (after h call answer) k ≡ true → waits rules h k ≡ true
  waits_back call answer s k old is =
      let w = waits-parts rules (after h call answer) k is in
      let same = same_order call answer s k old in
      let end : ends rules (after h call answer) k ≡ ends rules h k = ap (λ (o : Order). hours_end rules o.before o.entry) same in
      waits-from rules h k (record {
        there = known_from h k (known_parts (after h call answer) k w.there).low old;
        alone = sym (ap (λ (o : Order). o.partner) same) ∙ w.alone;
        free = taken_back h call answer k w.free;
        kept = (or_parts _ (withdrawn h k) w.kept).1;
        time = omega (arith, w.time, end, minute_on call answer s);
      })

-- to counter is mutual, and nothing counters itself

opposite-sym : (one other : Side) → opposite one other ≡ opposite other one
opposite-sym Bid Bid = refl
opposite-sym Bid Offer = refl
opposite-sym Offer Bid = refl
opposite-sym Offer Offer = refl

opposite-self : (side : Side) → opposite side side ≡ false
opposite-self Bid = refl
opposite-self Offer = refl

pub counter-sides : (one other : Entry) → counters one other ≡ true → opposite one.side other.side ≡ true
unfolding counters
counter-sides one other is = grind (arith, nat_tests)

pub counter-flip : (one other : Entry) → counters one other ≡ false → counters other one ≡ false
unfolding counters
counter-flip one other no_counter = grind (arith, nat_tests, opposite-sym one.side other.side)

pub counter-self : (entry : Entry) → counters entry entry ≡ false
unfolding counters
counter-self entry = grind (arith, nat_tests, opposite-self entry.side)
