-- Which orders wait after one more call, as equations.
use Rattle.std.proofs.Common.{◌≡◌, ℕ, suc, ◌<◌, ◌≤◌, Bool, true, false, not, ◌&&◌, eqb, ltb, sym, refl, ap, inl, inr, arith}
use Rattle.std.proofs.lemmas.Bool.{or_parts, or_from, ltb-false, ne_eqb, cond-true, cond-false, eq-eqb}
use Rattle.std.proofs.lemmas.Bool.Decides.{nat_tests}
use Rattle.rulebook.specs.Meaning.{Meaning}
use Rattle.history.specs.declared.calls.Entry.{Entry}
use Rattle.history.specs.declared.calls.Call.{Call}
use Rattle.history.specs.declared.calls.Call.TheVariants.{Clock, Enter, Withdraw}
use Rattle.history.specs.declared.answers.Answer.{Answer}
use Rattle.history.specs.declared.answers.Answer.TheVariants.{Done, Lapsed, Ordered}
use Rattle.history.specs.History.{History, opened, after, minute}
use Rattle.history.specs.Orders.{Order, order, orders, taken, withdrawn, hours_end, ends, waits, meets, earliest}
use Rattle.history.specs.Rulings.{Lawful}
use Rattle.history.proofs.Firsts.{first_is}
use Rattle.history.proofs.Steps.{Step, step, refused, lists, posts, collars, clocks, halts, lifts, asks, enters, withdraws}

-- two tests that pass together are one
pub same : (a b : Bool) → (a ≡ true → b ≡ true) → (b ≡ true → a ≡ true) → a ≡ b
same true true to from = refl
same true false to from = sym (to refl)
same false true to from = from refl
same false false to from = refl

module _ (rules : Meaning) (h : History) where
  pub waits-clock : (to n k : ℕ) → minute h ≤ to → waits rules (after h (Clock to) (Lapsed n)) k ≡ (waits rules h k && ltb to (ends rules h k))
  unfolding waits
  waits-clock to n k later = grind (arith, nat_tests)

  pub waits-withdraw : (j participant k : ℕ) → waits rules (after h (Withdraw j participant) Done) k ≡ (waits rules h k && not (eqb k j))
  unfolding waits
  waits-withdraw j participant k = grind (arith, nat_tests)

  order_enter : (e : Entry) (p k : ℕ) → k ≤ orders h → order (after h (Enter e) (Ordered (suc (orders h)) p)) k ≡ order h k
  order_enter e p k old = cond-false (eqb k (suc (orders h))) _ _ (ne_eqb k (suc (orders h)) (λ is. omega arith))

  -- an order of the day before
  pub waits-enter : (e : Entry) (p k : ℕ) → k ≤ orders h
      → waits rules (after h (Enter e) (Ordered (suc (orders h)) p)) k ≡ (waits rules h k && not (eqb k p))
  unfolding waits
  waits-enter e p k old =
      let same = order_enter e p k old in
      let end : ends rules (after h (Enter e) (Ordered (suc (orders h)) p)) k ≡ ends rules h k = ap (λ (o : Order). hours_end rules o.before o.entry) same in
      grind (arith, nat_tests, same, end)

  -- the new order waits where it has no partner, nobody named it before, and its hours hold the minute
  pub waits-new : (e : Entry) (k : ℕ) → k ≡ suc (orders h) → taken h k ≡ false → withdrawn h k ≡ false → minute h < hours_end rules h e
      → waits rules (after h (Enter e) (Ordered (suc (orders h)) 0)) k ≡ true
  unfolding waits
  waits-new e k new free kept time =
      let here : order (after h (Enter e) (Ordered (suc (orders h)) 0)) k ≡ record { entry = e; before = h; partner = 0 } =
      cond-true (eqb k (suc (orders h))) _ _ (eq-eqb k (suc (orders h)) new) in
      let end : ends rules (after h (Enter e) (Ordered (suc (orders h)) 0)) k ≡ hours_end rules h e = ap (λ (o : Order). hours_end rules o.before o.entry) here in
      grind (arith, nat_tests, here, end)

  -- a new order with a partner does not wait, nor does one that is not there
  pub waits-not : (e : Entry) (p k : ℕ) → 1 ≤ p → k ≡ suc (orders h) → waits rules (after h (Enter e) (Ordered (suc (orders h)) p)) k ≡ false
  unfolding waits
  waits-not e p k some new =
      let here : order (after h (Enter e) (Ordered (suc (orders h)) p)) k ≡ record { entry = e; before = h; partner = p } =
      cond-true (eqb k (suc (orders h))) _ _ (eq-eqb k (suc (orders h)) new) in
      grind (arith, nat_tests, here)

  pub waits-known : (k : ℕ) → orders h < k → waits rules h k ≡ false
  unfolding waits
  waits-known k more = grind (arith, nat_tests)

-- no order is named before it came
pub record Unnamed (h : History) (k : ℕ) : Type 0 where
  pub free : taken h k ≡ false
  pub kept : withdrawn h k ≡ false

most : (rules : Meaning) (h : History) (entry : Entry) → earliest rules h entry ≤ orders h
most rules h entry =
    elim (first_is (meets rules h entry) (orders h)) [
      | inl nothing ↦ omega (arith, nothing.zero_is)
      | inr one ↦ one.high
    ]

still_unnamed : (rules : Meaning) (h : History) → ((k : ℕ) → orders h < k → Unnamed h k) → (call : Call) (answer : Answer) → Step rules h call answer
    → (k : ℕ) → orders (after h call answer) < k → Unnamed (after h call answer) k
still_unnamed rules h before call answer (refused _ fault) k more = let u = before k more in record { free = u.free; kept = u.kept }
still_unnamed rules h before call answer (lists product contract there) k more = let u = before k more in record { free = u.free; kept = u.kept }
still_unnamed rules h before call answer (posts contract letter value) k more = let u = before k more in record { free = u.free; kept = u.kept }
still_unnamed rules h before call answer (collars contract low high within) k more = let u = before k more in record { free = u.free; kept = u.kept }
still_unnamed rules h before call answer (clocks to count later) k more = let u = before k more in record { free = u.free; kept = u.kept }
still_unnamed rules h before call answer (halts contract) k more = let u = before k more in record { free = u.free; kept = u.kept }
still_unnamed rules h before call answer (lifts contract) k more = let u = before k more in record { free = u.free; kept = u.kept }
still_unnamed rules h before call answer (asks contract n d price distance) k more = let u = before k more in record { free = u.free; kept = u.kept }
still_unnamed rules h before call answer (enters entry fit) k more =
    let u = before k (omega arith) in
    let old = most rules h entry in
    record {
      free = or_from (eqb k (earliest rules h entry)) (taken h k) (ne_eqb k (earliest rules h entry) (λ is. omega arith)) u.free;
      kept = u.kept;
    }
still_unnamed rules h before call answer (withdraws j participant there) k more =
    let u = before k more in
    let old = ltb-false (orders h) j (or_parts (eqb j 0) (ltb (orders h) j) there).1 in
    record {
      free = u.free;
      kept = or_from (eqb k j) (withdrawn h k) (ne_eqb k j (λ is. omega arith)) u.kept;
    }

pub unnamed : (rules : Meaning) (h : History) → Lawful rules h → (k : ℕ) → orders h < k → Unnamed h k
unnamed rules opened lawful k more = record { free = refl; kept = refl }
unnamed rules (after h call answer) lawful k more =
    still_unnamed rules h (unnamed rules h lawful.0) call answer (step rules h call answer lawful.1) k more
