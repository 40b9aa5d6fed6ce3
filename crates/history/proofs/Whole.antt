-- The law, by induction over the history.
use Rattle.std.proofs.Common.{◌≡◌, ℕ, ◌<◌, ◌≤◌, Bool, true, false, not, eqb, ◌⊎◌, sym, refl, ap, ◌∙◌, subst, inl, inr, arith}
use Rattle.std.proofs.lemmas.Bool.{and_parts, and_cases, cases_lt, both_ways, not-true, not_from_true, eq-eqb}
use Rattle.rulebook.specs.Meaning.{Meaning}
use Rattle.history.specs.declared.calls.Entry.{Entry}
use Rattle.history.specs.declared.calls.Call.{Call}
use Rattle.history.specs.declared.calls.Call.TheVariants.{Withdraw}
use Rattle.history.specs.declared.answers.Answer.{Answer}
use Rattle.history.specs.declared.answers.Answer.TheVariants.{Done}
use Rattle.history.specs.declared.faults.DayFault.TheVariants.{NoSuchOrder, AnotherParticipants, NotWaiting}
use Rattle.history.specs.History.{History, opened, after}
use Rattle.history.specs.Orders.{Order, order, orders, known, taken, waits, counters, meets, earliest}
use Rattle.history.specs.Rulings.{◌when◌, refuse, outside, Fixed, Lawful}
use Rattle.history.specs.Law.{Law, Trade, Joined, ShareAnOrder}
use Rattle.history.proofs.Firsts.{Found, first_is}
use Rattle.history.proofs.Steps.{Step, step}
use Rattle.history.proofs.Kept.{known_parts, known_from, waits-parts, taken_on, New, same_order, new_order, waits_back, counter-sides, counter-flip, counter-self}
use Rattle.history.proofs.Asks.{passed, asked_right}

module _ (rules : Meaning) (h : History) where
  -- an order of the day after one more call is an old one, or the new one
  old_or_new : (call : Call) (answer : Answer) → Step rules h call answer → (k : ℕ) → known (after h call answer) k ≡ true
      → (k ≤ orders h) ⊎ New rules h call answer k
  old_or_new call answer s k is =
      elim (cases_lt (orders h) k) [
        | inl more ↦ inr (new_order rules h call answer s k more (known_parts (after h call answer) k is).high)
        | inr less ↦ inl less
      ]

  -- no order that waits counters an entry that found no partner
  unmet : (entry : Entry) → earliest rules h entry ≡ 0 → (k : ℕ) → waits rules h k ≡ true → counters (order h k).entry entry ≡ false
  unmet entry none k waiting =
      let p = known_parts h k (waits-parts rules h k waiting).there in
      elim (first_is (meets rules h entry) (orders h)) [
        | inl nobody ↦
            elim (and_cases (waits rules h k) (counters (order h k).entry entry) (nobody.fails k p.low p.high)) [
              | inl idle ↦ absurd (both_ways (waits rules h k) idle waiting)
              | inr apart ↦ apart
            ]
        | inr somebody ↦ absurd (omega (arith, somebody.low, none))
      ]

  -- the partner that an entry found
  met : (entry : Entry) → 0 < earliest rules h entry → Found (meets rules h entry) (orders h) (earliest rules h entry)
  met entry some =
      elim (first_is (meets rules h entry) (orders h)) [
        | inl nobody ↦ absurd (omega (arith, nobody.zero_is))
        | inr somebody ↦ somebody
      ]

none_left : (rules : Meaning) (h : History) → Lawful rules h → (j k : ℕ) → waits rules h j ≡ true → waits rules h k ≡ true
    → counters (order h j).entry (order h k).entry ≡ false
none_left rules opened lawful j k wj wk =
    let p = known_parts opened j (waits-parts rules opened j wj).there in absurd (omega (arith, p.low, p.high))
none_left rules (after h call answer) lawful j k wj wk =
    let s = step rules h call answer lawful.1 in
    let vj = waits-parts rules (after h call answer) j wj in
    let vk = waits-parts rules (after h call answer) k wk in
    elim (old_or_new rules h call answer s j vj.there) [
      | inl oj ↦
          elim (old_or_new rules h call answer s k vk.there) [
            | inl ok ↦
                rw (same_order rules h call answer s j oj, same_order rules h call answer s k ok)
                (none_left rules h lawful.0 j k (waits_back rules h call answer s j oj wj) (waits_back rules h call answer s k ok wk))
            | inr nk ↦
                rw (same_order rules h call answer s j oj, nk.is)
                (unmet rules h nk.entry (sym (ap (λ (o : Order). o.partner) nk.is) ∙ vk.alone) j (waits_back rules h call answer s j oj wj))
          ]
      | inr nj ↦
          elim (old_or_new rules h call answer s k vk.there) [
            | inl ok ↦
                rw (same_order rules h call answer s k ok, nj.is)
                (counter-flip _ _ (unmet rules h nj.entry (sym (ap (λ (o : Order). o.partner) nj.is) ∙ vj.alone) k (waits_back rules h call answer s k ok wk)))
            | inr nk ↦ rw (nj.number ∙ sym nk.number) (counter-self _)
          ]
    ]

-- a withdraw by the order's own participant

done_if : (waiting : Bool) (answer : Answer) → answer ≡ refuse (NotWaiting when not waiting) Done
    → (answer ≡ Done → waiting ≡ true) × (waiting ≡ true → answer ≡ Done)
done_if true answer given = (λ _. refl, λ _. given)
done_if false answer given =
    (λ done. cc, λ is. cc)

withdrawable : (rules : Meaning) (h : History) (k : ℕ) → known h k ≡ true → (answer : Answer)
    → Fixed rules h (Withdraw k (order h k).entry.participant) answer
    → (answer ≡ Done → waits rules h k ≡ true) × (waits rules h k ≡ true → answer ≡ Done)
withdrawable rules h k there answer fixes =
    let own : ℕ = (order h k).entry.participant in
    let last = refuse (NotWaiting when not (waits rules h k)) Done in
    done_if (waits rules h k) answer
    (passed AnotherParticipants (not (eqb own own)) last answer (not_from_true _ (eq-eqb own own refl))
    (passed NoSuchOrder (outside (orders h) k) (refuse (AnotherParticipants when not (eqb own own)) last) answer (not-true _ there) fixes))

-- trades

trade_old : (rules : Meaning) (h : History) (call : Call) (answer : Answer) → Step rules h call answer → (j k : ℕ) → k ≤ orders h
    → Trade (after h call answer) j k → Trade h j k
trade_old rules h call answer s j k old t = record {
  accepted = known_from h k (known_parts (after h call answer) k t.accepted).low old;
  named = sym (ap (λ (o : Order). o.partner) (same_order rules h call answer s k old)) ∙ t.named;
  somebody = t.somebody;
}

-- the earlier order of a trade is taken
marked : (rules : Meaning) (h : History) → Lawful rules h → (j k : ℕ) → Trade h j k → taken h j ≡ true
marked rules opened lawful j k t = let p = known_parts opened k t.accepted in absurd (omega (arith, p.low, p.high))
marked rules (after h call answer) lawful j k t =
    let s = step rules h call answer lawful.1 in
    elim (old_or_new rules h call answer s k t.accepted) [
      | inl ok ↦ taken_on h call answer j (marked rules h lawful.0 j k (trade_old rules h call answer s j k ok t))
      | inr nk ↦
          (let is : earliest rules h nk.entry ≡ j = sym (ap (λ (o : Order). o.partner) nk.is) ∙ t.named in
          subst (λ (i : ℕ). taken (after h call answer) i ≡ true) is nk.took)
    ]

-- what the day before held of the partner of a new order
record Partner (rules : Meaning) (h : History) (entry : Entry) (j : ℕ) : Type 0 where
  low : 1 ≤ j
  high : j ≤ orders h
  waited : waits rules h j ≡ true
  counter : counters (order h j).entry entry ≡ true
  least : (i : ℕ) → i < j → waits rules h i ≡ true → counters (order h i).entry entry ≡ false

partner : (rules : Meaning) (h : History) (call : Call) (answer : Answer) (j k : ℕ) (new : New rules h call answer k)
    → Trade (after h call answer) j k → Partner rules h new.entry j
partner rules h call answer j k new t =
    let is : earliest rules h new.entry ≡ j = sym (ap (λ (o : Order). o.partner) new.is) ∙ t.named in
    let some : 0 < earliest rules h new.entry = rw is t.somebody in
    let found : Found (meets rules h new.entry) (orders h) j = rw is at (met rules h new.entry some) in
    let both = and_parts (waits rules h j) (counters (order h j).entry new.entry) found.passes in
    record {
      low = found.low;
      high = found.high;
      waited = both.0;
      counter = both.1;
      least = λ i less waiting.
          elim (and_cases (waits rules h i) (counters (order h i).entry new.entry)
          (found.least i (known_parts h i (waits-parts rules h i waiting).there).low less)) [
            | inl idle ↦ absurd (both_ways (waits rules h i) idle waiting)
            | inr apart ↦ apart
          ];
    }

joined_old : (rules : Meaning) (h : History) (call : Call) (answer : Answer) → Step rules h call answer → (j k : ℕ) → k ≤ orders h
    → Joined rules h j k → Joined rules (after h call answer) j k
joined_old rules h call answer s j k old q =
    let y = same_order rules h call answer s k old in
    let x = same_order rules h call answer s j (omega (arith, q.in_order.1)) in
    record {
      in_order = q.in_order;
      sides = rw (x, y) q.sides;
      counter = rw (x, y) q.counter;
      waited = rw y q.waited;
      earliest = λ i less waiting.
          (let z = same_order rules h call answer s i (omega (arith, q.in_order.1)) in
          rw (z, y) (q.earliest i less (rw y at waiting)));
      at_a_price = rw y q.at_a_price;
      was_open = rw y q.was_open;
      unhalted = rw y q.unhalted;
    }

joined_new : (rules : Meaning) (h : History) (call : Call) (answer : Answer) → Step rules h call answer → (j k : ℕ)
    → (new : New rules h call answer k) → Trade (after h call answer) j k → Joined rules (after h call answer) j k
joined_new rules h call answer s j k new t =
    let q = partner rules h call answer j k new t in
    let y = new.is in
    let x = same_order rules h call answer s j q.high in
    record {
      in_order = (t.somebody, omega (arith, q.high, new.number));
      sides = rw (x, y) (counter-sides _ _ q.counter);
      counter = rw (x, y) q.counter;
      waited = rw y q.waited;
      earliest = λ i less waiting.
          (let z = same_order rules h call answer s i (omega (arith, q.high)) in
          rw (z, y) (q.least i less (rw y at waiting)));
      at_a_price = rw y new.fit.admitted;
      was_open = rw y new.fit.opens;
      unhalted = rw y new.fit.runs;
    }

joined : (rules : Meaning) (h : History) → Lawful rules h → (j k : ℕ) → Trade h j k → Joined rules h j k
joined rules opened lawful j k t = let p = known_parts opened k t.accepted in absurd (omega (arith, p.low, p.high))
joined rules (after h call answer) lawful j k t =
    let s = step rules h call answer lawful.1 in
    elim (old_or_new rules h call answer s k t.accepted) [
      | inl ok ↦ joined_old rules h call answer s j k ok (joined rules h lawful.0 j k (trade_old rules h call answer s j k ok t))
      | inr nk ↦ joined_new rules h call answer s j k nk t
    ]

-- a new trade and an old one have no order in common
apart : (rules : Meaning) (h : History) → Lawful rules h → (call : Call) (answer : Answer) (j k i m : ℕ) → New rules h call answer k
    → Trade (after h call answer) j k → m ≤ orders h → Trade h i m → ShareAnOrder j k i m → ⊥
apart rules h lawful call answer j k i m new t old u shared =
    let q = partner rules h call answer j k new t in
    let w = waits-parts rules h j q.waited in
    let b = (joined rules h lawful i m u).in_order in
    let d = new.number in
    elim shared [
      | inl (inl e) ↦ both_ways (taken h j) w.free (rw e (marked rules h lawful i m u))
      | inl (inr e) ↦ (let z : (order h m).partner ≡ 0 = rw e at w.alone in omega (arith, u.named, u.somebody, z))
      | inr (inl e) ↦ omega (arith, b.1)
      | inr (inr e) ↦ omega arith
    ]

swap : (j k i m : ℕ) → ShareAnOrder j k i m → ShareAnOrder i m j k
swap j k i m (inl (inl e)) = inl (inl (sym e))
swap j k i m (inl (inr e)) = inr (inl (sym e))
swap j k i m (inr (inl e)) = inl (inr (sym e))
swap j k i m (inr (inr e)) = inr (inr (sym e))

once : (rules : Meaning) (h : History) → Lawful rules h → (j k i m : ℕ) → Trade h j k → Trade h i m → ShareAnOrder j k i m
    → (j ≡ i) × (k ≡ m)
once rules opened lawful j k i m t u shared =
    let p = known_parts opened k t.accepted in absurd (omega (arith, p.low, p.high))
once rules (after h call answer) lawful j k i m t u shared =
    let s = step rules h call answer lawful.1 in
    elim (old_or_new rules h call answer s k t.accepted) [
      | inl ok ↦
          elim (old_or_new rules h call answer s m u.accepted) [
            | inl om ↦ once rules h lawful.0 j k i m (trade_old rules h call answer s j k ok t) (trade_old rules h call answer s i m om u) shared
            | inr nm ↦ absurd (apart rules h lawful.0 call answer i m j k nm u ok (trade_old rules h call answer s j k ok t) (swap j k i m shared))
          ]
      | inr nk ↦
          elim (old_or_new rules h call answer s m u.accepted) [
            | inl om ↦ absurd (apart rules h lawful.0 call answer j k i m nk t om (trade_old rules h call answer s i m om u) shared)
            | inr nm ↦
                (let e : k ≡ m = nk.number ∙ sym nm.number in
                (sym t.named ∙ (ap (λ (n : ℕ). (order (after h call answer) n).partner) e ∙ u.named), e))
          ]
    ]

pub law : Law
law rules h lawful = record {
  asks = asked_right rules h lawful;
  trades = joined rules h lawful;
  once = once rules h lawful;
  none_left = none_left rules h lawful;
  withdrawable = withdrawable rules h;
  in_hours = λ k waiting. (waits-parts rules h k waiting).time;
}
