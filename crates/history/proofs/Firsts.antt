-- The least number that passes a test, and how many pass.
use Rattle.std.proofs.Common.{◌≡◌, ℕ, zero, suc, ◌<◌, ◌≤◌, Bool, true, false, cond, eqb, ◌⊎◌, refl, ◌∙◌, inl, inr, arith}
use Rattle.std.proofs.lemmas.Bool.{eq-eqb, ne_eqb, cond-true, cond-false, cases_Bool, cases_lt}
use Rattle.history.specs.Orders.{first, how_many}

pub record Nothing (test : ℕ → Bool) (n r : ℕ) : Type 0 where
  pub zero_is : r ≡ 0
  pub fails : (k : ℕ) → 1 ≤ k → k ≤ n → test k ≡ false

pub record Found (test : ℕ → Bool) (n r : ℕ) : Type 0 where
  pub low : 1 ≤ r
  pub high : r ≤ n
  pub passes : test r ≡ true
  pub least : (k : ℕ) → 1 ≤ k → k < r → test k ≡ false

up_to : (test : ℕ → Bool) (n : ℕ) → ((k : ℕ) → 1 ≤ k → k ≤ n → test k ≡ false) → test (suc n) ≡ false →
    (k : ℕ) → 1 ≤ k → k ≤ suc n → test k ≡ false
up_to test n none last k low high =
    elim (cases_lt n k) [
      | inl more ↦ (let e : k ≡ suc n = omega arith in rw e last)
      | inr less ↦ none k low less
    ]

step : (test : ℕ → Bool) (n r : ℕ) → Nothing test n r ⊎ Found test n r →
    Nothing test (suc n) (cond (eqb r 0) (cond (test (suc n)) (suc n) 0) r) ⊎ Found test (suc n) (cond (eqb r 0) (cond (test (suc n)) (suc n) 0) r)
step test n r (inl no_one) =
    let e : cond (eqb r 0) (cond (test (suc n)) (suc n) 0) r ≡ cond (test (suc n)) (suc n) 0 = cond-true (eqb r 0) _ r (eq-eqb r 0 no_one.zero_is) in
    rw e
    (elim (cases_Bool (test (suc n))) [
      | inl t ↦ rw (cond-true (test (suc n)) (suc n) 0 t)
          (inr (record { low = omega arith; high = omega arith; passes = t; least = λ k l h. no_one.fails k l (omega arith) }))
      | inr f ↦ rw (cond-false (test (suc n)) (suc n) 0 f)
          (inl (record { zero_is = refl; fails = up_to test n no_one.fails f }))
    ])
step test n r (inr one) =
    let e : cond (eqb r 0) (cond (test (suc n)) (suc n) 0) r ≡ r = cond-false (eqb r 0) _ r (ne_eqb r 0 (λ z. omega (arith, one.low))) in
    rw e (inr (record { low = one.low; high = omega (arith, one.high); passes = one.passes; least = one.least }))

pub first_is : (test : ℕ → Bool) (n : ℕ) → Nothing test n (first test n) ⊎ Found test n (first test n)
unfolding first
first_is test zero = inl (record { zero_is = refl; fails = λ k l h. absurd (omega arith) })
first_is test (suc n) = step test n (first test n) (first_is test n)

-- for a loop that looks from the first on: one more that fails, the one that passes, and tests that agree
pub first_on : (test : ℕ → Bool) (n : ℕ) → first test n ≡ 0 → test (suc n) ≡ false → first test (suc n) ≡ 0
unfolding first
first_on test n z f = cond-true (eqb (first test n) 0) _ _ (eq-eqb _ 0 z) ∙ cond-false (test (suc n)) (suc n) 0 f

pub first_at : (test : ℕ → Bool) (n : ℕ) → first test n ≡ 0 → test (suc n) ≡ true → first test (suc n) ≡ suc n
unfolding first
first_at test n z t = cond-true (eqb (first test n) 0) _ _ (eq-eqb _ 0 z) ∙ cond-true (test (suc n)) (suc n) 0 t

pub first_stays : (test : ℕ → Bool) (n r : ℕ) → first test n ≡ r → 0 < r → first test (suc n) ≡ r
unfolding first
first_stays test n r e p = cond-false (eqb (first test n) 0) _ _ (ne_eqb _ 0 (λ z. omega arith)) ∙ e

pub first_there : (test : ℕ → Bool) (n m : ℕ) → first test n ≡ 0 → test (suc n) ≡ true → n < m → first test m ≡ suc n
first_there test n zero z t u = absurd (omega arith)
first_there test n (suc m) z t u =
    elim (cases_lt n m) [
      | inl less ↦ first_stays test m (suc n) (first_there test n m z t less) (omega arith)
      | inr more ↦ (let e : m ≡ n = omega arith in rw e (first_at test n z t))
    ]

pub first_same : (f g : ℕ → Bool) (n : ℕ) → ((k : ℕ) → 1 ≤ k → k ≤ n → f k ≡ g k) → first f n ≡ first g n
unfolding first
first_same f g zero e = refl
first_same f g (suc n) e =
    let i = first_same f g n (λ k l u. e k l (omega arith)) in
    let s = e (suc n) (omega arith) (omega arith) in
    rw (i, s) refl

pub many_on : (test : ℕ → Bool) (n : ℕ) → test (suc n) ≡ false → how_many test (suc n) ≡ how_many test n
unfolding how_many
many_on test n f = cond-false (test (suc n)) _ _ f

pub many_at : (test : ℕ → Bool) (n : ℕ) → test (suc n) ≡ true → how_many test (suc n) ≡ suc (how_many test n)
unfolding how_many
many_at test n t = cond-true (test (suc n)) _ _ t

pub many_same : (f g : ℕ → Bool) (n : ℕ) → ((k : ℕ) → 1 ≤ k → k ≤ n → f k ≡ g k) → how_many f n ≡ how_many g n
unfolding how_many
many_same f g zero e = refl
many_same f g (suc n) e =
    let i = many_same f g n (λ k l u. e k l (omega arith)) in
    let s = e (suc n) (omega arith) (omega arith) in
    rw (i, s) refl
