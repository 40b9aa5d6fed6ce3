-- The search of all prices ends with the nearest.
use Rattle.std.proofs.Common.{◌≡◌, ℕ, zero, suc, ◌<◌, ◌≤◌, false, ℤ, Some, None, Option, sym, refl, ap, ◌∙◌, subst, inl, inr, arith}
use Rattle.std.proofs.lemmas.Bool.{cases_lt, cases_eq, cond_both, leb-true, leb-false, both_ways}
use Rattle.price.specs.Sets.{PriceSet, ◌among◌, Prices, last_price}
use Rattle.price.specs.Questions.{distance, Worse, Nearest}
use Rattle.price.specs.Closest.{nearer, nearest_to_top, with_distance, closest, NearestBeside}
use Rattle.price.proofs.Nearness.{worse_trans, one_nearest, neighbours_decide}

-- the nearest of the prices of a set from 1 to a top
NearestToTop : ℕ → PriceSet → ℕ → ℕ → Option ℕ → Type 0
NearestToTop top set n d None = (p : ℕ) → 1 ≤ p → p ≤ top → p among set → ⊥
NearestToTop top set n d (Some r) =
    (r among set) × (r ≤ top) × ((p : ℕ) → 1 ≤ p → p ≤ top → p among set → (p ≡ r → ⊥) → Worse n d p r)

module _ (set : PriceSet) (n d : ℕ) where
  -- one more number, which is not of the set
  past : (top : ℕ) (o : Option ℕ) → set (suc top) ≡ false → NearestToTop top set n d o → NearestToTop (suc top) set n d o
  unfolding NearestToTop
  past top None out b = λ p least most in_set.
      elim (cases_eq p (suc top)) [
        | inl same ↦ both_ways (set p) (ap set same ∙ out) in_set
        | inr other ↦ b p least (omega arith) in_set
      ]
  past top (Some r) out b = (
    b.0,
    omega (arith, b.1),
    λ p least most in_set other.
        elim (cases_eq p (suc top)) [
          | inl same ↦ absurd (both_ways (set p) (ap set same ∙ out) in_set)
          | inr lower ↦ b.2 p least (omega arith) in_set other
        ],
  )

  -- one more price of the set, which is no farther than the nearest so far
  replaced : (top r : ℕ) → suc top among set → NearestToTop top set n d (Some r)
      → distance n d (suc top) ≤ distance n d r → NearestToTop (suc top) set n d (Some (suc top))
  unfolding NearestToTop
  replaced top r here b no_farther =
      let before : Worse n d r (suc top) =
      elim (cases_lt (distance n d (suc top)) (distance n d r))
      [ inl less ↦ inl less | inr same ↦ inr (omega arith, omega (arith, b.1)) ] in (
        here,
        omega arith,
        λ p least most in_set other.
            elim (cases_eq p r) [
              | inl same ↦ subst (λ (x : ℕ). Worse n d x (suc top)) (sym same) before
              | inr lower ↦ worse_trans n d p r (suc top) (b.2 p least (omega arith) in_set lower) before
            ],
      )

  -- one more price of the set, which is farther
  kept : (top r : ℕ) → NearestToTop top set n d (Some r)
      → distance n d r < distance n d (suc top) → NearestToTop (suc top) set n d (Some r)
  unfolding NearestToTop
  kept top r b farther = (
    b.0,
    omega (arith, b.1),
    λ p least most in_set other.
        elim (cases_eq p (suc top)) [
          | inl same ↦ subst (λ (x : ℕ). Worse n d x r) (sym same) (inl farther)
          | inr lower ↦ b.2 p least (omega arith) in_set other
        ],
  )

  taken : (top : ℕ) (o : Option ℕ) → suc top among set → NearestToTop top set n d o
      → NearestToTop (suc top) set n d (nearer n d o (Some (suc top)))
  unfolding NearestToTop
  taken top None here b =
      (here, omega arith, λ p least most in_set other. absurd (b p least (omega arith) in_set))
  taken top (Some r) here b =
      cond_both _ (Some (suc top)) (Some r) (NearestToTop (suc top) set n d)
      (λ test. replaced top r here b (leb-true _ _ test))
      (λ test. kept top r b (leb-false _ _ test))

  searched : (top : ℕ) → NearestToTop top set n d (nearest_to_top top set n d)
  unfolding NearestToTop nearest_to_top
  searched zero = λ p least most in_set. omega arith
  searched (suc top) =
      cond_both (set (suc top)) _ _ (NearestToTop (suc top) set n d)
      (λ here. taken top (nearest_to_top top set n d) here (searched top))
      (λ out. past top (nearest_to_top top set n d) out (searched top))

  -- where the set ends at the top, that is the nearest price of the set
  whole : (top : ℕ) (o : Option ℕ) → ((p : ℕ) → p among set → 1 ≤ p) → ((p : ℕ) → p among set → p ≤ top)
      → NearestToTop top set n d o → Nearest set n d (with_distance n d o)
  unfolding NearestToTop
  whole top None positive bounded b = λ p in_set. b p (positive p in_set) (bounded p in_set) in_set
  whole top (Some r) positive bounded b =
      (b.0, refl, λ p in_set other. b.2 p (positive p in_set) (bounded p in_set) in_set other)

  pub closest_is_nearest : Prices set → Nearest set n d (closest set n d)
  unfolding closest
  closest_is_nearest prices =
      whole last_price (nearest_to_top last_price set n d) prices.positive prices.bounded (searched last_price)

  pub nearest_is_closest : (r : Option (ℕ × ℤ)) → Prices set → Nearest set n d r → r ≡ closest set n d
  nearest_is_closest r prices near = one_nearest set n d r (closest set n d) near (closest_is_nearest prices)

-- the nearer of the two neighbours, with its distance, is the closest price of every set that has these neighbours
pub beside_closest : (n d : ℕ) (below above : Option ℕ) (r : Option (ℕ × ℤ)) → 1 ≤ d
    → r ≡ with_distance n d (nearer n d below above) → NearestBeside n d below above r
beside_closest n d below above r positive chosen set prices f g =
    nearest_is_closest set n d r prices
    (subst (Nearest set n d) (sym chosen) (neighbours_decide set n d below above positive f g))
