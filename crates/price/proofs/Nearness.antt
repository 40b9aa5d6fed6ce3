-- Which price of a set is the nearest, and that no two are.
use Rattle.std.proofs.Common.{◌≡◌, ℕ, suc, ◌+◌, ◌*◌, ◌<◌, ◌≤◌, ℤ, Some, None, Option, sym, refl, ap, ◌∙◌, inl, inr, mul-le-mul_right, suc-mul, le_of_mul-le-mul_right, arith}
use Rattle.std.proofs.lemmas.Bool.{cases_lt, cases_eq, cond_both, leb-true, leb-false}
use Rattle.price.specs.Sets.{PriceSet, ◌among◌}
use Rattle.price.specs.Questions.{GreatestAtOrBelow, LeastAtOrAbove, distance, Worse, signed_distance, Nearest}
use Rattle.price.specs.Closest.{nearer, with_distance}

-- a higher price is at least a whole divisor farther up
pub up : (d lower higher : ℕ) → lower < higher → lower * d + d ≤ higher * d
up d lower higher less = omega (arith, mul-le-mul_right {m = suc lower} {n = higher} d less, suc-mul lower d)

-- of two prices only one can be worse than the other
one_worse : (n d price other : ℕ) → Worse n d price other → Worse n d other price → ⊥
one_worse n d price other (inl x) (inl y) = omega arith
one_worse n d price other (inl x) (inr y) = omega (arith, y.0)
one_worse n d price other (inr x) (inl y) = omega (arith, x.0)
one_worse n d price other (inr x) (inr y) = omega (arith, x.1, y.1)

-- what is worse than a worse price is worse
pub worse_trans : (n d a b c : ℕ) → Worse n d a b → Worse n d b c → Worse n d a c
worse_trans n d a b c (inl x) (inl y) = inl (omega arith)
worse_trans n d a b c (inl x) (inr y) = inl (omega (arith, y.0))
worse_trans n d a b c (inr x) (inl y) = inl (omega (arith, x.0))
worse_trans n d a b c (inr x) (inr y) = inr (y.0 ∙ x.0, omega (arith, x.1, y.1))

module _ (set : PriceSet) (n d : ℕ) where
  pub one_nearest : (r s : Option (ℕ × ℤ)) → Nearest set n d r → Nearest set n d s → r ≡ s
  one_nearest None None f g = refl
  one_nearest None (Some (p, t)) f g = absurd (f p g.0)
  one_nearest (Some (r, s)) None f g = absurd (g r f.0)
  one_nearest (Some (r, s)) (Some (p, t)) f g =
      elim (cases_eq r p) [
        | inl same ↦ (let signs : s ≡ t = f.1 ∙ ap (signed_distance n d) same ∙ sym g.1 in cc)
        | inr other ↦ absurd (one_worse n d p r (f.2 p g.0 (λ e. other (sym e))) (g.2 r f.0 other))
      ]

  pub one_greatest : (r s : Option ℕ) → GreatestAtOrBelow set n d r → GreatestAtOrBelow set n d s → r ≡ s
  one_greatest None None f g = refl
  one_greatest None (Some s) f g = absurd (omega (arith, f s g.0, g.1))
  one_greatest (Some r) None f g = absurd (omega (arith, g r f.0, f.1))
  one_greatest (Some r) (Some s) f g =
      let same : r ≡ s = omega (arith, f.2 s g.0 g.1, g.2 r f.0 f.1) in ap Some same

  pub one_least : (r s : Option ℕ) → LeastAtOrAbove set n d r → LeastAtOrAbove set n d s → r ≡ s
  one_least None None f g = refl
  one_least None (Some s) f g = absurd (omega (arith, f s g.0, g.1))
  one_least (Some r) None f g = absurd (omega (arith, g r f.0, f.1))
  one_least (Some r) (Some s) f g =
      let same : r ≡ s = omega (arith, f.2 s g.0 g.1, g.2 r f.0 f.1) in ap Some same

  -- the greatest below beats every price below it, the least above every price above it
  worse_below : (b : ℕ) → 1 ≤ d → GreatestAtOrBelow set n d (Some b)
      → (p : ℕ) → p among set → p * d ≤ n → (p ≡ b → ⊥) → Worse n d p b
  worse_below b positive f p in_set below other =
      let less : p < b = omega (arith, f.2 p in_set below) in inl (omega (arith, up d p b less, f.1))

  worse_above : (a : ℕ) → 1 ≤ d → LeastAtOrAbove set n d (Some a)
      → (p : ℕ) → p among set → n ≤ p * d → (p ≡ a → ⊥) → Worse n d p a
  worse_above a positive f p in_set above other =
      let less : a < p = omega (arith, f.2 p in_set above) in inl (omega (arith, up d a p less, f.1))

  -- the least above, no farther than the greatest below
  above_wins : (b a : ℕ) → 1 ≤ d → GreatestAtOrBelow set n d (Some b) → LeastAtOrAbove set n d (Some a)
      → distance n d a ≤ distance n d b → Nearest set n d (with_distance n d (Some a))
  above_wins b a positive f g no_farther = (
    g.0,
    refl,
    λ p in_set other.
        elim (cases_lt n (p * d)) [
          | inl over ↦ worse_above a positive g p in_set (omega arith) other
          | inr under ↦
              (let beyond : p * d ≤ b * d = mul-le-mul_right d (f.2 p in_set under) in
              elim (cases_lt (distance n d a) (distance n d p)) [
                | inl farther ↦ inl farther
                | inr as_far ↦
                    (let most : p ≤ a = le_of_mul-le-mul_right {m = p} {n = a} {k = d} (omega (arith, g.1)) positive in
                    inr (omega (arith, f.1, g.1), omega arith))
              ])
        ],
  )

  -- the greatest below, nearer than the least above
  below_wins : (b a : ℕ) → 1 ≤ d → GreatestAtOrBelow set n d (Some b) → LeastAtOrAbove set n d (Some a)
      → distance n d b < distance n d a → Nearest set n d (with_distance n d (Some b))
  below_wins b a positive f g nearer_below = (
    f.0,
    refl,
    λ p in_set other.
        elim (cases_lt n (p * d)) [
          | inl over ↦
              (let beyond : a * d ≤ p * d = mul-le-mul_right d (g.2 p in_set (omega arith)) in
              inl (omega (arith, f.1, g.1)))
          | inr under ↦ worse_below b positive f p in_set under other
        ],
  )

  -- the nearer of the two neighbours of n / d is the nearest price
  pub neighbours_decide : (below above : Option ℕ) → 1 ≤ d → GreatestAtOrBelow set n d below → LeastAtOrAbove set n d above
      → Nearest set n d (with_distance n d (nearer n d below above))
  neighbours_decide None None positive f g = λ p in_set. omega (arith, f p in_set, g p in_set)
  neighbours_decide (Some b) None positive f g =
      (f.0, refl, λ p in_set other. worse_below b positive f p in_set (omega (arith, g p in_set)) other)
  neighbours_decide None (Some a) positive f g =
      (g.0, refl, λ p in_set other. worse_above a positive g p in_set (omega (arith, f p in_set)) other)
  neighbours_decide (Some b) (Some a) positive f g =
      cond_both _ (Some a) (Some b) (λ (o : Option ℕ). Nearest set n d (with_distance n d o))
      (λ test. above_wins b a positive f g (leb-true _ _ test))
      (λ test. below_wins b a positive f g (leb-false _ _ test))
