-- A text that comes in pieces.
use Rattle.std.proofs.Common.{◌≡◌, ℕ, Bool, true, false, eqb, List, [], ◌∷◌, ◌++◌, refl, ap, ◌∙◌, arith}
use Rattle.line.specs.Lines.{lines, in_front, ended, unended}

pub all_left : (bytes : List ℕ) → ended bytes ≡ [] → unended bytes ≡ bytes
all_left [] none = refl
all_left (b ∷ bytes) none = by_byte (eqb b 10) refl (ended bytes) refl
  where
    by_byte : (t : Bool) → eqb b 10 ≡ t → (es : List (List ℕ)) → ended bytes ≡ es → unended (b ∷ bytes) ≡ b ∷ bytes
    by_byte true e es is = absurd (let h = rw e at none in let z : ◌≡◌ {A = ℕ} 0 1 = cc in omega arith)
    by_byte false e [] is = rw (e, is) refl
    by_byte false e (l ∷ es) is = absurd (let h = rw (e, is) at none in let z : ◌≡◌ {A = ℕ} 0 1 = cc in omega arith)

pub none_left : (bytes : List ℕ) → ended (unended bytes) ≡ []
none_left [] = refl
none_left (b ∷ bytes) = by_byte (eqb b 10) refl (ended bytes) refl (none_left bytes)
  where
    by_byte : (t : Bool) → eqb b 10 ≡ t → (es : List (List ℕ)) → ended bytes ≡ es → ended (unended bytes) ≡ [] → ended (unended (b ∷ bytes)) ≡ []
    by_byte true e es is ih = rw e ih
    by_byte false e [] is ih = rw (e, is) (rw (e, is) refl)
    by_byte false e (l ∷ es) is ih = rw (e, is) ih

pub front : (bytes more : List ℕ) → lines (bytes ++ more) ≡ ended bytes ++ lines (unended bytes ++ more)
front [] more = refl
front (b ∷ bytes) more = by_byte (eqb b 10) refl (ended bytes) refl (front bytes more)
  where
    by_byte : (t : Bool) → eqb b 10 ≡ t → (es : List (List ℕ)) → ended bytes ≡ es → lines (bytes ++ more) ≡ ended bytes ++ lines (unended bytes ++ more) → lines (b ∷ bytes ++ more) ≡ ended (b ∷ bytes) ++ lines (unended (b ∷ bytes) ++ more)
    by_byte true e es is ih = rw e (ap (λ ls. [] ∷ ls) ih)
    by_byte false e [] is ih = rw (e, is) (rw e refl)
    by_byte false e (l ∷ es) is ih = rw (e, is) (ap (in_front b) (ih ∙ ap (λ ls. ls ++ lines (unended bytes ++ more)) is))
