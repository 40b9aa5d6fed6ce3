-- A class is open exactly while one of its hours holds the minute.
use Rattle.std.proofs.Common.{◌≡◌, ℕ, ◌<◌, ◌≤◌, Bool, true, false, cond, ◌&&◌, ltb, leb, List, [], ◌∷◌, Some, None, Option, sym, refl, inl, inr, arith}
use Rattle.std.proofs.lemmas.Bool.{and_parts, and_from, leb-true, ltb-true, le-leb, lt-ltb, both_ways}
use Rattle.rulebook.specs.Hours.{hours, ending}
use Rattle.rulebook.specs.Laws.{Among, OpenExactlyInItsHours}

Inside : List (ℕ × ℕ) → ℕ → ℕ → Type 0
Inside list minute last = (first : ℕ) × Among list first last × (first ≤ minute) × (minute < last)

never : {A : Type 0} (last : ℕ) → ◌≡◌ {A = Option ℕ} None (Some last) → A
never last e = let z : ◌≡◌ {A = ℕ} 0 1 = cc in absurd (omega arith)

inside_step : (first close minute last : ℕ) (later : List (ℕ × ℕ)) (here : Bool) → (leb first minute && ltb minute close) ≡ here
    → (ending later minute ≡ Some last → Inside later minute last)
    → cond here (Some close) (ending later minute) ≡ Some last → Inside ((first, close) ∷ later) minute last
unfolding Inside
inside_step first close minute last later true is others found =
    let same : close ≡ last = cc in
    let (from, until) = and_parts (leb first minute) (ltb minute close) is in
    (first, inl (refl, same), leb-true first minute from, omega (arith, ltb-true minute close until))
inside_step first close minute last later false is others found =
    let (start, among, from, until) = others found in (start, inr among, from, until)

inside : (list : List (ℕ × ℕ)) (minute last : ℕ) → ending list minute ≡ Some last → Inside list minute last
inside [] minute last found = never last found
inside ((first, close) ∷ later) minute last found =
    inside_step first close minute last later (leb first minute && ltb minute close) refl (inside later minute last) found

outside_step : (first close minute start last : ℕ) (later : List (ℕ × ℕ)) (here : Bool) → (leb first minute && ltb minute close) ≡ here
    → (ending later minute ≡ None → Among later start last → ⊥)
    → cond here (Some close) (ending later minute) ≡ None → Among ((first, close) ∷ later) start last → start ≤ minute → minute < last → ⊥
outside_step first close minute start last later true is others found among from until =
    let gone : ◌≡◌ {A = Option ℕ} None (Some close) = sym found in never close gone
outside_step first close minute start last later false is others found (inl (same, end)) from until =
    both_ways (leb first minute && ltb minute close) is
    (and_from _ _ (le-leb first minute (omega arith)) (lt-ltb minute close (omega arith)))
outside_step first close minute start last later false is others found (inr among) from until = others found among

outside : (list : List (ℕ × ℕ)) (minute start last : ℕ) → ending list minute ≡ None → Among list start last → start ≤ minute → minute < last → ⊥
outside [] minute start last found among from until = among
outside ((first, close) ∷ later) minute start last found among from until =
    outside_step first close minute start last later (leb first minute && ltb minute close) refl
    (λ none. λ there. outside later minute start last none there from until) found among from until

pub open_exactly_in_its_hours : OpenExactlyInItsHours
unfolding Inside
open_exactly_in_its_hours = record {
  inside = λ class minute last found. inside (hours class) minute last found;
  outside = λ class minute first last found among from until. outside (hours class) minute first last found among from until;
  bonds_at_914 = refl;
  bonds_at_915 = refl;
}
