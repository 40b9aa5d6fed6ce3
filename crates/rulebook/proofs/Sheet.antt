-- A sheet in which one figure is written.
use Rattle.std.proofs.Common.{◌≡◌, ℕ, ◌-◌, ◌<◌, ◌≤◌, true, cond, eqb, leb, List, length, get_or, set, Some, None, Option, sym, refl, ap, ◌∙◌, subst, inl, inr, arith, get_or-set_other, get_or-set_same}
use Rattle.std.proofs.lemmas.Bool.{cases_eq, cond-true, cond-false, eq-eqb, ne_eqb, le-leb, leb-true, and_from, and_parts}
use Rattle.rulebook.specs.declared.letters.Letter.{Letter}
use Rattle.rulebook.specs.declared.letters.Letter.TheVariants.{B, O, L, U, V, W, X, Y, Z, H, I, K, M}
use Rattle.rulebook.specs.Letters.{rank, same, most}
use Rattle.rulebook.specs.Limits.{fits}
use Rattle.rulebook.specs.declared.figures.Figures.{Figures}
use Rattle.rulebook.specs.Sheets.{Sheet, sheet, posted, with_figure, after_posting, WithinLimits}

pub rank_positive : (letter : Letter) → 1 ≤ rank letter
rank_positive B = omega arith
rank_positive O = omega arith
rank_positive L = omega arith
rank_positive U = omega arith
rank_positive V = omega arith
rank_positive W = omega arith
rank_positive X = omega arith
rank_positive Y = omega arith
rank_positive Z = omega arith
rank_positive H = omega arith
rank_positive I = omega arith
rank_positive K = omega arith
rank_positive M = omega arith

-- the sheet of a list of values
abbrev read : List (Option ℕ) → Sheet
read values letter = get_or values (rank letter - 1) None

written_at : (values : List (Option ℕ)) (letter other : Letter) (value : ℕ) → rank letter - 1 < length values
    → read (set values (rank letter - 1) (posted value)) other ≡ with_figure (read values) letter value other
written_at values letter other value inside =
    elim (cases_eq (rank other) (rank letter)) [
      | inl equal ↦
          ap (λ (k : ℕ). get_or (set values (rank letter - 1) (posted value)) (k - 1) None) equal
          ∙ get_or-set_same values (rank letter - 1) (posted value) None inside
          ∙ sym (cond-true (same other letter) (posted value) (read values other) (eq-eqb _ _ equal))
      | inr differ ↦
          get_or-set_other values (rank letter - 1) (rank other - 1) (posted value) None
          (λ e. differ (let p = rank_positive letter in let q = rank_positive other in omega arith))
          ∙ sym (cond-false (same other letter) (posted value) (read values other) (ne_eqb _ _ differ))
    ]

written_sheet : (values : List (Option ℕ)) (letter : Letter) (value : ℕ) → rank letter - 1 < length values → value ≤ most letter
    → read (set values (rank letter - 1) (posted value)) ≡ after_posting (read values) letter value
written_sheet values letter value inside small =
    (λ i other. written_at values letter other value inside i)
    ∙ sym (cond-true (leb value (most letter)) (with_figure (read values) letter value) (read values) (le-leb _ _ small))

-- the same of an index and a figure that are those
pub sheet_written : (values : List (Option ℕ)) (letter : Letter) (value number : ℕ) (figure : Option ℕ)
    → number ≡ rank letter → figure ≡ posted value → rank letter - 1 < length values → value ≤ most letter
    → read (set values (number - 1) figure) ≡ after_posting (read values) letter value
sheet_written values letter value number figure ranked new inside small =
    (λ i. read (set values (ranked i - 1) (new i))) ∙ written_sheet values letter value inside small

fits_posted : (place value : ℕ) → value ≤ cond (eqb place 12) 2 100_000_000_000 → fits place (posted value) ≡ true
fits_posted place value small =
    elim (cases_eq value 0) [
      | inl zero ↦ ap (fits place) (cond-true (eqb value 0) None (Some value) (eq-eqb _ _ zero))
      | inr other ↦
          ap (fits place) (cond-false (eqb value 0) None (Some value) (ne_eqb _ _ other))
          ∙ and_from _ _ (le-leb 1 value (omega arith)) (le-leb _ _ small)
    ]

-- where all figures fit, and the new one does, all fit again
pub fits_written : (values : List (Option ℕ)) (index value place : ℕ) → index < length values
    → value ≤ cond (eqb index 12) 2 100_000_000_000 → ((k : ℕ) → fits k (get_or values k None) ≡ true)
    → fits place (get_or (set values index (posted value)) place None) ≡ true
fits_written values index value place inside small all =
    elim (cases_eq place index) [
      | inl here ↦
          ap (λ (k : ℕ). fits k (get_or (set values index (posted value)) k None)) here
          ∙ ap (fits index) (get_or-set_same values index (posted value) None inside)
          ∙ fits_posted index value small
      | inr other ↦ ap (fits place) (get_or-set_other values index place (posted value) None other) ∙ all place
    ]

-- the limit of a letter is that of its place
same_most : (letter : Letter) → most letter ≡ cond (eqb (rank letter - 1) 12) 2 100_000_000_000
same_most B = refl
same_most O = refl
same_most L = refl
same_most U = refl
same_most V = refl
same_most W = refl
same_most X = refl
same_most Y = refl
same_most Z = refl
same_most H = refl
same_most I = refl
same_most K = refl
same_most M = refl

pub most_at : (letter : Letter) (value : ℕ) → value ≤ most letter → value ≤ cond (eqb (rank letter - 1) 12) 2 100_000_000_000
most_at letter value small = subst (λ (top : ℕ). value ≤ top) (same_most letter) small

-- the figures of every sheet are within their limits
fits_parts : (place value : ℕ) → fits place (Some value) ≡ true → (1 ≤ value) × (value ≤ cond (eqb place 12) 2 100_000_000_000)
fits_parts place value test =
    let (least, most_of) = and_parts (leb 1 value) _ test in (leb-true 1 value least, leb-true value _ most_of)

pub within_limits : (figures : Figures) → WithinLimits (sheet figures)
within_limits figures = record {
  positive = λ letter value is.
      (fits_parts (rank letter - 1) value (ap (fits (rank letter - 1)) (sym is) ∙ figures.within (rank letter - 1))).0;
  bounded = λ letter value is.
      subst (λ (top : ℕ). value ≤ top) (sym (same_most letter))
      (fits_parts (rank letter - 1) value (ap (fits (rank letter - 1)) (sym is) ∙ figures.within (rank letter - 1))).1;
}
