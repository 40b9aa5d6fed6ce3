-- The search over the letters finds the first that is lacking.
use Rattle.std.proofs.Common.{◌≡◌, ℕ, zero, suc, ◌+◌, ◌-◌, ◌<◌, ◌≤◌, Bool, true, false, cond, ◌&&◌, List, [], ◌∷◌, length, get_or, Some, None, Option, sym, refl, ap, ◌∙◌, inl, inr, suc-le-suc, zero-le, le_of_suc-le-suc, not-suc-le-zero, arith}
use Rattle.std.proofs.lemmas.List.FromFn.{get_or-map-range_with_len, get_or-range_with_len}
use Rattle.std.proofs.lemmas.Bool.{and_parts, and_from, both_ways, cases_order}
use Rattle.rulebook.specs.declared.letters.Letter.{Letter}
use Rattle.rulebook.specs.declared.letters.Letter.TheVariants.{B, O, L, U, V, W, X, Y, Z, H, I, K, M}
use Rattle.rulebook.specs.Letters.{letters, rank}
use Rattle.rulebook.specs.Sheets.{Sheet, is_blank}
use Rattle.rulebook.specs.Meaning.{first, lacking}
use Rattle.rulebook.specs.Laws.{Lacks, FirstLacking, TheFirstLackingLetterIsTold}

-- what a search for the first that passes tells of a list
module _ (test : Letter → Bool) where
  Tells : List Letter → Option Letter → Type 0
  Tells list None = (k : ℕ) → k < length list → test (get_or list k B) ≡ false
  Tells list (Some letter) =
      (k : ℕ) × (k < length list) × (get_or list k B ≡ letter) × (test letter ≡ true)
      × ((j : ℕ) → j < k → test (get_or list j B) ≡ false)

  all_fail : (letter : Letter) (later : List Letter) → test letter ≡ false
      → ((k : ℕ) → k < length later → test (get_or later k B) ≡ false)
      → (k : ℕ) → k < suc (length later) → test (get_or (letter ∷ later) k B) ≡ false
  all_fail letter later failed others zero inside = failed
  all_fail letter later failed others (suc k) inside = others k (le_of_suc-le-suc inside)

  before_fail : (letter : Letter) (later : List Letter) (k : ℕ) → test letter ≡ false
      → ((j : ℕ) → j < k → test (get_or later j B) ≡ false)
      → (j : ℕ) → j < suc k → test (get_or (letter ∷ later) j B) ≡ false
  before_fail letter later k failed others zero less = failed
  before_fail letter later k failed others (suc j) less = others j (le_of_suc-le-suc less)

  one_more : (letter : Letter) (later : List Letter) (passed : Bool) (found : Option Letter) → test letter ≡ passed
      → Tells later found → Tells (letter ∷ later) (cond passed (Some letter) found)
  unfolding Tells
  one_more letter later true found is tells = (0, suc-le-suc zero-le, refl, is, λ j less. absurd (not-suc-le-zero less))
  one_more letter later false None is tells = all_fail letter later is tells
  one_more letter later false (Some other) is (k, inside, at, passes, before) =
      (suc k, suc-le-suc inside, at, passes, before_fail letter later k is before)

  search_tells : (list : List Letter) → Tells list (first test list)
  unfolding Tells
  search_tells [] = λ k inside. absurd (not-suc-le-zero inside)
  search_tells (letter ∷ later) = one_more letter later (test letter) (first test later) refl (search_tells later)

-- letters by rank

at_rank : (letter : Letter) → get_or letters (rank letter - 1) B ≡ letter
at_rank B = refl
at_rank O = refl
at_rank L = refl
at_rank U = refl
at_rank V = refl
at_rank W = refl
at_rank X = refl
at_rank Y = refl
at_rank Z = refl
at_rank H = refl
at_rank I = refl
at_rank K = refl
at_rank M = refl

rank_within : (letter : Letter) → (1 ≤ rank letter) × (rank letter ≤ 13)
rank_within B = (omega arith, omega arith)
rank_within O = (omega arith, omega arith)
rank_within L = (omega arith, omega arith)
rank_within U = (omega arith, omega arith)
rank_within V = (omega arith, omega arith)
rank_within W = (omega arith, omega arith)
rank_within X = (omega arith, omega arith)
rank_within Y = (omega arith, omega arith)
rank_within Z = (omega arith, omega arith)
rank_within H = (omega arith, omega arith)
rank_within I = (omega arith, omega arith)
rank_within K = (omega arith, omega arith)
rank_within M = (omega arith, omega arith)

rank_at : (k : ℕ) → k < 13 → rank (get_or letters k B) ≡ 1 + k
rank_at k inside =
    sym (get_or-map-range_with_len (λ (n : ℕ). rank (get_or letters n B)) 0 13 k k 0 inside (omega arith)) ∙ get_or-range_with_len 1 13 k 0 inside

pub same_rank : (letter other : Letter) → rank letter ≡ rank other → letter ≡ other
same_rank letter other same =
    sym (at_rank letter) ∙ ap (λ (n : ℕ). get_or letters (n - 1) B) same ∙ at_rank other

-- blank figures
blank_to : (figure : Option ℕ) → is_blank figure ≡ true → figure ≡ None
blank_to None test = refl
blank_to (Some value) test = absurd (both_ways false refl test)

module _ (needs : Letter → Bool) (figures : Sheet) where
  abbrev lacks : Letter → Bool
  lacks letter = needs letter && is_blank (figures letter)

  lacks_to : (letter : Letter) → lacks letter ≡ true → Lacks needs figures letter
  lacks_to letter test =
      let (needed, blank) = and_parts _ _ test in (needed, blank_to (figures letter) blank)

  lacks_from : (letter : Letter) → Lacks needs figures letter → lacks letter ≡ true
  lacks_from letter (needed, blank) = and_from _ _ needed (ap is_blank blank)

  not_at : (letter : Letter) → lacks (get_or letters (rank letter - 1) B) ≡ false → Lacks needs figures letter → ⊥
  not_at letter failed lacking =
      both_ways (lacks letter) (ap lacks (sym (at_rank letter)) ∙ failed) (lacks_from letter lacking)

  told : (found : Option Letter) → Tells lacks letters found → FirstLacking needs figures found
  unfolding Tells
  told None tells = λ letter. let (least, most) = rank_within letter in not_at letter (tells (rank letter - 1) (omega arith))
  told (Some letter) (k, inside, at, passes, before) =
      let place : rank letter ≡ 1 + k = ap rank (sym at) ∙ rank_at k inside in (
        lacks_to letter passes,
        λ other less. let (least, most) = rank_within other in not_at other (before (rank other - 1) (omega arith)),
      )

  pub first_lacking : FirstLacking needs figures (lacking needs figures)
  first_lacking = told (lacking needs figures) (search_tells lacks letters)

  only : (one other : Option Letter) → FirstLacking needs figures one → FirstLacking needs figures other → one ≡ other
  only None None f g = refl
  only None (Some letter) f g = absurd (f letter g.0)
  only (Some letter) None f g = absurd (g letter f.0)
  only (Some letter) (Some other) f g =
      elim (cases_order (rank letter) (rank other)) [
        | inl same ↦ ap Some (same_rank letter other same)
        | inr (inl less) ↦ absurd (g.1 letter less f.0)
        | inr (inr more) ↦ absurd (f.1 other more g.0)
      ]

pub the_first_lacking_letter_is_told : TheFirstLackingLetterIsTold
the_first_lacking_letter_is_told = record {
  told = first_lacking;
  only = λ needs figures answer holds. only needs figures answer (lacking needs figures) holds (first_lacking needs figures);
}
