-- The rows of a table by the numbers of their products.
use Rattle.std.proofs.Common.{◌≡◌, ℕ, ◌+◌, ◌-◌, ◌<◌, ◌≤◌, false, List, length, map, Ok, Err, sym, ap, ◌∙◌, subst, arith, slice_index_or}
use Rattle.std.specs.List.{range_with_len}
use Rattle.std.proofs.lemmas.Bool.{cond-true, cond-false, and_from, le-leb}
use Rattle.std.proofs.lemmas.List.FromFn.{length-map-range_with_len}
use Rattle.price.specs.Makers.{from_to}
use Rattle.rulebook.specs.declared.RuleFault.TheVariants.{ProductAbsent}
use Rattle.books.specs.declared.rows.Row.{Row}
use Rattle.books.specs.Books.{written, row_in}
use Rattle.books.specs.Bounds.{row_at}
use Rattle.books.specs.Exchange.{Rule}
use Rattle.books.specs.Rows.{Small}

module _ (rule : ℕ → Rule) (last : ℕ) (rows : List Row) (table : rows ≡ map (λ product. written (rule product)) (range_with_len 1 last)) where
  rows_in_all : length rows ≡ last
  rows_in_all = ap length table ∙ length-map-range_with_len (λ (product : ℕ). written (rule product)) 1 last

  pub row_of_listed : (number : ℕ) (blank : Row) → 1 ≤ number → number ≤ length rows
      → Ok (slice_index_or rows (number - 1) blank) ≡ row_in last rule number
  row_of_listed number blank least most =
      let all = rows_in_all in
      let same : number - 1 + 1 ≡ number = omega arith in
      ap Ok (row_at rule last (number - 1) rows blank (omega arith) table ∙ ap (λ (k : ℕ). written (rule k)) same)
      ∙ sym (cond-true (from_to 1 last number) (Ok (written (rule number))) (Err ProductAbsent)
      (and_from _ _ (le-leb 1 number least) (le-leb number last (omega arith))))

  pub row_of_absent : (number : ℕ) → from_to 1 (length rows) number ≡ false → Err ProductAbsent ≡ row_in last rule number
  row_of_absent number out =
      sym (cond-false (from_to 1 last number) (Ok (written (rule number))) (Err ProductAbsent)
      (ap (λ (top : ℕ). from_to 1 top number) (sym rows_in_all) ∙ out))

  pub small_row : (number : ℕ) (blank : Row) → ((index : ℕ) → index < last → Small (written (rule (index + 1))))
      → 1 ≤ number → number ≤ length rows → Small (slice_index_or rows (number - 1) blank)
  small_row number blank small least most =
      let all = rows_in_all in
      let inside : number - 1 < last = omega arith in
      subst Small (sym (row_at rule last (number - 1) rows blank inside table)) (small (number - 1) inside)
