-- The rows of a table at an index, and that the numbers of every row are small: one test, computed over a whole table.
use Rattle.std.specs.Prelude.{◌≡◌, ℕ, ◌+◌, ◌<◌, Bool, true, false, ◌&&◌, List, map, get_or, nat_le, slice_index_or}
use Rattle.std.proofs.Common.{sym, ap, ◌∙◌, arith}
use Rattle.std.proofs.lemmas.List.{get_or-replicate}
use Rattle.std.specs.List.{range_with_len}
use Rattle.std.proofs.lemmas.List.FromFn.{get_or-map-range_with_len}
use Rattle.std.proofs.lemmas.Bool.{and_parts, leb-true}
use Rattle.books.specs.declared.rows.Row.{Row}
use Rattle.books.specs.Exchange.{Rule, single_issue_rule, flexible_rule}
use Rattle.books.specs.Books.{written}
use Rattle.books.specs.Rows.{Small, weight_stands, step_stands}

-- the row at an index of a table
pub row_at : (rules : ℕ → Rule) (last index : ℕ) (rows : List Row) (blank : Row) → index < last
    → rows ≡ map (λ product. written (rules product)) (range_with_len 1 last) → slice_index_or rows index blank ≡ written (rules (index + 1))
row_at rules last index rows blank inside table =
    ap (λ (list : List Row). get_or list index blank) table
    ∙ get_or-map-range_with_len (λ (product : ℕ). written (rules product)) 1 last index (index + 1) blank inside (omega arith)

is_small : Row → Bool
is_small row =
    nat_le 1 row.unit && (nat_le row.unit 10_000
    && (weight_stands row.centre row.swing row.weight && step_stands row.centre row.auction_step))

small : (row : Row) → is_small row ≡ true → Small row
unfolding is_small
small row test =
    let (one, others) = and_parts _ _ test in
    let (most, numbers) = and_parts _ _ others in
    let (weight, step) = and_parts _ _ numbers in
    record { one_unit = leb-true _ _ one; unit_fits = leb-true _ _ most; weight_fits = weight; step_fits = step }

pub single_issue_small : (index : ℕ) → index < 22 → Small (written (single_issue_rule (index + 1)))
unfolding single_issue_rule is_small
single_issue_small index inside =
    small (written (single_issue_rule (index + 1)))
    (sym (get_or-map-range_with_len (λ (p : ℕ). is_small (written (single_issue_rule p))) 1 22 index (index + 1) false inside (omega arith))
    ∙ get_or-replicate 22 index true false inside)

pub flexible_small : (index : ℕ) → index < 4 → Small (written (flexible_rule (index + 1)))
unfolding flexible_rule is_small
flexible_small index inside =
    small (written (flexible_rule (index + 1)))
    (sym (get_or-map-range_with_len (λ (p : ℕ). is_small (written (flexible_rule p))) 1 4 index (index + 1) false inside (omega arith))
    ∙ get_or-replicate 4 index true false inside)
