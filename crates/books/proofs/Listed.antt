-- The books have their products, and each needs the letters that its rule names.
use Rattle.std.proofs.Common.{◌≡◌, ℕ, ◌<◌, ◌≤◌, Bool, true, false, cond, ◌⊎◌, Some, None, Ok, Err, Option, sym, refl, ap, ◌∙◌, subst, inl, inr, arith}
use Rattle.std.proofs.lemmas.Bool.{and_from, and_left, and_right, le-leb, lt-leb, eqb-true, eq-eqb, or_cases, or_left, or_right, both_ways}
use Rattle.price.specs.Makers.{from_to}
use Rattle.rulebook.specs.declared.Letter.{Letter}
use Rattle.rulebook.specs.declared.Letter.TheVariants.{K}
use Rattle.rulebook.specs.declared.RuleFault.TheVariants.{ProductAbsent}
use Rattle.rulebook.specs.Letters.{rank, same}
use Rattle.rulebook.specs.Meaning.{Product, hours_of_product}
use Rattle.rulebook.proofs.Lackings.{same_rank}
use Rattle.books.specs.Exchange.{MeasuredFrom, trading_on, last_traded, reference, theoretical, Rule, single_issue_rule, flexible_rule}
use Rattle.books.specs.Rows.{centre_letter, is_swing, needs, row_product}
use Rattle.books.specs.Books.{centre_of, written, product_of, product_in, at_settlement, compression}
use Rattle.books.specs.Laws.{starting_letter, Moves, Names, HasItsProducts, HasSettlementProducts, BooksHaveTheirProducts}

same_to : (letter other : Letter) → same letter other ≡ true → letter ≡ other
same_to letter other test = same_rank letter other (eqb-true (rank letter) (rank other) test)

same_from : (letter other : Letter) → letter ≡ other → same letter other ≡ true
same_from letter other is = eq-eqb (rank letter) (rank other) (ap rank is)

same_letter : (from : MeasuredFrom) → starting_letter from ≡ centre_letter (centre_of from)
same_letter (trading_on step) = refl
same_letter last_traded = refl
same_letter reference = refl
same_letter theoretical = refl

moves_to : (letters : Option (Letter × Letter)) (letter : Letter) → is_swing letters letter ≡ true → Moves letters letter
moves_to None letter test = both_ways false refl test
moves_to (Some (one, other)) letter test =
    elim (or_cases _ _ test) [ inl first ↦ inl (same_to letter one first) | inr second ↦ inr (same_to letter other second) ]

moves_from : (letters : Option (Letter × Letter)) (letter : Letter) → Moves letters letter → is_swing letters letter ≡ true
moves_from None letter moves = absurd moves
moves_from (Some (one, other)) letter (inl first) = or_left _ _ (same_from letter one first)
moves_from (Some (one, other)) letter (inr second) = or_right _ _ (same_from letter other second)

names_to : (rule : Rule) (letter : Letter) → needs (written rule) letter ≡ true → Names rule letter
names_to rule letter test =
    elim (or_cases _ _ test) [
      | inl start ↦ inl (same_to letter _ start ∙ sym (same_letter rule.from))
      | inr others ↦
          elim (or_cases _ _ others) [
            | inl shared ↦ inr (inl (same_to letter rule.share_of shared))
            | inr moved ↦ inr (inr (moves_to rule.moved letter moved))
          ]
    ]

names_from : (rule : Rule) (letter : Letter) → Names rule letter → needs (written rule) letter ≡ true
names_from rule letter (inl start) = or_left _ _ (same_from letter _ (start ∙ same_letter rule.from))
names_from rule letter (inr (inl shared)) =
    or_right (same letter (centre_letter (centre_of rule.from))) _ (or_left _ _ (same_from letter rule.share_of shared))
names_from rule letter (inr (inr moved)) =
    or_right (same letter (centre_letter (centre_of rule.from))) _
    (or_right (same letter rule.share_of) _ (moves_from rule.moved letter moved))

module _ (last : ℕ) (rule : ℕ → Rule) where
  listed : (number : ℕ) (known : Bool) (product : Product)
      → product_of (cond known (Ok (written (rule number))) (Err ProductAbsent)) ≡ Some product
      → row_product (written (rule number)) ≡ product
  listed number true product found = cc
  listed number false product found = let z : ◌≡◌ {A = ℕ} 0 1 = cc in absurd (omega arith)

  within : (number : ℕ) → 1 ≤ number → number ≤ last → from_to 1 last number ≡ true
  within number least most = and_from _ _ (le-leb 1 number least) (le-leb number last most)

  beyond : (number : ℕ) → (number ≡ 0) ⊎ (last < number) → from_to 1 last number ≡ false
  beyond number (inl zero) = and_left _ _ (lt-leb 1 number (omega arith))
  beyond number (inr more) = and_right _ _ (lt-leb number last more)

  pub has_its_products : (binds : Bool) → HasItsProducts last rule (record { halt_binds = binds; product = product_in last rule })
  has_its_products binds = record {
    present = λ number least most.
        ap (λ (known : Bool). hours_of_product (product_of (cond known (Ok (written (rule number))) (Err ProductAbsent)))) (within number least most);
    absent = λ number out.
        ap (λ (known : Bool). product_of (cond known (Ok (written (rule number))) (Err ProductAbsent))) (beyond number out);
    needed = λ number product letter found names.
        subst (λ (p : Product). p.needs letter ≡ true) (listed number (from_to 1 last number) product found) (names_from (rule number) letter names);
    no_other = λ number product letter found need.
        names_to (rule number) letter (subst (λ (p : Product). p.needs letter ≡ true) (sym (listed number (from_to 1 last number) product found)) need);
  }

settles : (known : Bool) (product : Product) → cond known (Some at_settlement) None ≡ Some product → at_settlement ≡ product
settles true product found = cc
settles false product found = let z : ◌≡◌ {A = ℕ} 0 1 = cc in absurd (omega arith)

has_settlement_products : HasSettlementProducts 2 compression
has_settlement_products = record {
  present = λ number least most.
      ap (λ (known : Bool). hours_of_product (cond known (Some at_settlement) None)) (within 2 flexible_rule number least most);
  absent = λ number out.
      ap (λ (known : Bool). cond known (Some at_settlement) None) (beyond 2 flexible_rule number out);
  needed = λ number product found.
      subst (λ (p : Product). p.needs K ≡ true) (settles (from_to 1 2 number) product found) refl;
  no_other = λ number product letter found need.
      same_to letter K (subst (λ (p : Product). p.needs letter ≡ true) (sym (settles (from_to 1 2 number) product found)) need);
}

pub books_have_their_products : BooksHaveTheirProducts
books_have_their_products = record {
  single_issue_trading = has_its_products 22 single_issue_rule true;
  flexible_trading = has_its_products 4 flexible_rule true;
  compression_trading = has_settlement_products;
}
