use Rattle.std.proofs.Common.{◌≡◌, ℕ, ◌+◌, ◌≢◌, List, ◌∷◌, sym, refl, ◌∙◌, arith, eq-eqb, ne_eqb, tests, rules}
use Rattle.std.proofs.lemmas.Iterator.{YieldsList-from_slice, IsFirst-from_position, index_from_first}
use Rattle.line.specs.Lines.{before_first}
use Rattle.line.proofs.cutting.before_first.Goals as goal

-- one byte more in front
module _ (stop byte : ℕ) (bytes : List ℕ) where
  stopped : byte ≡ stop → before_first stop (byte ∷ bytes) ≡ 0
  stopped is = rw (eq-eqb byte stop is)

  passed : byte ≢ stop → before_first stop (byte ∷ bytes) ≡ before_first stop bytes + 1
  passed isnt = rw (ne_eqb byte stop isnt) (omega arith)

pub returns-clause-value : goal.returns-clause-value
returns-clause-value c =
    let stop = c.args.stop in
    let found = IsFirst-from_position _ _ c.position.result (λ b. b ≡ stop) (λ b. b ≢ stop) c.position.ensures.ran (YieldsList-from_slice c.args.bytes.now cc) (λ x q k. search (rules, tests)) (λ x q k. search (rules, tests)) in
    c.unwrap_or.ensures ∙ sym (index_from_first (before_first stop) (λ b. b ≡ stop) (λ b. b ≢ stop) refl (stopped stop) (passed stop) c.args.bytes.now c.position.result found)
