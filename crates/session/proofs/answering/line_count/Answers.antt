use Rattle.std.proofs.Common.{List, ℕ, length, ap, inl, arith}
use Rattle.line.specs.Lines.{lines}
use Rattle.session.proofs.Lines.{lines_short}
use Rattle.session.proofs.answering.line_count.Goals as goal

pub count-requires-clause-fits : goal.count-requires-clause-fits
count-requires-clause-fits c =
    let same = ap (λ (bytes : List ℕ). length (lines bytes)) c.new.ensures in
    inl (omega (arith, same, lines_short c.args.input.now))
