use Rattle.std.proofs.Common.{◌-◌, ◌<◌, ◌≤◌, length, rules}
use Rattle.rulebook.specs.Letters.{rank, most}
use Rattle.rulebook.proofs.Sheet.{sheet_written, fits_written, most_at}
use Rattle.rulebook.proofs.figures.Figures.post.Goals as goal

pub invariant_of-self : goal.invariant_of-self
invariant_of-self c =
    let inside : rank c.args.letter - 1 < length c.args.self.now.values = search rules in
    let small : c.args.value ≤ most c.args.letter = search rules in
    record {
      within = λ place. simp (c.rank-place.ensures, c.figure.ensures)
          (fits_written c.args.self.now.values (rank c.args.letter - 1) c.args.value place inside (most_at _ _ small) c.args.self.now.within);
    }

pub returns-clause-after : goal.returns-clause-after
returns-clause-after c =
    let inside : rank c.args.letter - 1 < length c.args.self.now.values = search rules in
    let small : c.args.value ≤ most c.args.letter = search rules in
    sheet_written c.args.self.now.values c.args.letter c.args.value _ _ c.rank-place.ensures c.figure.ensures inside small
