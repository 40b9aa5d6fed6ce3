use Rattle.std.proofs.Common.{arith}
use Rattle.std.proofs.lemmas.Grind.{common_steps}
use Rattle.std.proofs.iter.runs.Made.{chains}
use Rattle.line.proofs.Splitting.{length-fields}
use Rattle.line.proofs.fields.field_count.Goals as goal

pub returns : goal.returns
returns c = grind (arith, common_steps, chains, length-fields)
