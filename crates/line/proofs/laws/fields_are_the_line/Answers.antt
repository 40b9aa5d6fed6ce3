use Rattle.line.proofs.Joining as joining
use Rattle.line.proofs.laws.fields_are_the_line.Goals as goal

pub returns : goal.returns
returns c =
    record {
      joined = joining.joined;
      no_blank = joining.no_blank;
      some = joining.some;
      first_position = joining.first_position;
      next_position = joining.next_position;
      stands = joining.stands;
    }
