use Rattle.line.proofs.Pieces as pieces
use Rattle.line.proofs.laws.lines_come_in_pieces.Goals as goal

pub returns : goal.returns
returns c = record { front = pieces.front; none_left = pieces.none_left; all_left = pieces.all_left }
