use Rattle.books.proofs.Exact.{books_admit_what_the_rules_admit}
use Rattle.books.proofs.laws.books_follow_the_rules.Goals as goal

pub returns : goal.returns
returns c = books_admit_what_the_rules_admit
