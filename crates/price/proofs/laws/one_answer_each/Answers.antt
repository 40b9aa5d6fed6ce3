use Rattle.price.proofs.Answered.{each_question_has_one_answer}
use Rattle.price.proofs.laws.one_answer_each.Goals as goal

pub returns : goal.returns
returns c = each_question_has_one_answer
