use Rattle.std.proofs.Common.{◌&&◌, ◌∙◌, rules, tests}
use Rattle.std.proofs.lemmas.Iterator.{YieldsList-from_slice}
use Rattle.std.proofs.lemmas.Iterator.Consumers.{YieldsList-from_copied}
use Rattle.std.proofs.lemmas.Iterator.Search.{find_from_yields_List}
use Rattle.rulebook.specs.declared.Letter.{Letter}
use Rattle.rulebook.specs.Sheets.{sheet, is_blank}
use Rattle.books.specs.Rows.{needs}
use Rattle.books.proofs.Firsts.{find_first, found_as_it_is}
use Rattle.books.proofs.rows.Row.first_lacking.Goals as goal

pub returns : goal.returns
returns c =
    let test = λ (letter : Letter). needs c.args.self.now letter && is_blank (sheet c.args.figures.now letter) in
    found_as_it_is c.find.result
    ∙ find_from_yields_List test _ _ c.find.result c.find.ensures.ran
    (YieldsList-from_copied (YieldsList-from_slice c.args.letters.now (cc))) (λ x b q k. search (rules, tests))
    ∙ find_first test c.args.letters.now
