use Rattle.std.proofs.Common.{rules}
use Rattle.books.proofs.TableRows.{row_of_listed, row_of_absent, small_row}
use Rattle.books.proofs.tables.row_of.Goals as goal

pub returns-then-not-contains-clause-value : goal.returns-then-not-contains-clause-value
returns-then-not-contains-clause-value g c =
    row_of_absent g.T.Table.rule g.T.Table.last c.rows-rows.result.now c.rows-rows.ensures c.args.product (search rules)

pub returns-clause-value : goal.returns-clause-value
returns-clause-value g c =
    row_of_listed g.T.Table.rule g.T.Table.last c.rows-rows.result.now c.rows-rows.ensures c.args.product _ (search rules) (search rules)

pub returns-clause-small : goal.returns-clause-small
returns-clause-small g c =
    small_row g.T.Table.rule g.T.Table.last c.rows-rows.result.now c.rows-rows.ensures c.args.product _ g.met.T.Table.all_small
    (search rules) (search rules)
