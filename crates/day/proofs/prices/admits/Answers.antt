use Rattle.std.proofs.Common.{rules}
use Rattle.day.proofs.Admitting.{found_nearest}
use Rattle.day.proofs.prices.admits.Goals as goal

pub returns : goal.returns
returns g c =
    let near = found_nearest _ _ _ _ (g.met.G.Grid.within c.args.grid.now) c.nearest.ensures in
    let h = c.is_some_and.ensures in
    search rules
