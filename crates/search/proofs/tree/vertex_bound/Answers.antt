use Rattle.std.proofs.Common.{◌<◌, length, arith, rules}
use Rattle.tasks.specs.Lists.{items}
use Rattle.costs.proofs.Folds.{count_plain}
use Rattle.search.proofs.Tables.{tabulated}
use Rattle.search.proofs.tree.vertex_bound.Goals as goal

pub returns : goal.returns
returns c =
    let held = c.as_slice-held in
    let low : length held.result.now < 17 = omega (arith, held.ensures.few) in
    let size = count_plain (items c.args.tasks.now) held.result.now held.ensures.items in
    search (rules, tabulated)
