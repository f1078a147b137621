use Rattle.std.proofs.Common.{length, get_or, ◌∙◌}
use Rattle.tasks.specs.Lists.{plains}
use Rattle.search.specs.Ranks.{ranks}
use Rattle.search.proofs.Joins.{total_is}
use Rattle.search.proofs.Rankings.{best_is_order}
use Rattle.search.proofs.search.Search.best_cost.Goals as goal

pub returns : goal.returns
returns g c =
    let s = c.args.self.now in
    let l = c.args.tasks.now in
    c.total_cost.ensures.value
    ∙ total_is (g.C.Cost.prices c.args.cost.now) (g.met.C.Cost.lawful c.args.cost.now) (plains l)
    (λ i. get_or s.best.times i 0) (ranks s.best) (best_is_order s (length (plains l)) c.requires)
