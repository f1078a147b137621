use Rattle.std.proofs.Common.{eqb, rules, tests}
use Rattle.std.proofs.lemmas.Iterator.{YieldsList-from_slice}
use Rattle.std.proofs.lemmas.Iterator.Search.{position_from_yields_List}
use Rattle.plan.proofs.Places.{found_at}
use Rattle.plan.proofs.held.find.Goals as goal

pub returns : goal.returns
returns c =
    found_at c.args.id c.args.tasks.now c.position.result
    (position_from_yields_List (λ t. eqb t.id c.args.id) _ _ c.position.result c.position.ensures.ran (YieldsList-from_slice c.args.tasks.now cc)
    (λ x b q k. search (rules, tests)))
