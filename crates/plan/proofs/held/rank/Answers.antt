use Rattle.std.proofs.Common.{ltb, length, ap, ◌∙◌, rules, tests}
use Rattle.std.specs.Option.{unwrap_or}
use Rattle.std.proofs.lemmas.Iterator.{YieldsList-from_slice}
use Rattle.std.proofs.lemmas.Iterator.Search.{position_from_yields_List}
use Rattle.plan.proofs.Places.{rank_at}
use Rattle.plan.proofs.held.rank.Goals as goal

pub returns-clause-value : goal.returns-clause-value
returns-clause-value c =
    let is = position_from_yields_List (λ t. ltb c.args.id t.id) _ _ c.position.result c.position.ensures.ran (YieldsList-from_slice c.args.tasks.now cc)
    (λ x b q k. search (rules, tests)) in
    rank_at c.args.id c.args.tasks.now c.unwrap_or.result (c.unwrap_or.ensures ∙ ap (λ o. unwrap_or o (length c.args.tasks.now)) is)
