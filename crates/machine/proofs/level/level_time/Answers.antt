use Rattle.std.proofs.Common.{length, ◌∙◌, arith}
use Rattle.tasks.specs.Timing.{timed}
use Rattle.response.proofs.Demand.{timed_length}
use Rattle.machine.proofs.Places.{position, above_small, above_word}
use Rattle.machine.proofs.Keeps.{level_kept}
use Rattle.machine.proofs.level.level_time.Goals as goal

pub returns-then-position-tasks-clause-answered : goal.returns-then-position-tasks-clause-answered
returns-then-position-tasks-clause-answered g c l few order =
    absurd (omega (arith, position _ c.args.order.now order c.args.level l, c.in_ok-get.ensures.lookup.3.1 0))

pub returns-clause-answered : goal.returns-clause-answered
returns-clause-answered g c l few order =
    let o = c.args.order.now in
    let here = c.from-position.ensures ∙ c.in_ok-get.ensures.lookup.3.1 0 in
    let set = above_word _ o order c.args.level c.set_of.result.word (c.set_of.ensures (above_small _ o order few c.args.level)) in
    cc

pub returns-clause-kept : goal.returns-clause-kept
returns-clause-kept g c few order named held =
    level_kept _ _ (timed c.args.tasks.now) (length c.args.tasks.now) c.args.order.now c.args.level c.respond.result
    (timed_length c.args.tasks.now) order c.in_ok-get.ensures.lookup.3.0
    (returns-clause-answered g c c.in_ok-get.ensures.lookup.3.0 few order) named held
