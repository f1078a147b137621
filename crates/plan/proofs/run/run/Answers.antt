use Rattle.std.proofs.Common.{vec_items, ◌∙◌, arith}
use Rattle.law.specs.Meaning.{Lawful}
use Rattle.plan.specs.Calls.{at}
use Rattle.plan.specs.Model.{means}
use Rattle.plan.proofs.Leads.{run_more, run_all, led_on, means_same}
use Rattle.plan.proofs.run.run.Goals as goal

pub loop-command-preserved : goal.loop-command-preserved
loop-command-preserved g c =
    let p = c.args.plan.now in
    let w = means g.T.Admission g.T.ResponseTest g.C.Cost p in
    let inv = c.loop-command.invariant in
    let done = c.apply.ensures.obeyed in
    let same = means_same g.T.Admission g.T.ResponseTest g.C.Cost p c.loop-command.plan inv.4 inv.5 in
    let more = run_more w (at p c.args.out.now) c.args.commands.now c.loop-command.command-index _
    (vec_items c.loop-command.answers) (means g.T.Admission g.T.ResponseTest g.C.Cost c.loop-command.plan)
    c.loop-command.plan c.apply.new.self c.loop-command.out c.apply.new.out c.apply.result
    c.loop-command-test.true inv.2 inv.3 same done in
    (omega arith, omega arith, rw c.push_reserved.ensures.items more.0, more.1, done.test ∙ inv.4, done.cost ∙ inv.5)

pub returns-clause-led : goal.returns-clause-led
returns-clause-led g c =
    let p = c.args.plan.now in
    let w = means g.T.Admission g.T.ResponseTest g.C.Cost p in
    let start = at p c.args.out.now in
    let lawful : Lawful w = record { within = g.met.T.ResponseTest.within p.test; monotone = g.met.T.ResponseTest.monotone p.test; prices = g.met.C.Cost.lawful p.cost } in
    let inv = c.loop-command.invariant in
    let all = run_all w start c.args.commands.now c.loop-command.command-index (vec_items c.loop-command.answers) (at c.loop-command.plan c.loop-command.out)
    c.loop-command-test.false inv.2 inv.3 in
    led_on w lawful c.args.commands.now start (at c.loop-command.plan c.loop-command.out) all.reached
