use Rattle.std.proofs.Common.{vec_items, ap}
use Rattle.law.specs.Meaning.{Lawful, meaning}
use Rattle.plan.specs.Calls.{at}
use Rattle.plan.specs.Model.{means}
use Rattle.plan.proofs.Leads.{ran_new, means_new}
use Rattle.plan.proofs.run.run_new.Goals as goal

pub returns : goal.returns
returns g c =
    let x = c.args.test in
    let y = c.args.cost in
    let p = c.in_ok-plan.plan in
    let made = c.in_ok-plan.ensures in
    let w = meaning g.T.ResponseTest.number (g.T.Admission.admitted x) (g.T.ResponseTest.answer x) g.C.Cost.number (g.C.Cost.prices y) in
    let lawful : Lawful w = record { within = g.met.T.ResponseTest.within x; monotone = g.met.T.ResponseTest.monotone x; prices = g.met.C.Cost.lawful y } in
    ran_new (means g.T.Admission g.T.ResponseTest g.C.Cost p) w c.args.out.now c.args.commands.now (vec_items c.in_ok-answers.answers)
    (at p c.args.out.now) _ lawful
    (means_new g.T.Admission g.T.ResponseTest g.C.Cost p x y made.1 made.2)
    (ap (λ m. record { plan = m; buffer = c.args.out.now }) made.0)
    c.in_ok-answers.ensures.ran
