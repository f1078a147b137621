use Rattle.std.proofs.Common.{[], ◌∷◌, ap}
use Rattle.law.specs.Meaning.{Lawful}
use Rattle.plan.specs.Calls.{at}
use Rattle.plan.specs.Model.{means}
use Rattle.plan.proofs.Leads.{led_on}
use Rattle.plan.proofs.plan.Plan.apply.Goals as goal

pub returns-clause-led : goal.returns-clause-led
returns-clause-led g c =
    let p = c.args.self.now in
    let w = means g.T.Admission g.T.ResponseTest g.C.Cost p in
    let lawful : Lawful w = record { within = g.met.T.ResponseTest.within p.test; monotone = g.met.T.ResponseTest.monotone p.test; prices = g.met.C.Cost.lawful p.cost } in
    led_on w lawful (c.args.command ∷ []) (at p c.args.out.now) (at c.act.new.self c.act.new.out) (ap (λ r. r.next) c.act.ensures.reply)
