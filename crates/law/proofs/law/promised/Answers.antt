use Rattle.law.proofs.Kept.{every_run_keeps_the_promises}
use Rattle.law.proofs.law.promised.Goals as goal

pub returns : goal.returns
returns g c =
    every_run_keeps_the_promises _ _
    (record { within = g.met.T.ResponseTest.within _; monotone = g.met.T.ResponseTest.monotone _; prices = g.met.C.Cost.lawful _ })
