use Rattle.law.proofs.Kept.{every_run_keeps_the_promises}
use Rattle.law.proofs.law.every_run_keeps_the_promises.Goals as goal

pub returns : goal.returns
returns g c = every_run_keeps_the_promises _
