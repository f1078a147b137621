use Rattle.machine.proofs.Runs.{worked}
use Rattle.machine.proofs.worked_runs.Goals as goal

pub returns : goal.returns
returns c = worked
