use Rattle.machine.proofs.Outrun.{premises_needed}
use Rattle.machine.proofs.premises_are_needed.Goals as goal

pub returns : goal.returns
returns c = premises_needed
