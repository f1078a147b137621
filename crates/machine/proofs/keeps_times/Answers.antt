use Rattle.machine.proofs.Keeps.{named_kept}
use Rattle.machine.proofs.keeps_times.Goals as goal

pub returns : goal.returns
returns g c named = named_kept _ _ named
