use Rattle.orders.proofs.Follows.{stack_stays_small}
use Rattle.orders.proofs.stack_stays_small.Goals as goal

pub returns : goal.returns
returns g c = stack_stays_small _
