use Rattle.orders.proofs.Follows.{only_own_task_late}
use Rattle.orders.proofs.only_own_task_late.Goals as goal

pub returns : goal.returns
returns g c = only_own_task_late _
