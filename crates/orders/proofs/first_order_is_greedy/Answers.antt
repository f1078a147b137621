use Rattle.orders.proofs.Greedy.{first_order_is_greedy}
use Rattle.orders.proofs.first_order_is_greedy.Goals as goal

pub returns : goal.returns
returns g c = first_order_is_greedy _
