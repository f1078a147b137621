use Rattle.orders.proofs.Firsts.{first_order_is_exact}
use Rattle.orders.proofs.first_order_is_exact.Goals as goal

pub returns : goal.returns
returns g c = first_order_is_exact _
