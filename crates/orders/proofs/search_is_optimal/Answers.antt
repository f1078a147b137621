use Rattle.orders.proofs.Follows.{search_is_optimal}
use Rattle.orders.proofs.search_is_optimal.Goals as goal

pub returns : goal.returns
returns g c = search_is_optimal _
