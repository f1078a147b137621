use Rattle.orders.proofs.Follows.{search_ends}
use Rattle.orders.proofs.search_ends.Goals as goal

pub returns : goal.returns
returns g c = search_ends _
