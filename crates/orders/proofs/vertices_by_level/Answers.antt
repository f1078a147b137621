use Rattle.orders.proofs.Tree.{vertices_by_level}
use Rattle.orders.proofs.vertices_by_level.Goals as goal

pub returns : goal.returns
returns c = vertices_by_level
