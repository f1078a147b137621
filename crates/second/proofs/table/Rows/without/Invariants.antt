use Rattle.std.proofs.Common.{◌≡◌, not, eqb, take}
use Rattle.std.specs.List.{filter}
use Rattle.second.specs.declared.table.Row.{Row}
use Rattle.second.specs.Lists.{held}
use Rattle.second.proofs.table.Rows.without.Given as goal

abbrev pub invariant-loop-row : goal.invariant-loop-row
invariant-loop-row l = held l.rows ≡ filter (λ (row : Row). not (eqb row.id l.id)) (take l.row-index l.row-items)
