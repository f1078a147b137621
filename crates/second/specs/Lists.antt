-- The tasks of a table, and those of a path.
use Rattle.std.specs.Prelude.{ℕ, List, take}
use Rattle.second.specs.declared.every_order.Path.{Path}
use Rattle.second.specs.declared.table.Row.{Row}
use Rattle.second.specs.declared.table.Rows.{Rows}

abbrev pub held : Rows → List Row
held rows = take rows.count rows.places

abbrev pub levels : Path → List ℕ
levels path = take path.count path.places
