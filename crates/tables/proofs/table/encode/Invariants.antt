use Rattle.std.proofs.Common.{◌≡◌, ◌+◌, ◌*◌, ◌++◌, map, take, drop}
use Rattle.std.specs.List.{flat_map}
use Rattle.tables.specs.Tables.{record_bytes}
use Rattle.tasks.specs.Tasks.{plain}
use Rattle.tables.proofs.table.encode.Given as goal

-- behind the header stand the records of the tasks so far, and nothing changes past the table
abbrev pub invariant-loop-k : goal.invariant-loop-k
invariant-loop-k l =
    (take (2 + 12 * l.k) l.out ≡ take 2 l.initial.out ++ flat_map record_bytes (map plain (take l.k l.tasks)))
    × (drop l.size l.out ≡ drop l.size l.initial.out)
