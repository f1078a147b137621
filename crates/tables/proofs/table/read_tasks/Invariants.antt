use Rattle.std.proofs.Common.{◌≡◌, ◌+◌, ◌++◌, map, length, drop}
use Rattle.tasks.specs.Lists.{items, plains}
use Rattle.tables.specs.Tables.{records_fault, candidate}
use Rattle.tables.proofs.table.read_tasks.Given as goal

-- what is left decides the fault and gives the rest of the rows
abbrev pub invariant-loop-n : goal.invariant-loop-n
invariant-loop-n g l =
    (l.n-iterator.a.start ≡ length l.yielded + 1)
    × (l.n-iterator.a.end ≡ 17)
    × (l.n-iterator.b.rest.now ≡ drop (length l.yielded) l.records)
    × (length (items l.tasks) ≡ length l.yielded)
    × (records_fault (g.T.Admission.admitted l.test) (length l.yielded + 1) l.floor (drop (length l.yielded) l.records)
    ≡ records_fault (g.T.Admission.admitted l.test) 1 0 l.records)
    × (plains l.tasks ++ map candidate (drop (length l.yielded) l.records) ≡ map candidate l.records)
