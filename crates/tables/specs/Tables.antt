-- The packed table: two header bytes, then twelve bytes for each task.
use Rattle.std.specs.Prelude.{◌≡◌, ℕ, ◌+◌, ◌-◌, ◌*◌, ◌<◌, ◌≤◌, Bool, cond, ◌&&◌, List, [], ◌∷◌, ◌++◌, map, length, take, drop, Some, None, Ok, Err, Option, Result, ◌==◌, nat_le, nat_lt}
use Rattle.std.specs.Borrow.{Bor}
use Rattle.std.specs.Option.{option_map}
use Rattle.std.specs.List.{flat_map}
use Rattle.std.specs.Simd.{first_chunks}
use Rattle.tasks.specs.declared.fault.Fault.{Fault}
use Rattle.tasks.specs.declared.fault.Fault.TheVariants.{File, Task, Plan}
use Rattle.tasks.specs.declared.fault.FileFault.{FileFault}
use Rattle.tasks.specs.declared.fault.FileFault.TheVariants.{Length, Format, Spare, Code, NoRecord}
use Rattle.tasks.specs.declared.fault.TaskFault.TheVariants.{NotAdmitted}
use Rattle.tasks.specs.declared.fault.PlanFault.TheVariants.{Order, Full}
use Rattle.tasks.specs.declared.list.Codes.{Codes}
use Rattle.tasks.specs.declared.task.Candidate.{Candidate}
use Rattle.tasks.specs.declared.task.Timing.{Timing}
use Rattle.tasks.specs.declared.task.Task as task
use Rattle.tables.specs.declared.header.Header.{Header}
use Rattle.tables.specs.Bits.{field, packed, bytes_of}
use Rattle.tasks.specs.Faults.{unless, first, outcome}
use Rattle.tasks.specs.Tasks.{task_fault, timing_of, plain}

-- the numbers in the twelve bytes of a record; bit 7 is spare
abbrev pub candidate : List ℕ → Candidate
candidate bytes = record { id = field bytes 0 6; tier = field bytes 6 1; weight = field bytes 8 16; section = field bytes 24 12; execution = field bytes 36 20; deadline = field bytes 56 20; period = field bytes 76 20 }

-- the first rule that the record n breaks by itself
abbrev pub record_fault : (Timing → Bool) → ℕ → List ℕ → Option Fault
record_fault admitted n bytes =
    unless (field bytes 7 1 == 0) (File (Spare n))
    (first (option_map Task (task_fault n (candidate bytes)))
    (unless (admitted (timing_of (candidate bytes))) (Task (NotAdmitted n)) None))

-- a record gives the task of its numbers, or the first rule that it breaks
abbrev pub ReadAs : (Timing → Bool) → ℕ → List ℕ → Result task.Task Fault → Type 0
ReadAs admitted n bytes (Ok t) = (record_fault admitted n bytes ≡ None) × (plain t ≡ candidate bytes)
ReadAs admitted n bytes (Err e) = record_fault admitted n bytes ≡ Some e

-- the first rule that the records break, from the record n on, whose id is to be at least `floor`
abbrev pub records_fault : (Timing → Bool) → ℕ → ℕ → List (List ℕ) → Option Fault
records_fault admitted n floor [] = None
records_fault admitted n floor (bytes ∷ rest) =
    first (record_fault admitted n bytes)
    (unless (nat_le floor (candidate bytes).id) (Plan (Order n))
    (records_fault admitted (n + 1) ((candidate bytes).id + 1) rest))

-- the first n runs of twelve bytes
abbrev pub chunks : ℕ → List ℕ → List (List ℕ)
chunks n bytes = first_chunks 12 n bytes

-- the numbers in the two header bytes
abbrev pub header_in : List ℕ → Header
header_in bytes = record { format = field bytes 0 4; test = field bytes 4 2; cost = field bytes 6 2; spare = field bytes 8 3; count = field bytes 11 5 }

abbrev pub header : List ℕ → Header
header file = header_in (take 2 file)

-- a file is split into its header and the rest, or is too short to have a header
abbrev pub Split : List ℕ → Result (Header × Bor (List ℕ)) FileFault → Type 0
Split file (Ok (h, rest)) = (2 ≤ length file) × (h ≡ header file) × (rest.now ≡ drop 2 file)
Split file (Err e) = (length file < 2) × (e ≡ Length)

abbrev pub count_of : List ℕ → ℕ
count_of file = (header file).count

abbrev pub records_of : List ℕ → List (List ℕ)
records_of file = chunks (count_of file) (drop 2 file)

abbrev pub code_pair : Codes → ℕ × ℕ
code_pair c = (c.test, c.cost)

-- the codes of the test and of the cost that a file names, where it has a header
abbrev pub codes_in : List ℕ → Option (ℕ × ℕ)
codes_in file = cond (nat_lt (length file) 2) None (Some ((header file).test, (header file).cost))

-- the first rule that a header breaks by itself, for a plan with these codes
abbrev pub header_fault : ℕ → ℕ → Header → Option Fault
header_fault test cost h =
    unless (h.format == 1) (File Format)
    (unless (h.spare == 0) (File (Spare 0))
    (unless (h.test == test && h.cost == cost) (File Code)
    (unless (nat_le h.count 16) (Plan Full) None)))

-- the first rule that a table breaks, for a plan with these codes
abbrev pub table_fault : (Timing → Bool) → ℕ → ℕ → List ℕ → Option Fault
table_fault admitted test cost file =
    unless (nat_le 2 (length file)) (File Length)
    (first (header_fault test cost (header file))
    (unless (length file == 2 + 12 * count_of file) (File Length)
    (records_fault admitted 1 0 (records_of file))))

-- the numbers of some records, or the first rule that they break
abbrev pub rows : (Timing → Bool) → List (List ℕ) → Result (List Candidate) Fault
rows admitted records = outcome (records_fault admitted 1 0 records) (map candidate records)

-- what a table decodes to
abbrev pub decoded : (Timing → Bool) → ℕ → ℕ → List ℕ → Result (List Candidate) Fault
decoded admitted test cost file =
    outcome (table_fault admitted test cost file) (map candidate (records_of file))

-- the fields of a record and of the header, each with its width
abbrev pub record_fields : Candidate → List (ℕ × ℕ)
record_fields c =
    (6, c.id) ∷ (1, c.tier) ∷ (1, 0) ∷ (16, c.weight) ∷ (12, c.section)
    ∷ (20, c.execution) ∷ (20, c.deadline) ∷ (20, c.period) ∷ []

abbrev pub header_fields : ℕ → ℕ → ℕ → List (ℕ × ℕ)
header_fields test cost count = (4, 1) ∷ (2, test) ∷ (2, cost) ∷ (3, 0) ∷ (5, count) ∷ []

abbrev pub record_bytes : Candidate → List ℕ
record_bytes c = bytes_of 12 (packed 0 (record_fields c))

-- the table of some tasks
abbrev pub encoded : ℕ → ℕ → List Candidate → List ℕ
encoded test cost cs = bytes_of 2 (packed 0 (header_fields test cost (length cs))) ++ flat_map record_bytes cs

-- the bytes of the record n, counted from 1, and where they stand in the file
abbrev pub record_at : List ℕ → ℕ → Result (List ℕ) Fault
record_at file n =
    outcome
    (unless (nat_le 2 (length file) && length file == 2 + 12 * count_of file) (File Length)
    (unless (nat_le 1 n && nat_le n (count_of file)) (File NoRecord) None))
    (take 12 (drop (2 + 12 * (n - 1)) file))
