-- Worked examples of the packed table and of the rules of a task.
use Rattle.std.specs.Prelude.{◌≡◌, ℕ, [], ◌∷◌, Some, None}
use Rattle.tasks.specs.declared.fault.TaskFault.TheVariants.{Deadline, Section}
use Rattle.tasks.specs.declared.task.Candidate.{Candidate}
use Rattle.tables.specs.Bits.{bytes_of, packed}
use Rattle.tables.specs.Tables.{header_fields, record_bytes}
use Rattle.tasks.specs.Tasks.{task_fault}

-- the task of id 1, with these times and section
abbrev pub one : ℕ → ℕ → ℕ → Candidate
one section execution time = record { id = 1; tier = 0; weight = 1; section = section; execution = execution; deadline = time; period = time }

pub record Examples : Type 0 where
  pub header : bytes_of 2 (packed 0 (header_fields 0 0 3)) ≡ 0x10 ∷ 0x03 ∷ []
  pub first : record_bytes (one 0 1 4) ≡ 0x04 ∷ 0x00 ∷ 0x01 ∷ 0x00 ∷ 0x00 ∷ 0x00 ∷ 0x01 ∷ 0x00 ∷ 0x00 ∷ 0x40 ∷ 0x00 ∷ 0x04 ∷ []
  pub whole : task_fault 1 (one 0 4 4) ≡ None
  pub late : task_fault 1 (one 0 5 4) ≡ Some (Deadline 1)
  pub still : task_fault 1 (one 1 1 4) ≡ Some (Section 1)
