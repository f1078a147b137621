-- Packed tables and lists of tasks pair off, one to one.
use Rattle.std.specs.Prelude.{◌≡◌, ℕ, ◌+◌, ◌<◌, ◌≤◌, Bool, true, List, [], ◌∷◌, length, Ok}
use Rattle.std.specs.Int.Digits.{AllBelowBase}
use Rattle.std.specs.List.{AllByRecursion}
use Rattle.tasks.specs.declared.task.Candidate.{Candidate}
use Rattle.tasks.specs.declared.task.Task.{Task}
use Rattle.tasks.specs.declared.task.Timing.{Timing}
use Rattle.tables.specs.Tables.{decoded, encoded}
use Rattle.tasks.specs.Tasks.{ranged, timing_of, plain}

-- the rules of a task
abbrev pub Sound : Candidate → Type 0
Sound c = (ranged c ≡ true) × (c.execution ≤ c.deadline) × (c.execution ≤ c.period) × (c.section < c.execution)

-- the ids ascend, from `floor` on
abbrev pub AscendFrom : ℕ → List Candidate → Type 0
AscendFrom floor [] = Unit {0}
AscendFrom floor (c ∷ cs) = (floor ≤ c.id) × AscendFrom (c.id + 1) cs

-- the tasks that a plan can hold: sound and admitted, with ascending ids, and at most sixteen
pub record Held (admitted : Timing → Bool) (cs : List Candidate) : Type 0 where
  pub sound : AllByRecursion Sound cs
  pub admits : AllByRecursion (λ c. admitted (timing_of c) ≡ true) cs
  pub ascend : AscendFrom 0 cs
  pub few : length cs ≤ 16

-- the table of these tasks decodes to them, under each test that admits them
abbrev pub Back : ℕ → ℕ → List Candidate → Type 0
Back test cost cs =
    (admitted : Timing → Bool) → AllByRecursion (λ c. admitted (timing_of c) ≡ true) cs → AscendFrom 0 cs
    → decoded admitted test cost (encoded test cost cs) ≡ Ok cs

-- a table that decodes gives tasks that can be held and whose encoding it is, and tasks that can be held encode into a
-- table that decodes to them: so each table has one list, each list one table, and no other
pub record Pairs (admitted : Timing → Bool) (test cost : ℕ) : Type 0 where
  pub table : (file : List ℕ) (cs : List Candidate) → AllBelowBase 256 file → decoded admitted test cost file ≡ Ok cs
      → Held admitted cs × (encoded test cost cs ≡ file)
  pub list : (cs : List Candidate) → Held admitted cs → decoded admitted test cost (encoded test cost cs) ≡ Ok cs
  pub numbers : (t u : Task) → plain t ≡ plain u → t ≡ u
