-- Ids among the held tasks.
use Rattle.std.specs.Prelude.{◌≡◌, ℕ, suc, ◌^◌, ◌<◌, Bool, true, false, cond, not, ◌||◌, List, [], ◌∷◌, length, Some, None, Option, ◌==◌, nat_lt, slice_index_or}
use Rattle.std.specs.List.{list_all, range_with_len}
use Rattle.tasks.specs.Numbers.{sum_below}
use Rattle.tasks.specs.Sets.{holds}
use Rattle.tasks.specs.declared.task.Candidate.{Candidate}
use Rattle.costs.specs.Folds.{no_task}
use Rattle.law.specs.Held.{has}

-- the position of the task of that id; where none has it, the number of tasks
abbrev pub place : ℕ → List Candidate → ℕ
place id [] = 0
place id (t ∷ ts) = cond (t.id == id) 0 (suc (place id ts))

-- what looking an id up answers
abbrev pub Found : ℕ → List Candidate → Option ℕ → Type 0
Found id tasks None = has id tasks ≡ false
Found id tasks (Some i) = (has id tasks ≡ true) × (i ≡ place id tasks) × (i < length tasks)

-- how many tasks stand before a new one of that id
abbrev pub rank : ℕ → List Candidate → ℕ
rank id [] = 0
rank id (t ∷ ts) = cond (nat_lt id t.id) 0 (suc (rank id ts))

-- an id that is in a set, which is the word of its ids, is held
abbrev pub held_if_in : ℕ → List Candidate → ℕ → Bool
held_if_in ids tasks id = not (holds ids id) || has id tasks

-- every id in a set is held
abbrev pub all_held : ℕ → List Candidate → Bool
all_held ids tasks = list_all (held_if_in ids tasks) (range_with_len 0 64)

-- the bit of a position whose task has its id in a set, else 0
abbrev pub bit_if_in : ℕ → List Candidate → ℕ → ℕ
bit_if_in ids tasks i = cond (holds ids (slice_index_or tasks i no_task).id) (2 ^ i) 0

-- the word of the positions of the tasks whose ids are in a set
abbrev pub positions : ℕ → List Candidate → ℕ
positions ids tasks = sum_below (length tasks) (bit_if_in ids tasks)
