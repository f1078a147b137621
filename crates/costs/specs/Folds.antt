-- The joined cost of the held tasks, by position.
use Rattle.std.specs.Prelude.{◌≡◌, ℕ, zero, suc, ◌<◌, ◌≤◌, true, List, length, Some, None, Option, slice_index_or}
use Rattle.tasks.specs.declared.task.Candidate.{Candidate}
use Rattle.costs.specs.Prices.{Prices}

-- what stands past the held tasks
abbrev pub no_task : Candidate
no_task = record { id = 0; tier = 0; weight = 0; section = 0; execution = 0; deadline = 0; period = 0 }

module _ {V : Type 0} (prices : Prices V) where
  -- f 0 joined with .. joined with f (n - 1), from the cost of no task
  unfoldable pub join_below : ℕ → (ℕ → V) → V
  join_below zero f = prices.nothing
  join_below (suc n) f = prices.joined (join_below n f) (f n)

  -- two costs joined, or none where one is missing
  abbrev pub join_both : Option V → Option V → Option V
  join_both None b = None
  join_both (Some a) None = None
  join_both (Some a) (Some b) = Some (prices.joined a b)

  -- f 0 .. f (n - 1) joined, or none where one of them is missing
  unfoldable pub join_all_below : ℕ → (ℕ → Option V) → Option V
  join_all_below zero f = Some prices.nothing
  join_all_below (suc n) f = join_both (join_all_below n f) (f n)

  -- the cost of the task at a position with a response time
  abbrev pub charge : List Candidate → ℕ → ℕ → V
  charge tasks i time = prices.single (slice_index_or tasks i no_task).weight (slice_index_or tasks i no_task).tier time

  -- the same where there is a time
  abbrev pub charge_if_timed : List Candidate → ℕ → Option ℕ → Option V
  charge_if_timed tasks i None = None
  charge_if_timed tasks i (Some time) = Some (charge tasks i time)

  -- the cost of all tasks, each with its time
  abbrev pub total : List Candidate → (ℕ → ℕ) → V
  total tasks times = join_below (length tasks) (λ i. charge tasks i (times i))

  -- the cost of all tasks, or none where one of them has no time
  abbrev pub total_if_timed : List Candidate → (ℕ → Option ℕ) → Option V
  total_if_timed tasks times = join_all_below (length tasks) (λ i. charge_if_timed tasks i (times i))

  -- times that are nowhere earlier never cost less in all
  abbrev pub LaterNoLess : List Candidate → (ℕ → ℕ) → Type 0
  LaterNoLess tasks times = (later : ℕ → ℕ) → ((i : ℕ) → i < length tasks → times i ≤ later i)
      → prices.no_more (total tasks times) (total tasks later) ≡ true
