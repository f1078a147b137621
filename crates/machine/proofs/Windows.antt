-- Windows that are long enough for the jobs of a level, whatever comes from the levels above and below.
use Rattle.std.proofs.Common.{ℕ, suc, ◌+◌, ◌*◌, ◌<◌, ◌≤◌, List, length}
use Rattle.tasks.specs.Numbers.{sum_below}
use Rattle.tasks.specs.declared.task.Timing.{Timing}
use Rattle.tasks.specs.Timing.{at}
use Rattle.response.specs.Tests.{task_load}

-- `load w` is at least what the levels above can take within w ticks; and a section of a level below, which has run for a
-- tick before it holds off a job, leaves at most `block`
pub record Covers (tasks : List Timing) (level : ℕ) (load : ℕ → ℕ) (block : ℕ) : Type 0 where
  pub above : (w : ℕ) → sum_below level (λ l. task_load (at tasks l) w) ≤ load w
  pub below : (l : ℕ) → level < l → l < length tasks → (at tasks l).section ≤ suc block

-- w ticks are enough for p + 1 jobs of the task, the block and the load
pub record Enough (task : Timing) (load : ℕ → ℕ) (block p w : ℕ) : Type 0 where
  pub some : 1 ≤ w
  pub fits : suc p * task.execution + block + load w ≤ w

-- a window of jobs is over before another can come, and each of them takes at most r
pub record Window (task : Timing) (load : ℕ → ℕ) (block r : ℕ) : Type 0 where
  pub last : ℕ
  pub end : ℕ
  pub at_end : Enough task load block last end
  pub over : end ≤ suc last * task.period
  pub each : (p : ℕ) → p ≤ last → (w : ℕ) × Enough task load block p w × (w ≤ p * task.period + r)
