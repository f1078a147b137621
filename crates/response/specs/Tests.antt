-- The response tests, and the laws that every test obeys.
-- A test answers, for the held timings, a position and the word of the positions above it, a response time or none.
use Rattle.std.specs.Prelude.{◌≡◌, ℕ, ◌+◌, ◌-◌, ◌*◌, ◌<◌, ◌≤◌, Bool, false, cond, ◌||◌, eqb, leb, List, length, Some, None, Option, ◌==◌, nat_le}
use Rattle.tasks.specs.Numbers.{least, largest, sum_below, max_below, ceiling}
use Rattle.tasks.specs.Sets.{holds, Part}
use Rattle.tasks.specs.declared.task.Timing.{Timing}
use Rattle.tasks.specs.Timing.{at, Held}

abbrev pub Answers : Type 0
Answers = List Timing → ℕ → ℕ → Option ℕ

-- an answer is at least 1 and at most the deadline
abbrev pub Within : (Timing → Bool) → Answers → Type 0
Within admits answer = (ts : List Timing) (i h r : ℕ) → Held admits ts → i < length ts → answer ts i h ≡ Some r
    → (1 ≤ r) × (r ≤ (at ts i).deadline)

-- with a part of the tasks above, a task that is answered is answered no later
abbrev pub Monotone : (Timing → Bool) → Answers → Type 0
Monotone admits answer = (ts : List Timing) (i h k r : ℕ) → Held admits ts → i < length ts → Part k h → answer ts i h ≡ Some r
    → (s : ℕ) × (answer ts i k ≡ Some s) × (s ≤ r)

-- the ticks that a task can take in a window of w ticks, if it is released with the window
abbrev pub task_load : Timing → ℕ → ℕ
task_load t w = ceiling w t.period * t.execution

-- what position j adds to the load of a window of w ticks below the tasks of h
abbrev pub job_load : List Timing → ℕ → ℕ → ℕ → ℕ
job_load ts h w j = cond (holds h j) (task_load (at ts j) w) 0

-- the ticks that the tasks of h can take in a window of w ticks
abbrev pub demand : List Timing → ℕ → ℕ → ℕ
demand ts h w = sum_below (length ts) (job_load ts h w)

-- the section of position j where it is below i, that is neither i nor in h
abbrev pub section_below : List Timing → ℕ → ℕ → ℕ → ℕ
section_below ts i h j = cond (j == i || holds h j) 0 (at ts j).section

-- the longest section below i
abbrev pub blocking : List Timing → ℕ → ℕ → ℕ
blocking ts i h = max_below (length ts) (section_below ts i h)

-- the least w from 1 to the limit with w = base + demand w
abbrev pub settled : List Timing → ℕ → ℕ → ℕ → Option ℕ
settled ts h base limit = least (λ w. eqb w (base + demand ts h w)) limit

-- no window that its own load fills is shorter than w, and w is no longer than its load
pub record Under (ts : List Timing) (h base w : ℕ) : Type 0 where
  pub from : 1 ≤ w
  pub rising : w ≤ base + demand ts h w
  pub lowest : (x : ℕ) → 1 ≤ x → x ≡ base + demand ts h x → w ≤ x

abbrev pub one_job_admits : Timing → Bool
one_job_admits t = nat_le t.deadline t.period

abbrev pub one_job : Answers
one_job ts i h = settled ts h ((at ts i).execution + blocking ts i h) (at ts i).deadline

abbrev pub window_admits : Timing → Bool
window_admits t = t.section == 0

-- when the n-th job of a window ends (n from 1), counted from the window's start; none where that is late
abbrev pub busy : List Timing → ℕ → ℕ → ℕ → Option ℕ
busy ts i h n = settled ts h (n * (at ts i).execution) ((n - 1) * (at ts i).period + (at ts i).deadline)

-- the n-th job ends before the next release
abbrev pub closes : List Timing → ℕ → ℕ → ℕ → Bool
closes ts i h n = elim (busy ts i h n) [ None ↦ false | Some w ↦ leb w (n * (at ts i).period) ]

-- what the n-th job takes from its own release
abbrev pub delay : List Timing → ℕ → ℕ → ℕ → Option ℕ
delay ts i h n = elim (busy ts i h n) [ None ↦ None | Some w ↦ Some (w - (n - 1) * (at ts i).period) ]

-- the largest delay of the jobs up to the first that closes the window
abbrev pub window : Answers
window ts i h = elim (least (closes ts i h) 64) [ None ↦ None | Some n ↦ largest (delay ts i h) n ]
