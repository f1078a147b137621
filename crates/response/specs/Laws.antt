-- What the two tests answer, said without a scan, a limit or a loop.
use Rattle.std.specs.Prelude.{◌≡◌, ℕ, ◌+◌, ◌*◌, ◌<◌, ◌≤◌, false, ◌⊎◌, List, length, Some, None, ◌≢◌}
use Rattle.tasks.specs.Numbers.{ceiling}
use Rattle.tasks.specs.Sets.{holds}
use Rattle.tasks.specs.declared.task.Timing.{Timing}
use Rattle.tasks.specs.Timing.{at, Legal}
use Rattle.response.specs.Tests.{demand, blocking, one_job, window}

-- w is the least positive solution of w = base + demand w
pub record LeastSolution (ts : List Timing) (h base w : ℕ) : Type 0 where
  pub positive : 1 ≤ w
  pub solves : w ≡ base + demand ts h w
  pub first : (x : ℕ) → 1 ≤ x → x ≡ base + demand ts h x → w ≤ x

-- w / t rounded up is the least count of periods t that cover w
pub record RoundsUp (w t : ℕ) : Type 0 where
  pub covers : w ≤ ceiling w t * t
  pub fewest : (n : ℕ) → w ≤ n * t → ceiling w t ≤ n

-- position j is below i: neither i itself nor above it
pub record Below (ts : List Timing) (i h j : ℕ) : Type 0 where
  pub stands : j < length ts
  pub other : j ≡ i → ⊥
  pub lower : holds h j ≡ false

-- the blocking is the largest section below i, or 0 where every section there is 0 or none is below
pub record LongestSection (ts : List Timing) (i h : ℕ) : Type 0 where
  pub bound : (j : ℕ) → Below ts i h j → (at ts j).section ≤ blocking ts i h
  pub reached : (blocking ts i h ≡ 0) ⊎ ((j : ℕ) × Below ts i h j × (blocking ts i h ≡ (at ts j).section))

-- the one-job test answers the least positive solution of R = C + B + demand R, if it is within the deadline,
-- and none exactly where no positive number within the deadline is a solution
pub record OneJobLaw (ts : List Timing) (i h : ℕ) : Type 0 where
  pub sound : (r : ℕ) → one_job ts i h ≡ Some r
      → LeastSolution ts h ((at ts i).execution + blocking ts i h) r × (r ≤ (at ts i).deadline)
  pub complete : (r : ℕ) → LeastSolution ts h ((at ts i).execution + blocking ts i h) r → r ≤ (at ts i).deadline
      → one_job ts i h ≡ Some r
  pub late : one_job ts i h ≡ None
      → (x : ℕ) → 1 ≤ x → x ≤ (at ts i).deadline → x ≢ (at ts i).execution + blocking ts i h + demand ts h x
  pub unsolved : ((x : ℕ) → 1 ≤ x → x ≤ (at ts i).deadline → x ≢ (at ts i).execution + blocking ts i h + demand ts h x)
      → one_job ts i h ≡ None

-- a window of the jobs 0 .. q of i, where job p ends at w p and is released at p * T: each ends within its deadline,
-- each but the last after the next release, and the last by the next release
pub record BusyWindow (ts : List Timing) (i h q : ℕ) (w : ℕ → ℕ) : Type 0 where
  pub short : q ≤ 63
  pub ends : (p : ℕ) → p ≤ q → LeastSolution ts h ((p + 1) * (at ts i).execution) (w p)
  pub in_time : (p : ℕ) → p ≤ q → w p ≤ p * (at ts i).period + (at ts i).deadline
  pub running : (p : ℕ) → p < q → (p + 1) * (at ts i).period < w p
  pub closed : w q ≤ (q + 1) * (at ts i).period

-- r is the largest of w p - p * T for p up to q
pub record LongestDelay (ts : List Timing) (i q : ℕ) (w : ℕ → ℕ) (r : ℕ) : Type 0 where
  pub bound : (p : ℕ) → p ≤ q → w p ≤ p * (at ts i).period + r
  pub reached : (p : ℕ) × (p ≤ q) × (w p ≡ p * (at ts i).period + r)

-- the window test answers the longest delay of a busy window, and none exactly where there is no busy window
pub record WindowLaw (ts : List Timing) (i h : ℕ) : Type 0 where
  pub sound : (r : ℕ) → window ts i h ≡ Some r
      → (q : ℕ) × (w : ℕ → ℕ) × BusyWindow ts i h q w × LongestDelay ts i q w r
  pub complete : (r q : ℕ) (w : ℕ → ℕ) → BusyWindow ts i h q w → LongestDelay ts i q w r → window ts i h ≡ Some r
  pub late : window ts i h ≡ None → (q : ℕ) (w : ℕ → ℕ) → BusyWindow ts i h q w → ⊥
  pub unending : ((q : ℕ) (w : ℕ → ℕ) → BusyWindow ts i h q w → ⊥) → window ts i h ≡ None

abbrev pub RoundingUpIsLeast : Type 0
RoundingUpIsLeast = (w t : ℕ) → 1 ≤ t → RoundsUp w t

abbrev pub BlockingIsLongest : Type 0
BlockingIsLongest = (ts : List Timing) (i h : ℕ) → LongestSection ts i h

abbrev pub OneJobIsLeastSolution : Type 0
OneJobIsLeastSolution = (ts : List Timing) (i h : ℕ) → OneJobLaw ts i h

abbrev pub WindowIsLongestDelay : Type 0
WindowIsLongestDelay = (ts : List Timing) (i h : ℕ) → ((j : ℕ) → j < length ts → Legal (at ts j)) → i < length ts → WindowLaw ts i h
