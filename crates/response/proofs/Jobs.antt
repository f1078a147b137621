-- The loop over the jobs of a window.
use Rattle.std.specs.Prelude.{◌≡◌, ℕ, ◌+◌, ◌-◌, ◌*◌, ◌<◌, ◌≤◌, max, false, List, length, Some, None, Option, slice_index_or, refl}
use Rattle.std.proofs.Common.{sym, ◌∙◌, ap, inl, inr, add-mul}
use Rattle.std.proofs.Common.{arith}
use Rattle.std.proofs.lemmas.Bool.{cases_lt, le-leb, lt-leb, both_ways}
use Rattle.tasks.specs.declared.task.Task.{Task}
use Rattle.tasks.specs.Numbers.{least, largest}
use Rattle.tasks.specs.declared.task.Timing.{Timing}
use Rattle.tasks.specs.Timing.{timed, at}
use Rattle.response.specs.Tests.{settled, Under, busy, closes, delay, window}
use Rattle.tasks.proofs.Ranges.{least_some, least_none, least_is, largest_next, largest_missing}
use Rattle.response.specs.Demand.{AllLegal, demand_mono, settled_is, settles}
use Rattle.response.proofs.Demand.{at_timed}
use Rattle.response.specs.Jobs.{times_pos, closes_at, delay_at, delay_none, window_at, window_none}

-- what `closes` is where a job's end is not known
module _ (ts : List Timing) (i h : ℕ) where
  pub closes_none : (n : ℕ) → busy ts i h n ≡ None → closes ts i h n ≡ false
  closes_none n e = rw (e, closes)

-- ---- the loop over the jobs

-- what is known before job n, where the job before ends at `end` and n is released at `release`
pub record SoFar (ts : List Timing) (i h n worst release end : ℕ) : Type 0 where
  pub counted : 1 ≤ n
  pub small : end ≤ 67108800
  pub soon : release ≤ (n - 1) * 1048575
  pub running : release ≤ end
  pub released : release ≡ (n - 1) * (at ts i).period
  pub longest : largest (delay ts i h) (n - 1) ≡ Some worst
  pub unclosed : (m : ℕ) → 1 ≤ m → m < n → closes ts i h m ≡ false
  pub warm : Under ts h (n * (at ts i).execution) (end + (at ts i).execution)

-- the end of job n by the task's own numbers
pub busy_by : (tasks : List Task) (i h n release : ℕ) (t : Task) → i < length tasks → t ≡ slice_index_or tasks i t
    → release ≡ (n - 1) * (at (timed tasks) i).period
    → settled (timed tasks) h (n * t.execution) (release + t.deadline) ≡ busy (timed tasks) i h n
busy_by tasks i h n release t l e r =
    let ts = timed tasks in
    ap (λ (s : Timing). settled ts h (n * s.execution) (release + s.deadline)) (sym (at_timed tasks i t l e))
    ∙ ap (λ (x : ℕ). settled ts h (n * (at ts i).execution) (x + (at ts i).deadline)) r

module _ (ts : List Timing) (legal : AllLegal ts) (i : ℕ) (l : i < length ts) (h : ℕ) where
  -- the next job ends an execution later at least
  pub warmer : (n w limit : ℕ) → 1 ≤ n → settled ts h (n * (at ts i).execution) limit ≡ Some w
      → Under ts h ((n + 1) * (at ts i).execution) (w + (at ts i).execution)
  warmer n w limit pos e =
      let x = (at ts i).execution in
      let a = settled_is ts legal h (n * x) limit w e in
      let more : (n + 1) * x ≡ n * x + 1 * x = add-mul n 1 x in
      record {
        from = omega (arith, a.0);
        rising = let m = demand_mono ts legal h w (w + x) (omega arith) in omega (arith, a.1);
        lowest = λ y b fills.
            let m = demand_mono ts legal h (y - x) y (omega arith) in
            let s = settles ts legal h (n * x) (y - x) (y - x) (times_pos n x pos (legal i l).runs) (omega arith) (omega arith) in
            let f = settled_is ts legal h (n * x) (y - x) s.0 s.1 in
            omega (arith, a.3 s.0 f.0 f.1, s.2);
      }

  pub so_far_start : SoFar ts i h 1 0 0 0
  unfolding largest
  so_far_start =
      let o = legal i l in
      record {
        counted = omega arith;
        small = omega arith;
        soon = omega arith;
        running = omega arith;
        released = omega arith;
        longest = refl;
        unclosed = λ m a b. absurd (omega arith);
        warm = record { from = omega arith; rising = omega arith; lowest = λ x a e. omega arith };
      }

  module _ (n worst release end : ℕ) (s : SoFar ts i h n worst release end) where
    next_release : n * (at ts i).period ≡ release + (at ts i).period
    next_release =
        let t = (at ts i).period in
        let one : n ≡ (n - 1) + 1 = omega (arith, s.counted) in
        ap (λ (x : ℕ). x * t) one ∙ add-mul (n - 1) 1 t ∙ omega (arith, s.released)

    longest_with : (w : ℕ) → busy ts i h n ≡ Some w → largest (delay ts i h) n ≡ Some (max worst (w - release))
    longest_with w e =
        largest_next (delay ts i h) n worst (w - release) s.counted s.longest
        (delay_at ts i h n w e ∙ ap (λ (x : ℕ). Some (w - x)) (sym s.released))

    pub so_far_next : (w : ℕ) → busy ts i h n ≡ Some w → w ≤ 67108800 → (at ts i).period ≤ 1048575 → release + (at ts i).period < w
        → SoFar ts i h (n + 1) (max worst (w - release)) (release + (at ts i).period) w
    so_far_next w e few short late =
        let back : (n + 1) - 1 ≡ n = omega arith in
        let turn = next_release in
        record {
          counted = omega arith;
          small = few;
          soon = omega (arith, s.soon, s.counted);
          running = omega arith;
          released = rw back (omega arith);
          longest = rw back (longest_with w e);
          unclosed = λ m a b. elim (cases_lt m n) [
            | inl o ↦ s.unclosed m a o
            | inr o ↦
                let here : m ≡ n = omega arith in
                ap (closes ts i h) here ∙ closes_at ts i h n w e ∙ lt-leb w (n * (at ts i).period) (omega arith)
          ];
          warm = warmer n w _ s.counted e;
        }

    pub so_far_ends : (w : ℕ) → n ≤ 64 → busy ts i h n ≡ Some w → w ≤ release + (at ts i).period → window ts i h ≡ Some (max worst (w - release))
    so_far_ends w few e early =
        let turn = next_release in
        window_at ts i h n
        (least_some (closes ts i h) 64 n
        (record {
          from = s.counted;
          passes = closes_at ts i h n w e ∙ le-leb w (n * (at ts i).period) (omega arith);
          first = s.unclosed;
        })
        few)
        ∙ longest_with w e

    pub so_far_late : n ≤ 64 → busy ts i h n ≡ None → window ts i h ≡ None
    so_far_late few e = go (least (closes ts i h) 64) refl
      where
        go : (o : Option ℕ) → least (closes ts i h) 64 ≡ o → window ts i h ≡ None
        go None g = window_none ts i h g
        go (Some m) g =
            let some = least_is (closes ts i h) 64 m g in
            window_at ts i h m g ∙ largest_missing (delay ts i h) m n s.counted
            (elim (cases_lt m n) [
              | inl o ↦ absurd (both_ways (closes ts i h m) (s.unclosed m some.0.from o) some.0.passes)
              | inr o ↦ o
            ])
            (delay_none ts i h n e)

    pub so_far_open : 64 < n → window ts i h ≡ None
    so_far_open many = window_none ts i h (least_none (closes ts i h) 64 (λ m a b. s.unclosed m a (omega arith)))
