-- An answer of either test is a window of jobs; so it bounds a level of tasks that stand by level.
use Rattle.std.proofs.Common.{◌≡◌, ℕ, zero, suc, ◌+◌, ◌-◌, ◌*◌, ◌^◌, ◌<◌, ◌≤◌, List, length, Some, sym, ap, ◌∙◌, arith}
use Rattle.std.proofs.lemmas.Bool.{leb-true, eqb-true, ne_eqb, lt-ltb, le-ltb}
use Rattle.tasks.specs.Numbers.{least, largest, sum_below}
use Rattle.tasks.specs.declared.task.Timing.{Timing}
use Rattle.tasks.specs.Timing.{at}
use Rattle.tasks.proofs.Ranges.{sum_mono, sum_up, least_is, largest_is}
use Rattle.tasks.proofs.Words.{holds_first}
use Rattle.response.specs.Tests.{task_load, job_load, demand, section_below, blocking, one_job, one_job_admits, window, window_admits, busy, closes, delay}
use Rattle.response.specs.Demand.{AllLegal, held_legal, load_held, settled_is}
use Rattle.response.proofs.Blocking.{section_other}
use Rattle.response.specs.Jobs.{jobs, ended, closes_at}
use Rattle.machine.specs.Claims.{KeepsLevels}
use Rattle.machine.proofs.Levels.{max_at}
use Rattle.machine.proofs.Windows.{Enough, Window}
use Rattle.machine.proofs.Bounds.{windows_bound}

module _ (ts : List Timing) (legal : AllLegal ts) (i h r : ℕ) where
  pub one_job_window : (at ts i).deadline ≤ (at ts i).period → one_job ts i h ≡ Some r →
      Window (at ts i) (demand ts h) (blocking ts i h) r
  one_job_window short answer =
      let found = settled_is ts legal h ((at ts i).execution + blocking ts i h) (at ts i).deadline r answer in
      let enough : Enough (at ts i) (demand ts h) (blocking ts i h) 0 r = record { some = found.0; fits = omega (arith, found.1) } in
      record {
        last = 0;
        end = r;
        at_end = enough;
        over = omega (arith, found.2);
        each = λ p p-in. let only : p ≡ 0 = omega arith in (r, rw only enough, omega arith);
      }

  -- the (p + 1)-st job of a window ends in time
  job_ends : (p b : ℕ) → delay ts i h (suc p) ≡ Some b → b ≤ r →
      (w : ℕ) × (busy ts i h (suc p) ≡ Some w) × Enough (at ts i) (demand ts h) 0 p w × (w ≤ p * (at ts i).period + r)
  job_ends p b e most =
      let w = ended ts i h (suc p) b e in
      let found = settled_is ts legal h (suc p * (at ts i).execution) _ w.0 w.1 in
      let before : suc p - 1 ≡ p = omega arith in
      (w.0, w.1, record { some = found.0; fits = omega (arith, found.1) }, omega (arith, w.2, ap (λ q. q * (at ts i).period) before))

  pub window_window : window ts i h ≡ Some r → Window (at ts i) (demand ts h) 0 r
  window_window answer = let n = jobs ts i h r answer in go n.0 n.1 n.2
    where
      go : (n : ℕ) → least (closes ts i h) 64 ≡ Some n → largest (delay ts i h) n ≡ Some r → Window (at ts i) (demand ts h) 0 r
      go zero e f = absurd (omega (arith, (least_is (closes ts i h) 64 0 e).0.from))
      go (suc last) e f =
          let each = largest_is (delay ts i h) (suc last) r f in
          let one = each (suc last) (omega arith) (omega arith) in
          let end = job_ends last one.0 one.1 one.2 in
          let closed = (least_is (closes ts i h) 64 (suc last) e).0.passes in
          record {
            last = last;
            end = end.0;
            at_end = end.2;
            over = leb-true end.0 (suc last * (at ts i).period) (sym (closes_at ts i h (suc last) end.0 end.1) ∙ closed);
            each = λ p p-in.
                let b = each (suc p) (omega arith) (omega arith) in
                let w = job_ends p b.0 b.1 b.2 in (w.0, w.2, w.3);
          }

-- what the tests count of the levels above and below
module _ (tasks : List Timing) (level : ℕ) (l : level < length tasks) where
  demand_covers : (w : ℕ) → sum_below level (λ m. task_load (at tasks m) w) ≤ demand tasks (2 ^ level - 1) w
  demand_covers w =
      omega (
        arith,
        sum_mono level (λ m. task_load (at tasks m) w) (job_load tasks (2 ^ level - 1) w)
            (λ m m-in. omega (arith, load_held tasks (2 ^ level - 1) w m (holds_first level m ∙ lt-ltb m level m-in))),
        sum_up level (length tasks) (job_load tasks (2 ^ level - 1) w) (omega arith),
      )

  blocking_covers : (m : ℕ) → level < m → m < length tasks → (at tasks m).section ≤ blocking tasks level (2 ^ level - 1)
  blocking_covers m below m-in =
      omega (
        arith,
        section_other tasks level (2 ^ level - 1) m (ne_eqb m level (λ e. omega arith))
            (holds_first level m ∙ le-ltb m level (omega arith)),
        max_at (length tasks) m (section_below tasks level (2 ^ level - 1)) m-in,
      )

pub one_job_keeps : KeepsLevels one_job_admits one_job
one_job_keeps tasks workload level r held releases l answer =
    let legal = held_legal one_job_admits tasks held in
    windows_bound tasks workload level (demand tasks (2 ^ level - 1)) (blocking tasks level (2 ^ level - 1)) r legal releases l
    (record { above = demand_covers tasks level l; below = λ m below m-in. omega (arith, blocking_covers tasks level l m below m-in) })
    (one_job_window tasks legal level (2 ^ level - 1) r (leb-true _ _ (held level l).1) answer)

pub window_keeps : KeepsLevels window_admits window
window_keeps tasks workload level r held releases l answer =
    let legal = held_legal window_admits tasks held in
    windows_bound tasks workload level (demand tasks (2 ^ level - 1)) 0 r legal releases l
    (record { above = demand_covers tasks level l; below = λ m below m-in. omega (arith, eqb-true _ _ (held m m-in).1) })
    (window_window tasks legal level (2 ^ level - 1) r answer)
