-- What the levels above and below a level can take from it.
use Rattle.std.proofs.Common.{◌≡◌, ℕ, ◌+◌, ◌*◌, ◌/◌, ◌%◌, ◌<◌, ◌≤◌, min, List, length, ap, inl, inr, mod-lt, add-mul, div-add-mod', arith}
use Rattle.std.proofs.lemmas.List.{get_or_past}
use Rattle.std.proofs.lemmas.Bool.{cases_lt}
use Rattle.tasks.specs.Numbers.{sum_below, ceiling}
use Rattle.tasks.specs.declared.task.Timing.{Timing}
use Rattle.tasks.specs.Timing.{at}
use Rattle.machine.specs.Jobs.{Job, jobs_at, WorkloadOf}
use Rattle.machine.specs.Machine.{State}
use Rattle.response.specs.Tests.{task_load}
use Rattle.response.specs.Demand.{AllLegal}
use Rattle.machine.proofs.Released.{released, released_within}
use Rattle.machine.proofs.Levels.{sum_le_add}
use Rattle.machine.proofs.Ticks.{hold_left, hold_left_le}
use Rattle.machine.proofs.Windows.{Covers}

ceiling_covers : (a b : ℕ) → 1 ≤ b → a ≤ ceiling a b * b
ceiling_covers a b h =
    elim (cases_lt 0 (a % b)) [
      | inl more ↦ let one : min 1 (a % b) ≡ 1 = omega arith in
          omega (arith, div-add-mod' a b, mod-lt a h, add-mul (a / b) (min 1 (a % b)) b, ap (λ m. m * b) one)
      | inr none ↦ omega (arith, div-add-mod' a b, add-mul (a / b) (min 1 (a % b)) b)
    ]

module _ (tasks : List Timing) (workload : List (List Job)) (i : ℕ) (load : ℕ → ℕ) (block : ℕ) (covers : Covers tasks i load block) where
  -- the work that is released above level i within w ticks is at most the load
  pub released_above : (s w : ℕ) → AllLegal tasks → WorkloadOf tasks workload → i ≤ length tasks →
      sum_below i (λ l. released (jobs_at workload l) (s + w)) ≤ sum_below i (λ l. released (jobs_at workload l) s) + load w
  released_above s w sound legal h =
      omega (
        arith,
        covers.above w,
        sum_le_add (λ l. released (jobs_at workload l) (s + w)) (λ l. released (jobs_at workload l) s)
            (λ l. task_load (at tasks l) w) i
            (λ l l-in.
            let l-level : l < length tasks = omega arith in
            let period-some : 1 ≤ (at tasks l).period = omega (arith, (sound l l-level).repeats, (sound l l-level).runs) in
            released_within (at tasks l) (ceiling w (at tasks l).period) 0 s (s + w) (jobs_at workload l) (legal l l-level)
            (omega (arith, ceiling_covers w (at tasks l).period period-some))),
      )

  -- no level below i holds the machine for longer than the block
  pub hold_blocking : (s : State) → hold_left tasks workload i s ≤ block
  hold_blocking s =
      hold_left_le tasks workload i block s
      (λ l below. elim (cases_lt l (length tasks)) [
        | inl l-in ↦ covers.below l below l-in
        | inr past ↦ let none : (at tasks l).section ≡ 0 = ap (λ task. task.section) (get_or_past tasks l _ past) in omega arith
      ])
