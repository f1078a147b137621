use Rattle.std.proofs.Common.{ℕ, ◌+◌, ◌*◌, ◌≤◌, length, sym, ap, subst, add-zero, arith}
use Rattle.tasks.specs.Numbers.{sum_below}
use Rattle.tasks.specs.Timing.{timed}
use Rattle.response.specs.Tests.{job_load}
use Rattle.tasks.proofs.Ranges.{sum_up, sum_next}
use Rattle.response.specs.Demand.{load_other}
use Rattle.response.proofs.Demand.{ceiling_bound, timed_length, load_task, up_to_past}
use Rattle.response.proofs.load.load_within.Goals as goal
use Rattle.response.proofs.load.load_within.Goals.{then-contains, else-contains}

pub loop-position-init : goal.loop-position-init
unfolding sum_below
loop-position-init c = sym (add-zero _)

pub returns-then-load-limit : goal.returns-then-load-limit
returns-then-load-limit c =
    let ts = timed c.args.tasks.now in
    let long = timed_length c.args.tasks.now in
    let part = sum_up c.loop-position.position (length ts) (job_load ts c.args.above.word c.args.w) (omega arith) in
    sym (up_to_past _ _ (omega arith))

-- what one task adds
added : (c : goal.After-periods_begun) → c.periods_begun.result * c.index-tasks-position.result.execution ≤ c.args.w + c.index-tasks-position.result.period
added c =
    let t = c.index-tasks-position.result in
    let bound = ceiling_bound c.args.w t.period t.execution (omega arith) t.in_period in
    subst (λ (x : ℕ). x * t.execution ≤ c.args.w + t.period) (sym c.periods_begun.ensures) bound

pub overflow_mul-load : goal.overflow_mul-load
overflow_mul-load c = let bound = added c in omega arith

pub overflow_add-load : goal.overflow_add-load
overflow_add-load c = let bound = added c in omega arith

pub loop-position-preserved : goal.loop-position-preserved
loop-position-preserved c =
    let tasks = c.args.tasks.now in
    let h = c.args.above.word in
    let j = c.loop-position.position in
    let t = c.index-tasks-position.result in
    let step = sum_next j (job_load (timed tasks) h c.args.w) in
    elim c.if-contains.branch [
      | then-contains w ↦
          let held = load_task tasks h c.args.w j t c.loop-position-test.true c.index-tasks-position.is (sym w.if-contains.ensures) in
          let exact = ap (λ (x : ℕ). x * t.execution) w.periods_begun.ensures in
          omega (arith, w.load-is)
      | else-contains w ↦
          let other = load_other (timed tasks) h c.args.w j (sym w.if-contains.ensures) in
          omega (arith, w.load-is)
    ]
