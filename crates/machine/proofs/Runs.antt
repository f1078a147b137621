-- The worked runs, by computing.
use Rattle.std.proofs.Common.{ℕ, zero, suc, ◌<◌, [], ◌∷◌, refl, arith, lit<, lit≤}
use Rattle.tasks.specs.Numbers.{least, largest, sum_below, max_below}
use Rattle.orders.specs.Orders.{Order}
use Rattle.orders.proofs.Counts.{same_other}
use Rattle.machine.specs.Machine.{first, progress, pending, state_at}
use Rattle.machine.specs.Claims.{need_through}
use Rattle.machine.specs.Worked.{Right, three_tasks, section_holds, first_job, second_job, third_job, long_window, Worked}

pub below_two : (P : ℕ → Type 0) → P 0 → P 1 → (i : ℕ) → i < 2 → P i
below_two P a b zero l = a
below_two P a b (suc zero) l = b
below_two P a b (suc (suc i)) l = absurd (omega arith)

below_three : (P : ℕ → Type 0) → P 0 → P 1 → P 2 → (i : ℕ) → i < 3 → P i
below_three P a b c zero l = a
below_three P a b c (suc i) l = below_two (λ j. P (suc j)) b c i (omega arith)

three_tasks_right : Right three_tasks
unfolding least largest sum_below max_below first progress pending state_at need_through
three_tasks_right = record {
  holds = below_three _ (omega arith, refl) (omega arith, refl) (omega arith, refl);
  passes = (
    record {
      once = below_three _ refl refl refl;
      else_none = λ i g. omega (
        arith,
        same_other i 1 (λ e. omega arith),
        same_other i 0 (λ e. omega arith),
        same_other i 2 (λ e. omega arith),
      );
    },
    refl,
  );
  releases = below_three _ (omega arith) (omega arith) (omega arith);
  ends = record { not_before = lit< tt; then = lit≤ tt };
  takes = refl;
}

two_tasks : Order 2 (0 ∷ 1 ∷ [])
two_tasks = record {
  once = below_two _ refl refl;
  else_none = λ i g. omega (arith, same_other i 0 (λ e. omega arith), same_other i 1 (λ e. omega arith));
}

section_holds_right : Right section_holds
unfolding least largest sum_below max_below first progress pending state_at need_through
section_holds_right = record {
  holds = below_two _ (omega arith, refl) (omega arith, refl);
  passes = (two_tasks, refl);
  releases = below_two _ (omega arith) (omega arith);
  ends = record { not_before = lit< tt; then = lit≤ tt };
  takes = refl;
}

first_job_right : Right first_job
unfolding least largest sum_below max_below first progress pending state_at need_through
first_job_right = record {
  holds = below_two _ (omega arith, refl) (omega arith, refl);
  passes = (two_tasks, refl);
  releases = below_two _ (omega arith) (omega arith);
  ends = record { not_before = lit< tt; then = lit≤ tt };
  takes = refl;
}

-- the same order and workload
second_job_right : Right second_job
unfolding state_at first progress pending need_through
second_job_right = record {
  holds = first_job_right.holds;
  passes = first_job_right.passes;
  releases = first_job_right.releases;
  ends = record { not_before = lit< tt; then = lit≤ tt };
  takes = refl;
}

third_job_right : Right third_job
unfolding state_at first progress pending need_through
third_job_right = record {
  holds = first_job_right.holds;
  passes = first_job_right.passes;
  releases = first_job_right.releases;
  ends = record { not_before = lit< tt; then = lit≤ tt };
  takes = refl;
}

long_window_right : Right long_window
unfolding least largest sum_below max_below first progress pending state_at need_through
long_window_right = record {
  holds = below_two _ (omega arith, refl) (omega arith, refl);
  passes = (two_tasks, refl);
  releases = below_two _ (omega arith) (omega arith);
  ends = record { not_before = lit< tt; then = lit≤ tt };
  takes = refl;
}

pub worked : Worked
worked = (three_tasks_right, (section_holds_right, (first_job_right, (second_job_right, (third_job_right, (long_window_right, tt))))))
