-- The runs without a premise, by computing.
use Rattle.std.proofs.Common.{ℕ, zero, suc, ◌<◌, refl, arith, lit<, lit≤}
use Rattle.tasks.specs.Numbers.{least, largest, sum_below, max_below}
use Rattle.machine.specs.Machine.{first, progress, pending, state_at}
use Rattle.machine.specs.Claims.{need_through}
use Rattle.machine.specs.Premises.{Outruns, deadline_past_period, section_below_window, releases_too_close, need_past_execution, PremisesNeeded}
use Rattle.machine.proofs.Runs.{below_two}

below_one : (P : ℕ → Type 0) → P 0 → (i : ℕ) → i < 1 → P i
below_one P a zero l = a
below_one P a (suc i) l = absurd (omega arith)

deadline_outruns : Outruns deadline_past_period
unfolding least largest sum_below max_below first progress pending state_at need_through
deadline_outruns = record {
  legal = below_two _ (omega arith) (omega arith);
  answered = refl;
  ends = record { not_before = lit< tt; then = lit≤ tt };
  late = lit< tt;
}

section_outruns : Outruns section_below_window
unfolding least largest sum_below max_below first progress pending state_at need_through
section_outruns = record {
  legal = below_two _ (omega arith) (omega arith);
  answered = refl;
  ends = record { not_before = lit< tt; then = lit≤ tt };
  late = lit< tt;
}

releases_outrun : Outruns releases_too_close
unfolding least largest sum_below max_below first progress pending state_at need_through
releases_outrun = record {
  legal = below_one _ (omega arith);
  answered = refl;
  ends = record { not_before = lit< tt; then = lit≤ tt };
  late = lit< tt;
}

need_outruns : Outruns need_past_execution
unfolding least largest sum_below max_below first progress pending state_at need_through
need_outruns = record {
  legal = below_one _ (omega arith);
  answered = refl;
  ends = record { not_before = lit< tt; then = lit≤ tt };
  late = lit< tt;
}

pub premises_needed : PremisesNeeded
premises_needed = (deadline_outruns, (section_outruns, (releases_outrun, (need_outruns, tt))))
