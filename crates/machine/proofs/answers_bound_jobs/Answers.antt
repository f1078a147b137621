use Rattle.machine.proofs.Keeps.{one_job_kept, window_kept}
use Rattle.machine.proofs.answers_bound_jobs.Goals as goal

pub returns : goal.returns
returns c = record { by_one_job = one_job_kept; by_window = window_kept }
