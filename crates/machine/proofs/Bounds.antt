-- A window that is long enough for each of its jobs bounds every job of its level.
use Rattle.std.proofs.Common.{ℕ, ◌<◌, List, length}
use Rattle.tasks.specs.declared.task.Timing.{Timing}
use Rattle.tasks.specs.Timing.{at}
use Rattle.response.specs.Demand.{AllLegal}
use Rattle.machine.specs.Jobs.{Job, WorkloadOf}
use Rattle.machine.specs.Claims.{TakesAtMost}
use Rattle.machine.proofs.Windows.{Covers, Window}
use Rattle.machine.proofs.Busy.{placed, closes, ends}

pub windows_bound : (tasks : List Timing) (workload : List (List Job)) (level : ℕ) (load : ℕ → ℕ) (block r : ℕ) →
    AllLegal tasks → WorkloadOf tasks workload → level < length tasks →
    Covers tasks level load block → Window (at tasks level) load block r → TakesAtMost tasks workload level r
windows_bound tasks workload i load block r sound legal i-in covers win k k-in =
    let at = placed tasks workload sound legal i i-in k k-in in
    let in_window = closes tasks workload sound legal i i-in k k-in load block covers at.0 at.1 at.2 win.last win.end win.at_end win.over in
    let w = win.each at.1 in_window in
    ends tasks workload sound legal i i-in k k-in load block covers at.0 at.1 at.2 w.0 r w.1 w.2
