-- What each command does to a plan and to the buffer for its reports.
use Rattle.std.specs.Prelude.{ℕ, Bool, true, false, not, List, [], ◌∷◌, ◌++◌, map, length, drop, is_some, Some, None, Ok, Err, Option, Result, nat_le, nat_lt, slice_index_or}
use Rattle.std.specs.Option.{option_map}
use Rattle.std.specs.List.{flat_map}
use Rattle.tasks.specs.declared.fault.Fault.{Fault}
use Rattle.tasks.specs.declared.fault.Fault.TheVariants.{Task, Plan}
use Rattle.tasks.specs.declared.fault.TaskFault.TheVariants.{NotAdmitted}
use Rattle.tasks.specs.declared.fault.PlanFault.TheVariants as plan
use Rattle.tasks.specs.declared.task.Candidate.{Candidate}
use Rattle.tables.specs.Bits.{packed, bytes_of}
use Rattle.tasks.specs.Faults.{unless, first}
use Rattle.tasks.specs.Tasks.{task_fault, timing_of}
use Rattle.tables.specs.Tables.{candidate, records_of, table_fault}
use Rattle.costs.specs.Folds.{no_task}
use Rattle.orders.specs.Orders.{Assignment}
use Rattle.orders.specs.Costs.{cost}
use Rattle.orders.specs.First.{first_order}
use Rattle.orders.specs.Search as search
use Rattle.law.specs.declared.command.Command.{Command}
use Rattle.law.specs.declared.command.Command.TheVariants.{Load, Add, Drop, Start, Advance, Stop, Report}
use Rattle.law.specs.declared.command.Outcome.{Outcome}
use Rattle.law.specs.declared.command.Outcome.TheVariants.{Done, Started, Advanced, Reported}
use Rattle.law.specs.Meaning.{Meaning, answers, costs}
use Rattle.law.specs.Held.{has, inserted, without}

-- ---- a plan

-- open; searching, with the best order so far and the active vertices; or finished, with the best order
pub data Stage : Type 0 where
  open' : Stage
  searching : search.State → Stage
  finished : Assignment → Stage

-- the held tasks, and the stage
pub record Model : Type 0 where
  pub tasks : List Candidate
  pub stage : Stage

abbrev pub opened : List Candidate → Model
opened tasks = record { tasks = tasks; stage = open' }

abbrev pub is_open : Stage → Bool
is_open open' = true
is_open (searching s) = false
is_open (finished best) = false

abbrev pub is_searching : Stage → Bool
is_searching open' = false
is_searching (searching s) = true
is_searching (finished best) = false

abbrev pub is_finished : Stage → Bool
is_finished open' = false
is_finished (searching s) = false
is_finished (finished best) = true

-- the best order so far; none has been found while the plan is open
abbrev pub best_of : Stage → Assignment
best_of open' = search.nothing_placed
best_of (searching s) = s.best
best_of (finished best) = best

-- ---- a search

-- a search is finished when no vertex is active
abbrev pub staged_by : List search.Vertex → search.State → Stage
staged_by [] s = finished s.best
staged_by (v ∷ vs) s = searching s

abbrev pub staged : search.State → Stage
staged s = staged_by s.active s

-- the search from a first order, over n tasks
abbrev pub started : ℕ → Option Assignment → Stage
started n None = open'
started n (Some first) = searching (search.begun n first)

module _ {V : Type 0} (w : Meaning V) (tasks : List Candidate) where
  abbrev pub first_of : Option Assignment
  first_of = first_order (length tasks) (answers w tasks) (costs w tasks)

  -- how many of k vertices are left to examine
  abbrev pub counted : ℕ → Stage → ℕ
  counted k open' = 0
  counted k (searching s) = search.stepped (length tasks) (answers w tasks) (costs w tasks) k s
  counted k (finished best) = 0

  -- the stage when k vertices more have been examined, or all that were left
  abbrev pub advanced : ℕ → Stage → Stage
  advanced k open' = open'
  advanced k (searching s) = staged (search.steps (length tasks) (answers w tasks) (costs w tasks) k s)
  advanced k (finished best) = finished best

  -- the cost of an order with its response times
  abbrev pub cost_of : Assignment → V
  cost_of a = cost (costs w tasks) a.order a.times

-- ---- a report

-- what is reported of a level: the id of its task, and the response time
pub record Level : Type 0 where
  pub id : ℕ
  pub time : ℕ

-- the levels of an order, highest first
abbrev pub levels : List Candidate → List ℕ → List ℕ → List Level
levels tasks [] times = []
levels tasks (i ∷ is) [] = []
levels tasks (i ∷ is) (t ∷ ts) = record { id = (slice_index_or tasks i no_task).id; time = t } ∷ levels tasks is ts

-- a level takes four bytes: the id, zero, the response time
abbrev pub level_bytes : Level → List ℕ
level_bytes l = bytes_of 4 (packed 0 ((6, l.id) ∷ (6, 0) ∷ (20, l.time) ∷ []))

abbrev pub best_levels : Model → List Level
best_levels m = levels m.tasks (best_of m.stage).order (best_of m.stage).times

abbrev pub report : Model → List ℕ
report m = flat_map level_bytes (best_levels m)

-- ---- commands

-- a plan, and the buffer for its reports
pub record Point : Type 0 where
  pub plan : Model
  pub buffer : List ℕ

-- an answer, and what there is then
pub record Reply : Type 0 where
  pub answer : Result Outcome Fault
  pub next : Point

abbrev pub reply : Outcome → Model → List ℕ → Reply
reply outcome plan buffer = record { answer = Ok outcome; next = record { plan = plan; buffer = buffer } }

-- a command that is turned down leaves the plan and the buffer as they were
abbrev pub decided : Option Fault → Point → Reply → Reply
decided None p r = r
decided (Some f) p r = record { answer = Err f; next = p }

module _ {V : Type 0} (w : Meaning V) where
  -- why a command is turned down, if it is: by the state first, then by the number of the fault
  abbrev pub fault : Model → List ℕ → Command → Option Fault
  fault m b (Load file) =
      unless (not (is_searching m.stage)) (Plan plan.Searching)
      (table_fault w.admitted w.test_code w.cost_code file.now)
  fault m b (Add c) =
      unless (not (is_searching m.stage)) (Plan plan.Searching)
      (first (option_map Task (task_fault 0 c))
      (unless (w.admitted (timing_of c)) (Task (NotAdmitted 0))
      (unless (not (has c.id m.tasks)) (Plan (plan.Order 0))
      (unless (nat_lt (length m.tasks) 16) (Plan plan.Full) None))))
  fault m b (Drop id) =
      unless (not (is_searching m.stage)) (Plan plan.Searching)
      (unless (has id m.tasks) (Plan plan.NotHeld) None)
  fault m b Start =
      unless (not (is_searching m.stage)) (Plan plan.Searching)
      (unless (nat_lt 0 (length m.tasks)) (Plan plan.NoTask)
      (unless (is_some (first_of w m.tasks)) (Plan plan.NoOrder) None))
  fault m b (Advance k) =
      unless (not (is_open m.stage)) (Plan plan.Open)
      (unless (nat_le k 1000000) (Plan plan.Steps) None)
  fault m b Stop = unless (not (is_open m.stage)) (Plan plan.Open) None
  fault m b Report =
      unless (not (is_open m.stage)) (Plan plan.Open)
      (unless (is_finished m.stage) (Plan plan.Unfinished)
      (unless (nat_le (length (report m)) (length b)) (Plan plan.Buffer) None))

  -- what an accepted command answers and leaves
  abbrev pub effect : Model → List ℕ → Command → Reply
  effect m b (Load file) = reply Done (opened (map candidate (records_of file.now))) b
  effect m b (Add c) = reply Done (opened (inserted c m.tasks)) b
  effect m b (Drop id) = reply Done (opened (without id m.tasks)) b
  effect m b Start =
      reply Started (record { tasks = m.tasks; stage = started (length m.tasks) (first_of w m.tasks) }) b
  effect m b (Advance k) =
      let stage : Stage = advanced w m.tasks k m.stage in
      reply (Advanced (counted w m.tasks k m.stage) (is_finished stage)) (record { tasks = m.tasks; stage = stage }) b
  effect m b Stop = reply Done (opened m.tasks) b
  effect m b Report =
      let shown : ℕ × ℕ = w.prices.numbers (cost_of w m.tasks (best_of m.stage)) in
      reply (Reported (length (report m)) shown.0 shown.1) m (report m ++ drop (length (report m)) b)

  abbrev pub obey : Point → Command → Reply
  obey p c = decided (fault p.plan p.buffer c) p (effect p.plan p.buffer c)
