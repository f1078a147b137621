-- The law over every run of commands on a new plan.
use Rattle.std.specs.Prelude.{◌≡◌, ℕ, ◌*◌, ◌<◌, ◌≤◌, true, false, List, [], ◌∷◌, ◌++◌, length, take, drop, is_ok, None, Ok, Err, Result, slice_index, slice_index_or}
use Rattle.tasks.specs.declared.fault.Fault.{Fault}
use Rattle.tasks.specs.declared.fault.Fault.TheVariants.{Plan}
use Rattle.tasks.specs.declared.fault.PlanFault.TheVariants.{NoOrder}
use Rattle.tables.specs.Bits.{field}
use Rattle.tables.specs.Pairing.{Held}
use Rattle.tasks.specs.Timing.{timings}
use Rattle.costs.specs.Folds.{no_task}
use Rattle.orders.specs.Orders.{word, Order, Test, Assignment, Passes}
use Rattle.orders.specs.Costs.{NoMore}
use Rattle.orders.specs.Search.{State, steps, vertices}
use Rattle.machine.specs.Jobs.{Job, WorkloadOf}
use Rattle.machine.specs.Claims.{Named, TakesAtMost, levels as by_level}
use Rattle.law.specs.declared.command.Command.{Command}
use Rattle.law.specs.declared.command.Command.TheVariants.{Start, Advance, Report}
use Rattle.law.specs.declared.command.Outcome.{Outcome}
use Rattle.law.specs.declared.command.Outcome.TheVariants.{Advanced, Reported}
use Rattle.law.specs.Meaning.{Meaning, Lawful, answers, costs}
use Rattle.law.specs.Obey.{Model, searching, finished, staged, is_searching, is_finished, cost_of, Point, Reply, obey}
use Rattle.law.specs.Runs.{new, after, events, outcomes, held, Lasting, advances}

-- an order fails at a level: the task there is late with exactly the tasks of the higher levels above it
pub record Fails (answer : Test) (order : List ℕ) : Type 0 where
  pub higher : List ℕ
  pub task : ℕ
  pub lower : List ℕ
  pub placed : order ≡ higher ++ (task ∷ lower)
  pub late : answer task (word higher) ≡ None

-- the four bytes of a level hold an id and a response time
pub record LevelHolds (bytes : List ℕ) (task-id time : ℕ) : Type 0 where
  pub id : field bytes 0 6 ≡ task-id
  pub filler : field bytes 6 6 ≡ 0
  pub response : field bytes 12 20 ≡ time

module _ {V : Type 0} (w : Meaning V) where
  -- an order of the held tasks that passes at every level, with its response times
  abbrev pub Passing : Model → Assignment → Type 0
  Passing m a = Passes (length m.tasks) (answers w m.tasks) a

  -- the search when j vertices more have been examined
  abbrev pub StateOn : Model → State → ℕ → State
  StateOn m s j = steps (length m.tasks) (answers w m.tasks) (costs w m.tasks) j s

  -- a command that is turned down leaves the plan and the buffer as they were
  abbrev pub RefusalsLeaveAll : Point → Type 0
  RefusalsLeaveAll p = (c : Command) (f : Fault) → (obey w p c).answer ≡ Err f → (obey w p c).next ≡ p

  -- the plan is not searching and holds a task, and every order of the held tasks fails at some level
  pub record NonePasses (m : Model) : Type 0 where
    pub idle : is_searching m.stage ≡ false
    pub some : 0 < length m.tasks
    pub all_fail : (o : List ℕ) → Order (length m.tasks) o → Fails (answers w m.tasks) o

  -- start answers "no order" exactly then
  pub record NoOrderExactlyWhenNonePasses (p : Point) : Type 0 where
    pub said_only_then : (obey w p Start).answer ≡ Err (Plan NoOrder) → NonePasses p.plan
    pub then_said : NonePasses p.plan → (obey w p Start).answer ≡ Err (Plan NoOrder)

  -- an advance by k examines k vertices, each of which was left to examine, or fewer if none is left then
  pub record AdvanceOf (m : Model) (s : State) (k : ℕ) (r : Reply) : Type 0 where
    pub count : ℕ
    pub at_most : count ≤ k
    pub fewer : count < k → (StateOn m s count).active ≡ []
    pub each : (j : ℕ) → j < count → 0 < length (StateOn m s j).active
    pub answer : r.answer ≡ Ok (Advanced count (is_finished r.next.plan.stage))
    pub plan : r.next.plan ≡ record { tasks = m.tasks; stage = staged (StateOn m s count) }

  abbrev pub AdvancesExactly : Point → Type 0
  AdvancesExactly p = (s : State) → p.plan.stage ≡ searching s → (k : ℕ) → k ≤ 1000000 → AdvanceOf p.plan s k (obey w p (Advance k))

  -- a search that nothing accepted has ended is finished once the numbers of its accepted advances add up to the vertex bound
  abbrev pub FinishedAtTheVertexBound : Point → List Command → Type 0
  FinishedAtTheVertexBound p commands = (earlier during : List Command) → commands ≡ earlier ++ (Start ∷ during)
      → is_ok (obey w (after w p earlier) Start).answer ≡ true
      → Lasting (events w (obey w (after w p earlier) Start).next during)
      → vertices (length (after w p commands).plan.tasks) ≤ advances (events w (obey w (after w p earlier) Start).next during)
      → is_finished (after w p commands).plan.stage ≡ true

  -- a report of an order: the cost, and in four bytes for each level, highest first, the id and the response time; the plan and
  -- the bytes beyond are as they were
  pub record ReportOf (m : Model) (best : Assignment) (buffer : List ℕ) (r : Reply) : Type 0 where
    pub answer : (let shown : ℕ × ℕ = w.prices.numbers (cost_of w m.tasks best) in
        r.answer ≡ Ok (Reported (4 * length m.tasks) shown.0 shown.1))
    pub level : (l : ℕ) → l < length m.tasks
        → LevelHolds (take 4 (drop (4 * l) r.next.buffer))
        (slice_index_or m.tasks (slice_index best.order l) no_task).id (slice_index best.times l)
    pub beyond : drop (4 * length m.tasks) r.next.buffer ≡ drop (4 * length m.tasks) buffer
    pub size : length r.next.buffer ≡ length buffer
    pub plan : r.next.plan ≡ m

  -- an order that passes; every order that passes costs at least as much; and it is reported
  pub record CheapestReported (m : Model) (best : Assignment) : Type 0 where
    pub passes : Passing m best
    pub cheapest : (a : Assignment) → Passing m a → NoMore (costs w m.tasks) (cost_of w m.tasks best) (cost_of w m.tasks a)
    pub reported : (buffer : List ℕ) → 4 * length m.tasks ≤ length buffer
        → ReportOf m best buffer (obey w (record { plan = m; buffer = buffer }) Report)

  abbrev pub ReportsACheapestOrder : Model → Type 0
  ReportsACheapestOrder m = (best : Assignment) → m.stage ≡ finished best → CheapestReported m best

  -- where the test is one of the two named ones, every job of every level of the reported order ends on the tick machine, and
  -- takes no longer than the level's response time, whatever jobs the tasks release
  abbrev pub KeepsItsTimes : Model → Type 0
  KeepsItsTimes m = Named w.admitted w.answer → (best : Assignment) → m.stage ≡ finished best
      → (workload : List (List Job)) (level : ℕ) → WorkloadOf (by_level (timings m.tasks) best.order) workload
      → level < length m.tasks
      → TakesAtMost (by_level (timings m.tasks) best.order) workload level (slice_index best.times level)

  -- the held tasks follow from the accepted loads, adds and drops alone, and are such as a plan can hold
  pub record HoldsWhatWasAccepted (p : Point) (commands : List Command) : Type 0 where
    pub follows : (after w p commands).plan.tasks ≡ held p.plan.tasks (events w p commands)
    pub sound : Held w.admitted (after w p commands).plan.tasks

  -- what holds when some commands have been given to a new plan
  pub record Promises (buffer : List ℕ) (commands : List Command) : Type 0 where
    pub refusals : RefusalsLeaveAll (after w (new buffer) commands)
    pub no_order : NoOrderExactlyWhenNonePasses (after w (new buffer) commands)
    pub advances : AdvancesExactly (after w (new buffer) commands)
    pub finished : FinishedAtTheVertexBound (new buffer) commands
    pub reports : ReportsACheapestOrder (after w (new buffer) commands).plan
    pub keeps : KeepsItsTimes (after w (new buffer) commands).plan
    pub holds : HoldsWhatWasAccepted (new buffer) commands

  -- at every point of a run
  abbrev pub PromisesThroughout : List ℕ → List Command → Type 0
  PromisesThroughout buffer commands = (before rest : List Command) → commands ≡ before ++ rest → Promises buffer before

  -- a run of some commands on a new plan: its answers, its plan and its buffer, and what holds at every point of it
  pub record Ran (buffer : List ℕ) (commands : List Command) (answers : List (Result Outcome Fault)) (plan : Model) (left : List ℕ)
      : Type 0 where
    pub answered : answers ≡ outcomes (events w (new buffer) commands)
    pub planned : plan ≡ (after w (new buffer) commands).plan
    pub written : left ≡ (after w (new buffer) commands).buffer
    pub promised : PromisesThroughout buffer commands

-- for every test and every cost with the laws
abbrev pub EveryRunKeepsThePromises : Type 0 → Type 0
EveryRunKeepsThePromises V =
    (w : Meaning V) → Lawful w → (buffer : List ℕ) (commands : List Command) → PromisesThroughout w buffer commands
