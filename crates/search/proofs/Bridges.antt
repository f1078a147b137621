-- The laws of a test and of a cost, as the theorems on the search ask for them.
use Rattle.std.proofs.Common.{◌≡◌, ℕ, Bool, List, map, length, get_or, ap, arith}
use Rattle.std.proofs.lemmas.List.{length-map}
use Rattle.tasks.specs.declared.task.Candidate.{Candidate}
use Rattle.tasks.specs.declared.task.Task.{Task}
use Rattle.tasks.specs.declared.task.Timing.{Timing}
use Rattle.tasks.specs.Tasks.{plain, timing_of}
use Rattle.tasks.specs.Timing.{timings, timed, Held}
use Rattle.response.specs.Tests as response
use Rattle.response.proofs.Demand.{tasks_legal}
use Rattle.costs.specs.Prices.{Prices, Lawful}
use Rattle.costs.specs.Folds.{no_task}
use Rattle.orders.specs.Orders.{Monotone}
use Rattle.orders.specs.Costs.{Laws}
use Rattle.orders.proofs.Firsts.{first_order_is_exact}
use Rattle.search.specs.Model.{priced, Admitted, FirstExact}

pub laws_of : {V : Type 0} (p : Prices V) → Lawful p → (held : List Candidate) → Laws (priced p held)
laws_of p laws held = record {
  total = laws.comparable;
  chain = laws.transitive;
  assoc = laws.associative;
  comm = laws.commutative;
  neutral = laws.neutral;
  rises = laws.keeps_no_more;
  later = λ i r s h. laws.later_no_less (get_or held i no_task).weight (get_or held i no_task).tier r s h;
}

pub monotone_of : (admits : Timing → Bool) (answer : response.Answers) → response.Monotone admits answer → (held : List Candidate)
    → Held admits (timings held) → Monotone (length held) (answer (timings held))
monotone_of admits answer mono held all i above part r low absent members smaller e =
    mono (timings held) i above part r all (omega (arith, length-map held timing_of)) smaller e

-- the tasks of a list are legal
pub held_of : (tasks : List Task) (admits : Timing → Bool) → Admitted admits (map plain tasks) → Held admits (timings (map plain tasks))
held_of tasks admits all i h =
    let many = length-map (map plain tasks) timing_of in
    (tasks_legal tasks i (omega (arith, length-map tasks plain)), all i (omega arith))

-- the first order is exact for admitted tasks
pub exact_of : {V : Type 0} (admits : Timing → Bool) (answer : response.Answers) → response.Monotone admits answer → (p : Prices V) (tasks : List Task)
    → Admitted admits (map plain tasks) → FirstExact answer p (map plain tasks)
exact_of admits answer mono p tasks all =
    let held = map plain tasks in
    first_order_is_exact _ (length held) (answer (timings held)) (priced p held) (monotone_of admits answer mono held (held_of tasks admits all))

-- what a test answers for the tasks of a slice
pub asked : (answer : response.Answers) (held slice : List Task) → slice ≡ held → (i above : ℕ)
    → answer (timed slice) i above ≡ answer (timings (map plain held)) i above
asked answer held slice same i above = ap (λ (ts : List Task). answer (timed ts) i above) same
