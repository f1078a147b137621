-- What is proved of the first order and of the search.
use Rattle.std.specs.Prelude.{◌≡◌, ℕ, suc, ◌+◌, ◌*◌, ◌<◌, ◌≤◌, List, [], ◌∷◌, ◌++◌, length, Some, None, Option}
use Rattle.tasks.specs.Numbers.{sum_below}
use Rattle.orders.specs.Orders.{word, count, unplaced, Test, Monotone, Assignment, Passes, times}
use Rattle.orders.specs.Costs.{Cost, Laws, NoMore, cost}
use Rattle.orders.specs.First.{Choice, first_order}
use Rattle.orders.specs.Search.{Vertex, State, begun, steps, vertices, arrangements}

-- every order fails
abbrev pub HasNoOrder : ℕ → Test → Type 0
HasNoOrder n answer = (a : Assignment) → Passes n answer a → ⊥

-- the first order is none exactly if every order fails; and else it is an order that passes, with its times
pub record FirstOrderExact {V : Type 0} (n : ℕ) (answer : Test) (c : Cost V) : Type 0 where
  pub none_if : first_order n answer c ≡ None → HasNoOrder n answer
  pub only_if : HasNoOrder n answer → first_order n answer c ≡ None
  pub passes : (a : Assignment) → first_order n answer c ≡ Some a → Passes n answer a

abbrev pub FirstOrderIsExact : Type 0 → Type 0
FirstOrderIsExact V = (n : ℕ) (answer : Test) (c : Cost V) → Monotone n answer → FirstOrderExact n answer c

-- the answer to a task under all tasks but itself and the lower ones
abbrev pub under_others : ℕ → Test → List ℕ → ℕ → Option ℕ
under_others n answer lower i = answer i (word (unplaced n (i ∷ lower)))

-- above the lower tasks, a task is answered under all other unplaced ones; no other that is so answered costs less, and none
-- at the same cost has a smaller position
pub record LeastChoice {V : Type 0} (n : ℕ) (answer : Test) (c : Cost V) (lower : List ℕ) (d : Choice) : Type 0 where
  pub answered : under_others n answer lower d.task ≡ Some d.time
  pub least : (j s : ℕ) → j < n → count j lower ≡ 0 → under_others n answer lower j ≡ Some s
      → NoMore c (c.of d.task d.time) (c.of j s)
  pub smallest : (j s : ℕ) → j < n → count j lower ≡ 0 → under_others n answer lower j ≡ Some s
      → NoMore c (c.of j s) (c.of d.task d.time) → d.task ≤ j

-- each level of the first order has the least choice
abbrev pub FirstOrderGreedy : {V : Type 0} → ℕ → Test → Cost V → Type 0
FirstOrderGreedy n answer c = (a : Assignment) → first_order n answer c ≡ Some a
    → (upper lower : List ℕ) (i : ℕ) → a.order ≡ upper ++ (i ∷ lower)
    → (t : ℕ) × LeastChoice n answer c lower (record { task = i; time = t })

abbrev pub FirstOrderIsGreedy : Type 0 → Type 0
FirstOrderIsGreedy V = (n : ℕ) (answer : Test) (c : Cost V) → Laws c → FirstOrderGreedy n answer c

-- the state after k examined vertices, from a first order
abbrev pub StateAfter : (V : Type 0) → ℕ → Test → Cost V → Assignment → ℕ → State
StateAfter V n answer c first k = steps n answer c k (begun n first)

-- after V(n) vertices or more the active set is empty
abbrev pub SearchEnds : Type 0 → Type 0
SearchEnds V = (n : ℕ) (answer : Test) (c : Cost V) (first : Assignment) (k : ℕ) → vertices n ≤ k
    → (StateAfter V n answer c first k).active ≡ []

-- V(n) counts the vertices of the levels 1 to n
abbrev pub VerticesByLevel : Type 0
VerticesByLevel = (n : ℕ) → vertices n ≡ sum_below n (λ l. arrangements n (suc l))

-- a search that has ended has a passing order with its times, and every order that passes costs at least as much
pub record BestOrder {V : Type 0} (n : ℕ) (answer : Test) (c : Cost V) (best : Assignment) : Type 0 where
  pub passes : Passes n answer best
  pub least : (a : Assignment) → Passes n answer a → NoMore c (cost c best.order best.times) (cost c a.order a.times)

abbrev pub SearchIsOptimal : Type 0 → Type 0
SearchIsOptimal V = (n : ℕ) (answer : Test) (c : Cost V) → Monotone n answer → Laws c
    → (first : Assignment) → first_order n answer c ≡ Some first
    → (k : ℕ) → (StateAfter V n answer c first k).active ≡ []
    → BestOrder n answer c (StateAfter V n answer c first k).best

-- the active set never has more than n (n + 1) / 2 vertices
abbrev pub StackStaysSmall : Type 0 → Type 0
StackStaysSmall V = (n : ℕ) (answer : Test) (c : Cost V) (first : Assignment) (k : ℕ)
    → 2 * length (StateAfter V n answer c first k).active ≤ n * (n + 1)

-- the ancestors of a vertex pass with the times that it keeps, so of its levels only that of its own task can fail
pub record OwnTaskLate (answer : Test) (v : Vertex) : Type 0 where
  pub ancestors : times answer v.ancestors.order ≡ Some v.ancestors.times
  pub late : answer v.task (word v.ancestors.order) ≡ None → times answer (v.ancestors.order ++ (v.task ∷ [])) ≡ None
  pub only : times answer (v.ancestors.order ++ (v.task ∷ [])) ≡ None → answer v.task (word v.ancestors.order) ≡ None

-- so it is with the vertex that is examined next
abbrev pub OnlyOwnTaskLate : Type 0 → Type 0
OnlyOwnTaskLate V = (n : ℕ) (answer : Test) (c : Cost V) (first : Assignment) (k : ℕ) (v : Vertex) (rest : List Vertex)
    → (StateAfter V n answer c first k).active ≡ v ∷ rest → OwnTaskLate answer v
