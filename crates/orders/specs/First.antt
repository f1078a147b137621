-- The first order: from the lowest level upward, each level takes the cheapest task that passes there.
use Rattle.std.specs.Prelude.{ℕ, zero, suc, cond, List, [], ◌∷◌, Some, None, Option}
use Rattle.orders.specs.Orders.{Test, Assignment, unplaced, word}
use Rattle.orders.specs.Costs.{Cost}

-- a task with its response time
pub record Choice : Type 0 where
  pub task : ℕ
  pub time : ℕ

-- a task and its answer, before another choice: the one of less cost, on a tie the task
abbrev pub cheaper : {V : Type 0} → Cost V → ℕ → Option ℕ → Option Choice → Option Choice
cheaper c i None other = other
cheaper c i (Some r) None = Some (record { task = i; time = r })
cheaper c i (Some r) (Some d) = Some (cond (c.no_more (c.of i r) (c.of d.task d.time)) (record { task = i; time = r }) d)

-- goes on from a choice, if there is one
abbrev pub from : Option Choice → (Choice → Option Assignment) → Option Assignment
from None f = None
from (Some d) f = f d

module _ {V : Type 0} (n : ℕ) (answer : Test) (c : Cost V) where
  -- among the listed tasks that are answered with all other tasks but the `lower` ones above, the one of least cost, on a
  -- tie the earlier
  abbrev pub cheapest : List ℕ → List ℕ → Option Choice
  cheapest lower [] = None
  cheapest lower (i ∷ is) = cheaper c i (answer i (word (unplaced n (i ∷ lower)))) (cheapest lower is)

  -- the k levels above those assigned already, from the lowest upward
  abbrev pub first_above : ℕ → Assignment → Option Assignment
  first_above zero a = Some a
  first_above (suc k) a =
      from (cheapest a.order (unplaced n a.order))
      (λ d. first_above k (record { order = d.task ∷ a.order; times = d.time ∷ a.times }))

  abbrev pub first_order : Option Assignment
  first_order = first_above n (record { order = []; times = [] })
