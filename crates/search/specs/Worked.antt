-- The worked cases: the answers of the two tests, and the first order and the search under the one-job test and the sum.
use Rattle.std.specs.Prelude.{◌≡◌, ℕ, List, [], ◌∷◌, map, length, Some, None, Option, slice_index_or}
use Rattle.std.specs.Option.{option_map}
use Rattle.std.specs.List.{AllByRecursion}
use Rattle.tasks.specs.declared.task.Candidate.{Candidate}
use Rattle.tasks.specs.Timing.{timings}
use Rattle.response.specs.Tests.{one_job}
use Rattle.response.specs.Worked as response
use Rattle.costs.specs.Prices.{sum_prices}
use Rattle.costs.specs.Folds.{no_task}
use Rattle.orders.specs.Orders.{Assignment, times}
use Rattle.orders.specs.Costs.{cost}
use Rattle.orders.specs.Search.{State, begun, vertices}
use Rattle.search.specs.Model.{priced, worth, first_over, steps_over, stepped_over}

-- what a search from the first order comes to; orders by ids, level 1 first
pub record Outcome : Type 0 where
  pub first : List ℕ
  pub first_cost : ℕ
  -- how many vertices are examined until none is left, and how many the whole tree has
  pub examined : ℕ
  pub whole : ℕ
  pub best : List ℕ
  pub best_cost : ℕ

module _ (held : List Candidate) where
  abbrev ids : List ℕ → List ℕ
  ids order = map (λ i. (slice_index_or held i no_task).id) order

  abbrev searched : Assignment → State → Outcome
  searched first end = record {
    first = ids first.order;
    first_cost = worth (priced sum_prices held) first;
    examined = stepped_over one_job sum_prices held (vertices (length held)) (begun (length held) first);
    whole = vertices (length held);
    best = ids end.best.order;
    best_cost = worth (priced sum_prices held) end.best;
  }

  abbrev outcome_from : Option Assignment → Option Outcome
  outcome_from None = None
  outcome_from (Some first) = Some (searched first (steps_over one_job sum_prices held (vertices (length held)) (begun (length held) first)))

  -- the outcome, or none where no order passes
  abbrev pub outcome : Option Outcome
  outcome = outcome_from (first_over one_job sum_prices held)

  -- what an order costs, by positions; none where it fails at some level
  abbrev pub cost_of : List ℕ → Option ℕ
  cost_of order = option_map (cost (priced sum_prices held) order) (times (one_job (timings held)) order)

pub record Case : Type 0 where
  pub held : List Candidate
  pub outcome : Option Outcome

pub record OrderCase : Type 0 where
  pub held : List Candidate
  pub order : List ℕ
  pub cost : Option ℕ

abbrev task : ℕ → ℕ → ℕ → ℕ → Candidate
task id weight execution period = record { id = id; tier = 0; weight = weight; section = 0; execution = execution; deadline = period; period = period }

-- three tasks whose first order is not the cheapest
abbrev three : List Candidate
three = task 1 1 1 4 ∷ task 2 1 2 6 ∷ task 3 10 3 12 ∷ []

-- two tasks that load the processor beyond its whole time
abbrev full : List Candidate
full = task 1 1 2 3 ∷ task 2 1 2 4 ∷ []

-- two tasks that a rule by execution time alone would put in the dearer order: the shorter one above
abbrev pair : List Candidate
pair = task 1 5 2 3 ∷ task 2 1 1 4 ∷ []

abbrev pub cases : List Case
cases =
    record {
      held = three;
      outcome = Some (record {
        first = 2 ∷ 1 ∷ 3 ∷ [];
        first_cost = 105;
        examined = 10;
        whole = 15;
        best = 1 ∷ 2 ∷ 3 ∷ [];
        best_cost = 104;
      });
    }
    ∷ record { held = full; outcome = None }
    ∷ record {
      held = pair;
      outcome = Some (record { first = 1 ∷ 2 ∷ []; first_cost = 13; examined = 2; whole = 4; best = 1 ∷ 2 ∷ []; best_cost = 13 });
    }
    ∷ []

abbrev pub order_cases : List OrderCase
order_cases =
    record { held = three; order = 1 ∷ 0 ∷ 2 ∷ []; cost = Some 105 }
    ∷ record { held = three; order = 0 ∷ 1 ∷ 2 ∷ []; cost = Some 104 }
    ∷ record { held = full; order = 0 ∷ 1 ∷ []; cost = None }
    ∷ record { held = full; order = 1 ∷ 0 ∷ []; cost = None }
    ∷ record { held = pair; order = 0 ∷ 1 ∷ []; cost = Some 13 }
    ∷ record { held = pair; order = 1 ∷ 0 ∷ []; cost = Some 16 }
    ∷ []

pub record Worked : Type 0 where
  pub answers : response.Worked
  pub searches : AllByRecursion (λ c. outcome c.held ≡ c.outcome) cases
  pub orders : AllByRecursion (λ c. cost_of c.held c.order ≡ c.cost) order_cases
