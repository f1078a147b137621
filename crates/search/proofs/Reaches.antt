-- What holds of a search that has come from the first order.
use Rattle.std.proofs.Common.{◌≡◌, ℕ, ◌+◌, ◌≤◌, Bool, true, false, List, length, Some, None, Err, Option, Result, is_err, sym, refl, ap, ◌∙◌, subst}
use Rattle.std.proofs.lemmas.Bool.{false≢true}
use Rattle.tasks.specs.declared.fault.PlanFault.{PlanFault}
use Rattle.tasks.specs.declared.fault.PlanFault.TheVariants.{NoOrder}
use Rattle.tasks.specs.declared.task.Candidate.{Candidate}
use Rattle.tasks.specs.declared.task.Timing.{Timing}
use Rattle.tasks.specs.Timing.{timings, Held}
use Rattle.response.specs.Tests as response
use Rattle.costs.specs.Prices.{Prices, Lawful}
use Rattle.orders.specs.Orders.{Assignment}
use Rattle.orders.specs.Search.{State, begun, is_none, vertices}
use Rattle.orders.proofs.Follows.{search_ends, search_is_optimal}
use Rattle.orders.proofs.Runs.{steps_add, none_is}
use Rattle.search.specs.declared.search.Search.{Search}
use Rattle.search.specs.Model.{state, Started, priced, steps_over, Reached, BestOver}
use Rattle.search.proofs.Bridges.{laws_of, monotone_of}

module _ {V : Type 0} (answer : response.Answers) (prices : Prices V) (held : List Candidate) where
  pub reached_more : (k count : ℕ) (s t : State) → t ≡ steps_over answer prices held count s → Reached answer prices held k s
      → Reached answer prices held (k + count) t
  reached_more k count s t e r = (
    r.0,
    r.1,
    e ∙ ap (steps_over answer prices held count) r.2
        ∙ sym (steps_add (length held) (answer (timings held)) (priced prices held) k count (begun (length held) r.0)),
  )

  module _ (k : ℕ) (t : State) (r : Reached answer prices held k t) where
    pub reached_ends : (finished : Bool) → finished ≡ is_none t.active → vertices (length held) ≤ k → finished ≡ true
    reached_ends finished f h =
        f ∙ ap (λ u. is_none u.active) r.2
        ∙ ap is_none (search_ends V (length held) (answer (timings held)) (priced prices held) r.0 k h)

    pub reached_best : (admits : Timing → Bool) → response.Monotone admits answer → Lawful prices → Held admits (timings held)
        → (finished : Bool) → finished ≡ is_none t.active → finished ≡ true → BestOver answer prices held t.best
    reached_best admits mono laws all finished f done =
        subst (λ u. BestOver answer prices held u.best) (sym r.2)
        (search_is_optimal V (length held) (answer (timings held)) (priced prices held) (monotone_of admits answer mono held all)
        (laws_of prices laws held) r.0 r.1 k (ap (λ u. u.active) (sym r.2) ∙ none_is t.active (sym f ∙ done)))

-- ---- whether a search was started

-- what a search is that was refused
pub record Refused (o : Option Assignment) (answered : Result Unit PlanFault) (before after : Search) : Type 0 where
  pub no_first : o ≡ None
  pub fault : answered ≡ Err NoOrder
  pub same : after ≡ before

pub not_started : (o : Option Assignment) (n : ℕ) (answered : Result Unit PlanFault) (before after : Search) → is_err answered ≡ true
    → Started o n answered before after → Refused o answered before after
not_started None n answered before after e h = record { no_first = refl; fault = h.0; same = h.1 }
not_started (Some first) n answered before after e h = absurd (false≢true (sym (ap is_err h.0) ∙ e))

pub record Begun (o : Option Assignment) (n : ℕ) (s : Search) : Type 0 where
  pub first : Assignment
  pub is_first : o ≡ Some first
  pub size : s.size ≡ n
  pub is_begun : state s ≡ begun n first

pub was_started : (o : Option Assignment) (n : ℕ) (answered : Result Unit PlanFault) (before after : Search) → is_err answered ≡ false
    → Started o n answered before after → Begun o n after
was_started None n answered before after e h = absurd (false≢true (sym e ∙ ap is_err h.0))
was_started (Some first) n answered before after e h = record { first = first; is_first = refl; size = h.1; is_begun = h.2 }
