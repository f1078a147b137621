-- An advance examines as many vertices as it says.
use Rattle.std.proofs.Common.{◌≡◌, ℕ, zero, suc, ◌<◌, ◌≤◌, true, leb, List, [], ◌∷◌, length, sym, refl, ap, subst, arith}
use Rattle.std.proofs.lemmas.Bool.{le-leb}
use Rattle.tasks.specs.declared.task.Candidate.{Candidate}
use Rattle.orders.specs.Orders.{Assignment}
use Rattle.orders.specs.Search.{Vertex, State, examine, stepped}
use Rattle.law.specs.declared.command.Command.TheVariants.{Advance}
use Rattle.law.specs.Meaning.{Meaning, answers, costs}
use Rattle.law.specs.Obey.{Stage, Model, searching, staged, Point, obey}
use Rattle.law.specs.Law.{AdvanceOf, AdvancesExactly}
use Rattle.orders.proofs.Runs.{steps_done}
use Rattle.law.proofs.Searched.{on}

module _ {V : Type 0} (w : Meaning V) (tasks : List Candidate) where
  record Counted (k : ℕ) (s : State) (c : ℕ) : Type 0 where
    at_most : c ≤ k
    fewer : c < k → (on w tasks c s).active ≡ []
    each : (j : ℕ) → j < c → 0 < length (on w tasks j s).active
    same : on w tasks k s ≡ on w tasks c s

  -- a state with a vertex left, and the next one
  module _ (best : Assignment) (v : Vertex) (vs : List Vertex) where
    abbrev now : State
    now = record { best = best; active = v ∷ vs }

    abbrev next : State
    next = examine (length tasks) (answers w tasks) (costs w tasks) now

    each_more : (c : ℕ) → ((j : ℕ) → j < c → 0 < length (on w tasks j next).active) → (j : ℕ) → j < suc c → 0 < length (on w tasks j now).active
    each_more c h zero l = omega arith
    each_more c h (suc j) l = h j (omega arith)

    counted_more : (k c : ℕ) → Counted k next c → Counted (suc k) now (suc c)
    counted_more k c h = record {
      at_most = omega (arith, h.at_most);
      fewer = λ l. h.fewer (omega arith);
      each = each_more c h.each;
      same = h.same;
    }

  abbrev count : ℕ → State → ℕ
  count k s = stepped (length tasks) (answers w tasks) (costs w tasks) k s

  counted : (k : ℕ) (best : Assignment) (active : List Vertex)
      → Counted k (record { best = best; active = active }) (count k (record { best = best; active = active }))
  counted zero best active = record { at_most = omega arith; fewer = λ h. absurd (omega arith); each = λ j h. absurd (omega arith); same = refl }
  counted (suc k) best [] = record { at_most = omega arith; fewer = λ h. refl; each = λ j h. absurd (omega arith); same = steps_done (length tasks) (answers w tasks) (costs w tasks) (suc k) (record { best = best; active = [] }) refl }
  counted (suc k) best (v ∷ vs) =
      let s : State = next best v vs in
      counted_more best v vs k (count k s) (counted k s.best s.active)

  abbrev Advances : Stage → List ℕ → ℕ → State → Type 0
  Advances stage buffer k s =
      let m : Model = record { tasks = tasks; stage = stage } in
      AdvanceOf w m s k (obey w (record { plan = m; buffer = buffer }) (Advance k))

  advance_of : (buffer : List ℕ) (k : ℕ) (s : State) → k ≤ 1000000 → Advances (searching s) buffer k s
  advance_of buffer k s h =
      let few : leb k 1000000 ≡ true = le-leb k 1000000 h in
      let c = counted k s.best s.active in
      rw few (record {
        count = count k s;
        at_most = c.at_most;
        fewer = c.fewer;
        each = c.each;
        answer = refl;
        plan = ap (λ x. record { tasks = tasks; stage = staged x }) c.same;
      })

pub advances_exactly : {V : Type 0} (w : Meaning V) (p : Point) → AdvancesExactly w p
advances_exactly w p s e k h =
    subst (λ x. Advances w p.plan.tasks x p.buffer k s) (sym e) (advance_of w p.plan.tasks p.buffer k s h)
