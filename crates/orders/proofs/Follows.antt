-- The search keeps the times of the ancestors of its vertices, and these are right: it follows the search over paths.
use Rattle.std.proofs.Common.{◌≡◌, ℕ, zero, suc, Bool, true, false, cond, eqb, List, [], ◌∷◌, ◌++◌, map, length, Some, None, Option, sym, refl, ap, ◌∙◌, subst, append_assoc, append-nil, arith}
use Rattle.std.proofs.lemmas.Option.{none-some}
use Rattle.std.specs.List.{AllByRecursion}
use Rattle.std.proofs.ByRecursion.{All-append}
use Rattle.std.proofs.lemmas.List.{map-append, length-map}
use Rattle.orders.specs.Orders.{word, unplaced, Test, Assignment, times}
use Rattle.orders.specs.Costs.{Cost, cost}
use Rattle.orders.specs.Search.{Vertex, State, nothing_placed, below, entering, begun, bound, better, branched, examined, examine, examine_active, steps}
use Rattle.orders.specs.Theorems.{SearchEnds, SearchIsOptimal, StackStaysSmall, OnlyOwnTaskLate}
use Rattle.orders.proofs.Levels.{Timed, timed_from, times_from, Split, split, answered_at}
use Rattle.orders.proofs.Steps.{all_over}
use Rattle.orders.proofs.Ends.{paths_end}
use Rattle.orders.proofs.Optimal.{paths_optimal}
use Rattle.orders.proofs.Stacks.{paths_few}
use Rattle.orders.proofs.Paths as paths

path : Vertex → paths.Path
path v = v.ancestors.order ++ (v.task ∷ [])

forget : State → paths.Paths
forget s = record { best = s.best; active = map path s.active }

-- ---- the times of a list and one task more

more : Option ℕ → List ℕ → Option (List ℕ)
more None ts = None
more (Some t) ts = Some (ts ++ (t ∷ []))

module _ (answer : Test) (i : ℕ) where
  timed_more : (above xs ts : List ℕ) (t : ℕ) → Timed answer above xs ts → answer i (word (above ++ xs)) ≡ Some t
      → Timed answer above (xs ++ (i ∷ [])) (ts ++ (t ∷ []))
  timed_more above [] [] t h e = (rw append-nil at e, tt)
  timed_more above [] (u ∷ ts) t h e = absurd h
  timed_more above (x ∷ xs) [] t h e = absurd h
  timed_more above (x ∷ xs) (u ∷ ts) t h e = (h.0, timed_more (above ++ (x ∷ [])) xs ts t h.1 (rw append_assoc e))

  late_more : (up : List ℕ) → answer i (word up) ≡ None → (o : Option (List ℕ)) → times answer (up ++ (i ∷ [])) ≡ o → o ≡ None
  late_more up h None e = refl
  late_more up h (Some ts) e = absurd (none-some at.0 (sym h ∙ at.1))
    where
      levels : Split answer [] up (i ∷ []) ts
      levels = split answer [] up (i ∷ []) ts (timed_from answer [] (up ++ (i ∷ [])) ts e)

      at : (t : ℕ) × (answer i (word up) ≡ Some t)
      at = answered_at answer up i [] levels.lower levels.timed_lower

  times_more : (up ts : List ℕ) → times answer up ≡ Some ts → (o : Option ℕ) → answer i (word up) ≡ o
      → times answer (up ++ (i ∷ [])) ≡ more o ts
  unfolding more
  times_more up ts e None q = late_more up q (times answer (up ++ (i ∷ []))) refl
  times_more up ts e (Some t) q =
      times_from answer [] (up ++ (i ∷ [])) (ts ++ (t ∷ [])) (timed_more [] up ts t (timed_from answer [] up ts e) q)

-- ---- one step

-- the ancestors of a vertex have their times
Timely : Test → Vertex → Type 0
Timely answer v = times answer v.ancestors.order ≡ Some v.ancestors.times

timely_enter : (n : ℕ) (answer : Test) (a : Assignment) → times answer a.order ≡ Some a.times → AllByRecursion (Timely answer) (entering n a)
unfolding Timely
timely_enter n answer a e = all_over (Timely answer) (λ i. record { ancestors = a; task = i }) (unplaced n a.order) (λ i h. e)

module _ {V : Type 0} (n : ℕ) (answer : Test) (c : Cost V) where
  -- a state and what it follows
  record Follows (s : State) (p : paths.Paths) : Type 0 where
    timely : AllByRecursion (Timely answer) s.active
    is : forget s ≡ p

  module _ (best : Assignment) (rest : List Vertex) (right : AllByRecursion (Timely answer) rest) where
    dropped : (b : Assignment) → Follows (record { best = b; active = rest }) (record { best = b; active = map path rest })
    unfolding forget
    dropped b = record { timely = right; is = refl }

    module _ (a : Assignment) (e : times answer a.order ≡ Some a.times) where
      entered : map path (entering n a ++ rest) ≡ paths.entering n a.order ++ map path rest
      unfolding path
      entered = map-append path (entering n a) rest ∙ ap (λ xs. xs ++ map path rest) (go (unplaced n a.order))
        where
          go : (is : List ℕ) → map path (map (λ i. record { ancestors = a; task = i }) is) ≡ map (λ i. a.order ++ (i ∷ [])) is
          go [] = refl
          go (i ∷ is) = ap (λ xs. (a.order ++ (i ∷ [])) ∷ xs) (go is)

      by_bound : (o : Option V) → Follows (branched n answer c best rest a o) (paths.branched n answer c best (map path rest) a.order o)
      unfolding forget
      by_bound None = dropped best
      by_bound (Some b) = go (c.no_more (cost c best.order best.times) b)
        where
          go : (t : Bool) → Follows (record { best = best; active = cond t rest (entering n a ++ rest) })
              (record { best = best; active = cond t (map path rest) (paths.entering n a.order ++ map path rest) })
          go true = dropped best
          go false = record {
            timely = All-append (Timely answer) (entering n a) rest (timely_enter n answer a e) right;
            is = ap (λ xs. record { best = best; active = xs }) entered;
          }

      by_level : (t : Bool)
          → Follows
          (cond t (record { best = better n answer c best a; active = rest }) (branched n answer c best rest a (bound n answer c a.order a.times)))
          (cond t (record { best = better n answer c best a; active = map path rest })
          (paths.branched n answer c best (map path rest) a.order (bound n answer c a.order a.times)))
      by_level true = dropped (better n answer c best a)
      by_level false = by_bound (bound n answer c a.order a.times)

    by_answer : (v : Vertex) → Timely answer v → (o : Option ℕ) → answer v.task (word v.ancestors.order) ≡ o
        → Follows (examined n answer c best rest v o) (paths.examined n answer c best (map path rest) (path v) (more o v.ancestors.times))
    unfolding more Timely path
    by_answer v h None q = dropped best
    by_answer v h (Some t) q =
        by_level (below v.ancestors v.task t) (times_more answer v.task v.ancestors.order v.ancestors.times h (Some t) q)
        (eqb (length (v.ancestors.order ++ (v.task ∷ []))) n)

  one_step : (best : Assignment) (active : List Vertex) → AllByRecursion (Timely answer) active
      → Follows (examine_active n answer c best active) (paths.examine_active n answer c best (map path active))
  unfolding forget Timely path
  one_step best [] h = record { timely = tt; is = refl }
  one_step best (v ∷ rest) h =
      let a = answer v.task (word v.ancestors.order) in
      let same = times_more answer v.task v.ancestors.order v.ancestors.times h.0 a refl in
      subst (λ o. Follows (examined n answer c best rest v a) (paths.examined n answer c best (map path rest) (path v) o)) (sym same)
      (by_answer best rest h.1 v h.0 a refl)

  all_steps : (k : ℕ) (s : State) → AllByRecursion (Timely answer) s.active → forget (steps n answer c k s) ≡ paths.steps n answer c k (forget s)
  unfolding forget
  all_steps zero s h = refl
  all_steps (suc k) s h =
      let one = one_step s.best s.active h in
      all_steps k (examine n answer c s) one.timely ∙ ap (paths.steps n answer c k) one.is

  steps_timely : (k : ℕ) (s : State) → AllByRecursion (Timely answer) s.active → AllByRecursion (Timely answer) (steps n answer c k s).active
  steps_timely zero s h = h
  steps_timely (suc k) s h = steps_timely k (examine n answer c s) (one_step s.best s.active h).timely

  from_begun : (first : Assignment) (k : ℕ) → forget (steps n answer c k (begun n first)) ≡ paths.steps n answer c k (paths.begun n first)
  unfolding forget
  from_begun first k =
      all_steps k (begun n first) (timely_enter n answer nothing_placed refl)
      ∙ ap (λ xs. paths.steps n answer c k (record { best = first; active = xs })) start
    where
      start : map path (entering n nothing_placed) ≡ paths.entering n []
      start = sym (append-nil (map path (entering n nothing_placed))) ∙ sym (map-append path (entering n nothing_placed) [])
          ∙ entered nothing_placed [] tt nothing_placed refl ∙ append-nil (paths.entering n [])

-- ---- the theorems

none_from : (vs : List Vertex) → map path vs ≡ [] → vs ≡ []
none_from [] e = refl
none_from (v ∷ vs) e = cc

pub search_ends : (V : Type 0) → SearchEnds V
unfolding forget
search_ends V n answer c first k h =
    none_from _ (ap (λ s. s.active) (from_begun n answer c first k) ∙ paths_end V n answer c first k h)

pub search_is_optimal : (V : Type 0) → SearchIsOptimal V
unfolding forget
search_is_optimal V n answer c mono laws first e k done =
    let same = from_begun n answer c first k in
    rw (ap (λ s. s.best) same) (paths_optimal V n answer c mono laws first e k (ap (λ s. s.active) (sym same) ∙ ap (map path) done))

pub stack_stays_small : (V : Type 0) → StackStaysSmall V
unfolding forget
stack_stays_small V n answer c first k =
    omega (
      arith,
      paths_few V n answer c first k,
      ap (λ s. length s.active) (from_begun n answer c first k),
      length-map (steps n answer c k (begun n first)).active path,
    )

only_more : (answer : Test) (i : ℕ) (up ts : List ℕ) → times answer up ≡ Some ts → times answer (up ++ (i ∷ [])) ≡ None
    → (o : Option ℕ) → answer i (word up) ≡ o → o ≡ None
unfolding more
only_more answer i up ts e h None q = refl
only_more answer i up ts e h (Some t) q = absurd (none-some (ts ++ (t ∷ [])) (sym h ∙ times_more answer i up ts e (Some t) q))

pub only_own_task_late : (V : Type 0) → OnlyOwnTaskLate V
unfolding Timely
only_own_task_late V n answer c first k v rest e = record {
  ancestors = kept;
  late = λ q. late_more answer v.task up q (times answer (up ++ (v.task ∷ []))) refl;
  only = λ q. only_more answer v.task up v.ancestors.times kept q (answer v.task (word up)) refl;
}
  where
    up : List ℕ
    up = v.ancestors.order

    kept : times answer v.ancestors.order ≡ Some v.ancestors.times
    kept = (subst (AllByRecursion (Timely answer)) e (steps_timely n answer c k (begun n first) (timely_enter n answer nothing_placed refl))).0
