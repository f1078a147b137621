-- A plan that was reached by commands: its tasks can be held, and a search is some steps on from a first order.
use Rattle.std.proofs.Common.{◌≡◌, ℕ, ◌+◌, ◌<◌, true, not, ltb, ◌⊎◌, List, [], ◌∷◌, length, is_some, Some, None, Option, sym, refl, ap, ◌∙◌, inl, inr, arith}
use Rattle.std.specs.Option.{option_map}
use Rattle.std.proofs.lemmas.List.{length-map}
use Rattle.std.proofs.lemmas.Bool.{false≢true, ltb-true, not-true}
use Rattle.tasks.specs.declared.fault.Fault.TheVariants.{Task, Plan}
use Rattle.tasks.specs.declared.fault.TaskFault.TheVariants.{NotAdmitted}
use Rattle.tasks.specs.declared.fault.PlanFault.TheVariants as plan
use Rattle.tasks.specs.declared.task.Candidate.{Candidate}
use Rattle.tables.specs.Pairing.{Held}
use Rattle.tasks.specs.Tasks.{task_fault, timing_of}
use Rattle.tables.proofs.Pairing.{unless_none, first_none, mapped_none, table_held}
use Rattle.orders.specs.Orders.{unplaced, Assignment}
use Rattle.orders.specs.Search.{Vertex, State, nothing_placed, entering, begun, steps}
use Rattle.orders.proofs.Counts.{front_nothing, length_unplaced}
use Rattle.orders.proofs.Runs.{steps_add, steps_done}
use Rattle.law.specs.declared.command.Command.{Command}
use Rattle.law.specs.declared.command.Command.TheVariants.{Load, Add, Drop, Start, Advance, Stop, Report}
use Rattle.law.specs.Meaning.{Meaning, answers, costs}
use Rattle.law.specs.Held.{has, inserted}
use Rattle.law.specs.Obey.{Stage, open', searching, Model, is_open, is_searching, staged, staged_by, started, first_of, advanced, Point, fault, effect, obey}
use Rattle.law.specs.Runs.{after}
use Rattle.law.proofs.Faults.{decided_both}
use Rattle.law.proofs.Holding.{add_held, drop_held}

module _ {V : Type 0} (w : Meaning V) (tasks : List Candidate) where
  -- the state of the search k vertices on
  abbrev pub state : Assignment → ℕ → State
  state first k = steps (length tasks) (answers w tasks) (costs w tasks) k (begun (length tasks) first)

  abbrev pub on : ℕ → State → State
  on k s = steps (length tasks) (answers w tasks) (costs w tasks) k s

  advanced_by : (k : ℕ) (best : Assignment) (active : List Vertex)
      → advanced w tasks k (staged (record { best = best; active = active })) ≡ staged (on k (record { best = best; active = active }))
  advanced_by k best [] = sym (ap staged (steps_done (length tasks) (answers w tasks) (costs w tasks) k (record { best = best; active = [] }) refl))
  advanced_by k best (v ∷ vs) = refl

  -- an advance by k is k steps
  pub advanced_staged : (first : Assignment) (j k : ℕ) → advanced w tasks k (staged (state first j)) ≡ staged (state first (j + k))
  advanced_staged first j k =
      advanced_by k (state first j).best (state first j).active
      ∙ ap staged (sym (steps_add (length tasks) (answers w tasks) (costs w tasks) j k (begun (length tasks) first)))

  searches : (active : List Vertex) (s : State) → 0 < length active → staged_by active s ≡ searching s
  searches [] s h = absurd (omega arith)
  searches (v ∷ vs) s h = refl

  begun_searches : (first : Assignment) → 0 < length tasks → staged (state first 0) ≡ searching (begun (length tasks) first)
  begun_searches first h =
      let n : ℕ = length tasks in
      searches (entering n nothing_placed) (begun n first)
      (omega (arith, length-map (unplaced n []) vertex, length_unplaced n [] (front_nothing n)))
    where
      vertex : ℕ → Vertex
      vertex i = record { ancestors = nothing_placed; task = i }

  -- some steps on from a first order
  pub record Searched (stage : Stage) : Type 0 where
    pub first : Assignment
    pub found : first_of w tasks ≡ Some first
    pub examined : ℕ
    pub is : stage ≡ staged (state first examined)

  pub start_searched : 0 < length tasks → is_some (first_of w tasks) ≡ true → Searched (started (length tasks) (first_of w tasks))
  start_searched h = go (first_of w tasks) refl
    where
      go : (o : Option Assignment) → first_of w tasks ≡ o → is_some o ≡ true → Searched (started (length tasks) o)
      go None e f = absurd (false≢true f)
      go (Some first) e f = record { first = first; found = e; examined = 0; is = sym (begun_searches first h) }

-- why a start is accepted
pub start_accepted : {V : Type 0} (w : Meaning V) (m : Model) (b : List ℕ) → fault w m b Start ≡ None
    → (0 < length m.tasks) × (is_some (first_of w m.tasks) ≡ true)
start_accepted w m b e =
    let p = unless_none (not (is_searching m.stage)) (Plan plan.Searching) _ e in
    let q = unless_none (ltb 0 (length m.tasks)) (Plan plan.NoTask) _ p.1 in
    let r = unless_none (is_some (first_of w m.tasks)) (Plan plan.NoOrder) None q.1 in
    (ltb-true 0 (length m.tasks) q.0, r.0)

module _ {V : Type 0} (w : Meaning V) where
  pub record Reached (m : Model) : Type 0 where
    pub sound : Held w.admitted m.tasks
    pub sought : (m.stage ≡ open') ⊎ Searched w m.tasks m.stage

  advance_sought : (tasks : List Candidate) (stage : Stage) (k : ℕ) → not (is_open stage) ≡ true
      → (stage ≡ open') ⊎ Searched w tasks stage → Searched w tasks (advanced w tasks k stage)
  advance_sought tasks stage k h (inl e) = absurd (false≢true (sym (ap (λ s. not (is_open s)) e) ∙ h))
  advance_sought tasks stage k h (inr s) = record {
    first = s.first;
    found = s.found;
    examined = s.examined + k;
    is = ap (advanced w tasks k) s.is ∙ advanced_staged w tasks s.first s.examined k;
  }

  add_reached : (m : Model) (b : List ℕ) (c : Candidate) → fault w m b (Add c) ≡ None → Held w.admitted m.tasks
      → Held w.admitted (inserted c m.tasks)
  add_reached m b c e s =
      let p = unless_none (not (is_searching m.stage)) (Plan plan.Searching) _ e in
      let q = first_none (option_map Task (task_fault 0 c)) _ p.1 in
      let r = unless_none (w.admitted (timing_of c)) (Task (NotAdmitted 0)) _ q.1 in
      let t = unless_none (not (has c.id m.tasks)) (Plan (plan.Order 0)) _ r.1 in
      let u = unless_none (ltb (length m.tasks) 16) (Plan plan.Full) None t.1 in
      add_held w.admitted c m.tasks (mapped_none (task_fault 0 c) q.0) r.0 (not-true (has c.id m.tasks) t.0)
      (ltb-true (length m.tasks) 16 u.0) s

  reached_step : (p : Point) (c : Command) → Reached p.plan → Reached (obey w p c).next.plan
  reached_step p c h =
      decided_both (fault w p.plan p.buffer c) p (effect w p.plan p.buffer c) (λ r. Reached r.next.plan) (taken c) (λ f. h)
    where
      taken : (c : Command) → fault w p.plan p.buffer c ≡ None → Reached (effect w p.plan p.buffer c).next.plan
      taken (Load file) e = record {
        sound = table_held w.admitted w.test_code w.cost_code file.now
            (unless_none (not (is_searching p.plan.stage)) (Plan plan.Searching) _ e).1;
        sought = inl refl;
      }
      taken (Add x) e = record { sound = add_reached p.plan p.buffer x e h.sound; sought = inl refl }
      taken (Drop id) e = record { sound = drop_held w.admitted id p.plan.tasks h.sound; sought = inl refl }
      taken Start e =
          let s = start_accepted w p.plan p.buffer e in
          record { sound = h.sound; sought = inr (start_searched w p.plan.tasks s.0 s.1) }
      taken (Advance k) e = record {
        sound = h.sound;
        sought = inr (advance_sought p.plan.tasks p.plan.stage k
            (unless_none (not (is_open p.plan.stage)) (Plan plan.Open) _ e).0 h.sought);
      }
      taken Stop e = record { sound = h.sound; sought = inl refl }
      taken Report e = h

  pub reached : (p : Point) (cs : List Command) → Reached p.plan → Reached (after w p cs).plan
  reached p [] h = h
  reached p (c ∷ cs) h = reached (obey w p c).next cs (reached_step p c h)
