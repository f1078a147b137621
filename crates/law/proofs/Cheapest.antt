-- A finished plan reports a cheapest order, and its times are kept.
use Rattle.std.proofs.Common.{◌≡◌, ℕ, ◌*◌, ◌≤◌, true, leb, ◌⊎◌, List, [], ◌∷◌, length, drop, sym, refl, ◌∙◌, subst, inl, inr, arith, length-append, length-drop, drop_at}
use Rattle.std.proofs.lemmas.Bool.{le-leb}
use Rattle.tasks.specs.declared.task.Candidate.{Candidate}
use Rattle.tasks.specs.declared.task.Timing.{Timing}
use Rattle.tables.specs.Pairing.{Held}
use Rattle.tasks.specs.Timing.{timings}
use Rattle.machine.proofs.Keeps.{named_kept}
use Rattle.orders.specs.Orders.{Assignment, Passes}
use Rattle.orders.specs.Search.{Vertex, State}
use Rattle.orders.specs.Theorems.{BestOrder}
use Rattle.orders.proofs.Counts.{length_order}
use Rattle.orders.proofs.Levels.{timed_from}
use Rattle.orders.proofs.Follows.{search_is_optimal}
use Rattle.law.specs.declared.command.Command.TheVariants.{Report}
use Rattle.law.specs.Meaning.{Meaning, Lawful, answers, costs}
use Rattle.law.specs.Obey.{Stage, open', finished, Model, staged_by, obey}
use Rattle.law.specs.Law.{ReportOf, ReportsACheapestOrder, KeepsItsTimes}
use Rattle.law.proofs.Searched.{state, Searched, Reached}
use Rattle.law.proofs.Laws.{length_timings, timings_held, monotone_held, laws_held}
use Rattle.law.proofs.Reading.{bytes, Fitting, fitting, length_bytes, level_at}

-- ---- what a report gives

module _ {V : Type 0} (w : Meaning V) (lawful : Lawful w) (tasks : List Candidate) (held : Held w.admitted tasks) (best : Assignment)
    (passes : Passes (length tasks) (answers w tasks) best) where
  fits : Fitting tasks best.order best.times
  fits = fitting w lawful tasks held [] best.order best.times passes.0 (timed_from (answers w tasks) [] best.order best.times passes.1)

  same : length best.order ≡ length tasks
  same = length_order (length tasks) best.order passes.0

  size : length (bytes tasks best.order best.times) ≡ 4 * length tasks
  size = omega (arith, length_bytes tasks best.order best.times fits, same)

  abbrev Reports : Stage → List ℕ → Type 0
  Reports stage buffer =
      let m : Model = record { tasks = tasks; stage = stage } in
      ReportOf w m best buffer (obey w (record { plan = m; buffer = buffer }) Report)

  report_of : (buffer : List ℕ) → 4 * length tasks ≤ length buffer → Reports (finished best) buffer
  report_of buffer h =
      let room : leb (4 * length tasks) (length buffer) ≡ true = le-leb (4 * length tasks) (length buffer) h in
      rw (size, room) (record {
        answer = refl;
        level = λ l b. level_at tasks best.order best.times (drop (4 * length tasks) buffer) fits l (omega (arith, same));
        beyond = drop_at (bytes tasks best.order best.times) (drop (4 * length tasks) buffer) (4 * length tasks) size;
        size = omega (arith, length-append (bytes tasks best.order best.times) (drop (4 * length tasks) buffer), length-drop (4 * length tasks) buffer, size);
        plan = refl;
      })

  reported : (stage : Stage) → stage ≡ finished best → (buffer : List ℕ) → 4 * length tasks ≤ length buffer → Reports stage buffer
  reported stage e buffer h = subst (λ s. Reports s buffer) (sym e) (report_of buffer h)

-- ---- a finished search has no vertex left

ended : (active : List Vertex) (s : State) (best : Assignment) → staged_by active s ≡ finished best → (active ≡ []) × (s.best ≡ best)
ended [] s best h = (refl, cc)
ended (v ∷ vs) s best h = cc

module _ {V : Type 0} (w : Meaning V) (lawful : Lawful w) where
  best_found : (tasks : List Candidate) (stage : Stage) (best : Assignment) → Held w.admitted tasks → stage ≡ finished best
      → (stage ≡ open') ⊎ Searched w tasks stage → BestOrder (length tasks) (answers w tasks) (costs w tasks) best
  best_found tasks stage best held e (inl o) = cc
  best_found tasks stage best held e (inr s) =
      let last : State = state w tasks s.first s.examined in
      let h = ended last.active last best (sym s.is ∙ e) in
      subst (BestOrder (length tasks) (answers w tasks) (costs w tasks)) h.1
      (search_is_optimal V (length tasks) (answers w tasks) (costs w tasks) (monotone_held w lawful tasks held) (laws_held w lawful tasks)
      s.first s.found s.examined h.0)

  pub cheapest : (m : Model) → Reached w m → ReportsACheapestOrder w m
  cheapest m h best e =
      let found = best_found m.tasks m.stage best h.sound e h.sought in
      record {
        passes = found.passes;
        cheapest = found.least;
        reported = reported w lawful m.tasks h.sound best found.passes m.stage e;
      }

  pub keeps_its_times : (m : Model) → Reached w m → KeepsItsTimes w m
  keeps_its_times m h named best e workload l released below =
      let ts : List Timing = timings m.tasks in
      let passes = (best_found m.tasks m.stage best h.sound e h.sought).passes in
      (named_kept w.admitted w.answer named).when_passing ts best workload l (timings_held w.admitted m.tasks h.sound)
      (subst (λ n. Passes n (w.answer ts) best) (sym (length_timings m.tasks)) passes)
      released (omega (arith, length_order (length m.tasks) best.order passes.0))
