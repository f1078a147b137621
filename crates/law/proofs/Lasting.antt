-- While nothing that ends it is accepted, a search is as many steps on as its accepted advances add up to.
use Rattle.std.proofs.Common.{◌≡◌, ℕ, ◌+◌, ◌≤◌, true, false, cond, ◌&&◌, List, [], ◌∷◌, length, is_ok, sym, ap, ◌∙◌, subst, add-zero, add_assoc, arith}
use Rattle.std.proofs.lemmas.Bool.{true≢false, false≢true}
use Rattle.tasks.specs.declared.task.Candidate.{Candidate}
use Rattle.orders.specs.Orders.{Assignment}
use Rattle.orders.specs.Search.{vertices}
use Rattle.orders.proofs.Follows.{search_ends}
use Rattle.law.specs.declared.command.Command.{Command}
use Rattle.law.specs.declared.command.Command.TheVariants.{Load, Add, Drop, Start, Advance, Stop, Report}
use Rattle.law.specs.Meaning.{Meaning, answers, costs}
use Rattle.law.specs.Obey.{Model, is_finished, staged, Point, fault, effect, obey}
use Rattle.law.specs.Runs.{after, events, ends, by, Lasting, advances}
use Rattle.law.specs.Law.{FinishedAtTheVertexBound}
use Rattle.law.proofs.Faults.{decided_both}
use Rattle.law.proofs.Runs.{after_append}
use Rattle.law.proofs.Searched.{state, advanced_staged, start_accepted, start_searched}

module _ {V : Type 0} (w : Meaning V) where
  module _ (tasks : List Candidate) (first : Assignment) where
    -- the plan k vertices on
    abbrev on : ℕ → Model
    on k = record { tasks = tasks; stage = staged (state w tasks first k) }

    abbrev at : ℕ → List ℕ → Point
    at k b = record { plan = on k; buffer = b }

    step_lasts : (k : ℕ) (b : List ℕ) (c : Command) → (is_ok (obey w (at k b) c).answer && ends c) ≡ false
        → (obey w (at k b) c).next.plan ≡ on (k + cond (is_ok (obey w (at k b) c).answer) (by c) 0)
    step_lasts k b c =
        decided_both (fault w (on k) b c) (at k b) (effect w (on k) b c)
        (λ r. (is_ok r.answer && ends c) ≡ false → r.next.plan ≡ on (k + cond (is_ok r.answer) (by c) 0))
        (λ _. taken c) (λ f _. stays)
      where
        stays : on k ≡ on (k + 0)
        stays = ap on (sym (add-zero k))

        taken : (c : Command) → (is_ok (effect w (on k) b c).answer && ends c) ≡ false
            → (effect w (on k) b c).next.plan ≡ on (k + cond (is_ok (effect w (on k) b c).answer) (by c) 0)
        taken (Load file) h = absurd (true≢false h)
        taken (Add x) h = absurd (true≢false h)
        taken (Drop id) h = absurd (true≢false h)
        taken Start h = absurd (true≢false h)
        taken (Advance j) h = ap (λ s. record { tasks = tasks; stage = s }) (advanced_staged w tasks first k j)
        taken Stop h = absurd (true≢false h)
        taken Report h = stays

    lasts : (cs : List Command) (k : ℕ) (m : Model) (b : List ℕ) → m ≡ on k → Lasting (events w (record { plan = m; buffer = b }) cs)
        → (after w (record { plan = m; buffer = b }) cs).plan ≡ on (k + advances (events w (record { plan = m; buffer = b }) cs))
    lasts [] k m b e h = e ∙ ap on (sym (add-zero k))
    lasts (c ∷ cs) k m b e h =
        let P : Model → Type 0 = λ x. Lasting (events w (record { plan = x; buffer = b }) (c ∷ cs))
        → (after w (record { plan = x; buffer = b }) (c ∷ cs)).plan
        ≡ on (k + advances (events w (record { plan = x; buffer = b }) (c ∷ cs))) in
        subst P (sym e) (λ l. let r = obey w (at k b) c in
        lasts cs (k + cond (is_ok r.answer) (by c) 0) r.next.plan r.next.buffer (step_lasts k b c l.0) l.1
        ∙ ap on (add_assoc k (cond (is_ok r.answer) (by c) 0) (advances (events w r.next cs)))) h

    ended : (k : ℕ) → vertices (length tasks) ≤ k → is_finished (staged (state w tasks first k)) ≡ true
    ended k h = rw (search_ends V (length tasks) (answers w tasks) (costs w tasks) first k h)

  -- after a start
  started_ends : (q : Point) (during : List Command) → is_ok (obey w q Start).answer ≡ true
      → Lasting (events w (obey w q Start).next during)
      → vertices (length (after w (obey w q Start).next during).plan.tasks) ≤ advances (events w (obey w q Start).next during)
      → is_finished (after w (obey w q Start).next during).plan.stage ≡ true
  started_ends q during =
      decided_both (fault w q.plan q.buffer Start) q (effect w q.plan q.buffer Start)
      (λ r. is_ok r.answer ≡ true → Lasting (events w r.next during)
      → vertices (length (after w r.next during).plan.tasks) ≤ advances (events w r.next during)
      → is_finished (after w r.next during).plan.stage ≡ true)
      (λ e _ lasting enough.
      let tasks : List Candidate = q.plan.tasks in
      let a = start_accepted w q.plan q.buffer e in
      let s = start_searched w tasks a.0 a.1 in
      let next : Point = (effect w q.plan q.buffer Start).next in
      let reached : (after w next during).plan ≡ on tasks s.first (s.examined + advances (events w next during))
      = lasts tasks s.first during s.examined next.plan next.buffer
      (ap (λ x. record { tasks = tasks; stage = x }) s.is) lasting in
      let bound : vertices (length tasks) ≤ advances (events w next during) = rw (ap (λ m. vertices (length m.tasks)) reached) at enough in
      ap (λ m. is_finished m.stage) reached ∙ ended tasks s.first (s.examined + advances (events w next during)) (omega arith))
      (λ f ok. absurd (false≢true ok))

  pub finished_at_bound : (p : Point) (commands : List Command) → FinishedAtTheVertexBound w p commands
  finished_at_bound p commands earlier during e ok lasting enough =
      let q : Point = after w p earlier in
      let split : after w p commands ≡ after w (obey w q Start).next during = ap (after w p) e ∙ after_append w p earlier (Start ∷ during) in
      let bound : vertices (length (after w (obey w q Start).next during).plan.tasks) ≤ advances (events w (obey w q Start).next during)
      = subst (λ x. vertices (length x.plan.tasks) ≤ advances (events w (obey w q Start).next during)) split enough in
      ap (λ x. is_finished x.plan.stage) split ∙ started_ends q during ok lasting bound
