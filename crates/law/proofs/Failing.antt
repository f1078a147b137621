-- Start says that there is no order exactly when every order fails at some level.
use Rattle.std.proofs.Common.{◌≡◌, ℕ, Bool, true, false, not, ltb, List, [], ◌∷◌, ◌++◌, length, is_some, Some, None, Err, Option, refl, ap, ◌∙◌, append_assoc, append-nil}
use Rattle.std.proofs.lemmas.Bool.{true≢false, ltb-true, lt-ltb}
use Rattle.tasks.specs.declared.fault.Fault.TheVariants.{Plan}
use Rattle.tasks.specs.declared.fault.PlanFault.TheVariants.{Searching, NoTask, NoOrder}
use Rattle.tasks.specs.declared.task.Candidate.{Candidate}
use Rattle.tasks.specs.Faults.{unless}
use Rattle.tables.specs.Pairing.{Held}
use Rattle.orders.specs.Orders.{word, Order, Test, both, times_below, times, Assignment}
use Rattle.orders.specs.Theorems.{FirstOrderExact}
use Rattle.orders.proofs.Firsts.{first_order_is_exact}
use Rattle.law.specs.declared.command.Command.TheVariants.{Start}
use Rattle.law.specs.declared.command.Outcome.{Outcome}
use Rattle.law.specs.declared.command.Outcome.TheVariants.{Started}
use Rattle.law.specs.Meaning.{Meaning, Lawful, answers, costs}
use Rattle.law.specs.Obey.{Model, is_searching, first_of, Point, reply, effect, decided}
use Rattle.law.specs.Law.{Fails, NoOrderExactlyWhenNonePasses}
use Rattle.law.proofs.Laws.{monotone_held}

-- ---- an order fails at some level exactly when it has no times

module _ (answer : Test) where
  abbrev FailsBelow : List ℕ → List ℕ → Type 0
  FailsBelow above o =
      (higher : List ℕ) × (task : ℕ) × (lower : List ℕ) × (o ≡ higher ++ (task ∷ lower)) × (answer task (word (above ++ higher)) ≡ None)

  fails_below : (above o : List ℕ) → times_below answer above o ≡ None → FailsBelow above o
  fails_below above [] h = cc
  fails_below above (i ∷ is) h = go (answer i (word above)) refl (times_below answer (above ++ (i ∷ [])) is) (fails_below (above ++ (i ∷ [])) is) h
    where
      go : (x : Option ℕ) → answer i (word above) ≡ x → (y : Option (List ℕ)) → (y ≡ None → FailsBelow (above ++ (i ∷ [])) is)
          → both x y ≡ None → FailsBelow above (i ∷ is)
      go None e y f g = ([], i, is, refl, rw append-nil e)
      go (Some r) e None f g =
          let more = f refl in
          (i ∷ more.0, more.1, more.2, ap (λ l. i ∷ l) more.3, rw append_assoc at more.4)
      go (Some r) e (Some rs) f g = cc

  both_none : (x : Option ℕ) (y : Option (List ℕ)) → y ≡ None → both x y ≡ None
  both_none None y h = refl
  both_none (Some r) y h = rw h

  fails_none : (above higher : List ℕ) (task : ℕ) (lower : List ℕ) → answer task (word (above ++ higher)) ≡ None
      → times_below answer above (higher ++ (task ∷ lower)) ≡ None
  fails_none above [] task lower h =
      let e : answer task (word above) ≡ None = rw append-nil at h in
      rw e
  fails_none above (i ∷ higher) task lower h =
      both_none (answer i (word above)) _
      (fails_none (above ++ (i ∷ [])) higher task lower (rw append_assoc h))

  pub fails_from : (o : List ℕ) → times answer o ≡ None → Fails answer o
  fails_from o h =
      let f = fails_below [] o h in
      record { higher = f.0; task = f.1; lower = f.2; placed = f.3; late = f.4 }

  pub no_times : (o : List ℕ) → Fails answer o → times answer o ≡ None
  no_times o f = ap (times answer) f.placed ∙ fails_none [] f.higher f.task f.lower f.late

-- ---- what start says

said : (s t f : Bool) (p : Point) (o : Outcome) (m : Model) (b : List ℕ)
    → (decided (unless (not s) (Plan Searching) (unless t (Plan NoTask) (unless f (Plan NoOrder) None))) p (reply o m b)).answer ≡ Err (Plan NoOrder)
    → (s ≡ false) × (t ≡ true) × (f ≡ false)
said true t f p o m b h = cc
said false false f p o m b h = cc
said false true false p o m b h = (refl, refl, refl)
said false true true p o m b h = cc

says : (s t f : Bool) (p : Point) (o : Outcome) (m : Model) (b : List ℕ) → s ≡ false → t ≡ true → f ≡ false
    → (decided (unless (not s) (Plan Searching) (unless t (Plan NoTask) (unless f (Plan NoOrder) None))) p (reply o m b)).answer ≡ Err (Plan NoOrder)
says s t f p o m b d e g = rw (d, e, g)

none_from : (o : Option Assignment) → is_some o ≡ false → o ≡ None
none_from None h = refl
none_from (Some a) h = absurd (true≢false h)

module _ {V : Type 0} (w : Meaning V) (lawful : Lawful w) where
  module _ (tasks : List Candidate) (holds : Held w.admitted tasks) where
    exact : FirstOrderExact (length tasks) (answers w tasks) (costs w tasks)
    exact = first_order_is_exact V (length tasks) (answers w tasks) (costs w tasks) (monotone_held w lawful tasks holds)

    all_fail : first_of w tasks ≡ None → (o : List ℕ) → Order (length tasks) o → Fails (answers w tasks) o
    all_fail e o order = go (times (answers w tasks) o) refl
      where
        go : (ts : Option (List ℕ)) → times (answers w tasks) o ≡ ts → Fails (answers w tasks) o
        go None f = fails_from (answers w tasks) o f
        go (Some ts) f = absurd (exact.none_if e (record { order = o; times = ts }) (order, f))

    no_first : ((o : List ℕ) → Order (length tasks) o → Fails (answers w tasks) o) → first_of w tasks ≡ None
    no_first fail = exact.only_if (λ a passes. cc (passes.1, no_times (answers w tasks) a.order (fail a.order passes.0)))

  pub no_order : (p : Point) → Held w.admitted p.plan.tasks → NoOrderExactlyWhenNonePasses w p
  no_order p holds =
      let tasks : List Candidate = p.plan.tasks in
      let s : Bool = is_searching p.plan.stage in
      let t : Bool = ltb 0 (length tasks) in
      let f : Bool = is_some (first_of w tasks) in
      let next : Model = (effect w p.plan p.buffer Start).next.plan in
      record {
        said_only_then = λ e. let h = said s t f p Started next p.buffer e in record {
          idle = h.0;
          some = ltb-true 0 (length tasks) h.1;
          all_fail = all_fail tasks holds (none_from (first_of w tasks) h.2);
        };
        then_said = λ h.
            says s t f p Started next p.buffer h.idle (lt-ltb 0 (length tasks) h.some) (ap is_some (no_first tasks holds h.all_fail));
      }
