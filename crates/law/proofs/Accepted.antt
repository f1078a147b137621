-- The held tasks follow from the accepted loads, adds and drops, and what is turned down leaves all as it was.
use Rattle.std.proofs.Common.{◌≡◌, true, cond, List, [], ◌∷◌, is_ok, Err, sym, refl, ap, ◌∙◌}
use Rattle.std.proofs.lemmas.Bool.{true≢false}
use Rattle.law.specs.declared.command.Command.{Command}
use Rattle.law.specs.declared.command.Command.TheVariants.{Load, Add, Drop, Start, Advance, Stop, Report}
use Rattle.law.specs.Meaning.{Meaning}
use Rattle.law.specs.Obey.{Point, fault, effect, obey}
use Rattle.law.specs.Runs.{after, events, changed, held}
use Rattle.law.specs.Law.{RefusalsLeaveAll}
use Rattle.law.proofs.Faults.{decided_both}

module _ {V : Type 0} (w : Meaning V) where
  changed_by : (p : Point) (c : Command) → (effect w p.plan p.buffer c).next.plan.tasks ≡ changed p.plan.tasks c
  changed_by p (Load file) = refl
  changed_by p (Add x) = refl
  changed_by p (Drop id) = refl
  changed_by p Start = refl
  changed_by p (Advance k) = refl
  changed_by p Stop = refl
  changed_by p Report = refl

  accepts : (p : Point) (c : Command) → is_ok (effect w p.plan p.buffer c).answer ≡ true
  accepts p (Load file) = refl
  accepts p (Add x) = refl
  accepts p (Drop id) = refl
  accepts p Start = refl
  accepts p (Advance k) = refl
  accepts p Stop = refl
  accepts p Report = refl

  pub refusals_leave_all : (p : Point) → RefusalsLeaveAll w p
  refusals_leave_all p c f =
      decided_both (fault w p.plan p.buffer c) p (effect w p.plan p.buffer c) (λ r. r.answer ≡ Err f → r.next ≡ p)
      (λ _ e. absurd (true≢false (sym (accepts p c) ∙ ap is_ok e))) (λ _ _. refl)

  step_follows : (p : Point) (c : Command)
      → (obey w p c).next.plan.tasks ≡ cond (is_ok (obey w p c).answer) (changed p.plan.tasks c) p.plan.tasks
  step_follows p c =
      decided_both (fault w p.plan p.buffer c) p (effect w p.plan p.buffer c)
      (λ r. r.next.plan.tasks ≡ cond (is_ok r.answer) (changed p.plan.tasks c) p.plan.tasks)
      (λ _. rw (accepts p c) (changed_by p c)) (λ f. refl)

  pub follows : (p : Point) (cs : List Command) → (after w p cs).plan.tasks ≡ held p.plan.tasks (events w p cs)
  follows p [] = refl
  follows p (c ∷ cs) =
      follows (obey w p c).next cs ∙ ap (λ tasks. held tasks (events w (obey w p c).next cs)) (step_follows p c)
