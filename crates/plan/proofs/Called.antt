-- A call from the command that it obeys.
use Rattle.std.proofs.Common.{◌≡◌, ℕ, List, [], IfErr, Ok, Err, Result, IsOkAnd, MatchResult, sym, refl, ap, ◌∙◌, subst}
use Rattle.tasks.specs.declared.fault.Fault.{Fault}
use Rattle.law.specs.declared.command.Command.{Command}
use Rattle.law.specs.declared.command.Outcome.{Outcome}
use Rattle.law.specs.Meaning.{Meaning}
use Rattle.plan.specs.declared.plan.Plan.{Plan}
use Rattle.plan.specs.Answers.{answered, told, Called}
use Rattle.plan.specs.Calls.{Obeyed, Unchanged}

-- a step whose answer was turned into an outcome by `map`
pub mapped : {A : Type 0} (g : A → Outcome) (x : Result A Fault) (r : Result Outcome Fault) {post : A → Outcome → Type 0}
    → MatchResult x (λ a. IsOkAnd r (post a)) (λ e. r ≡ Err e) → ((a : A) (o : Outcome) → post a o → o ≡ g a) → r ≡ told g x
mapped g (Ok a) (Ok o) h k = ap Ok (k a o h)
mapped g (Ok a) (Err e) h k = absurd h
mapped g (Err e) r h k = h

pub obeyed_mapped : {T C V : Type 0} {w : Meaning V} {command : Command} {p q : Plan T C} {old left : List ℕ} {r s : Result Outcome Fault} → r ≡ s
    → Obeyed w command p q old left s → Obeyed w command p q old left r
obeyed_mapped {w = w} {command = command} {p = p} {q = q} {old = old} {left = left} e o = subst (Obeyed w command p q old left) (sym e) o

refused_as : {A P Q : Type 0} (f : Outcome → A) (r : Result Outcome Fault) (x : Result A Fault) → x ≡ answered f r → (P → Q)
    → IfErr r (λ _. P) → IfErr x (λ _. Q)
refused_as {A} {P} {Q} f (Ok o) x e h s = subst (λ y. IfErr y (λ _. Q)) (sym e) tt
refused_as {A} {P} {Q} f (Err o) x e h s = subst (λ y. IfErr y (λ _. Q)) (sym e) (h s)

module _ {T C V A : Type 0} (f : Outcome → A) (w : Meaning V) (command : Command) (p q : Plan T C) where
  pub called : (left : List ℕ) (r : Result Outcome Fault) (x : Result A Fault) → Obeyed w command p q [] left r → x ≡ answered f r
      → Called f w command p q x
  called left r x o e = record {
    answers = e ∙ ap (λ y. answered f y.answer) o.reply;
    plans = ap (λ y. y.next.plan) o.reply;
    test = o.test;
    cost = o.cost;
    same = refused_as f r x e (λ (u : Unchanged p q [] left). u.0) o.same;
  }

  -- a step that tells its own answer, which the outcome gives back
  module _ (g : A → Outcome) (back : (a : A) → f (g a) ≡ a) where
    typed : (x : Result A Fault) → x ≡ answered f (told g x)
    typed (Ok a) = ap Ok (sym (back a))
    typed (Err e) = refl

    pub called_typed : (left : List ℕ) (x : Result A Fault) → Obeyed w command p q [] left (told g x) → Called f w command p q x
    called_typed left x o = called left (told g x) x o (typed x)
