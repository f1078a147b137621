-- What a worker owes, from the fault and the effect of its command.
use Rattle.std.proofs.Common.{◌≡◌, ℕ, List, Some, None, Ok, Err, Result, sym, refl, ap, ◌∙◌, subst}
use Rattle.tasks.specs.declared.fault.Fault.{Fault}
use Rattle.law.specs.declared.command.Command.{Command}
use Rattle.law.specs.declared.command.Outcome.{Outcome}
use Rattle.law.specs.Meaning.{Meaning}
use Rattle.law.specs.Obey.{fault, effect, decided, Reply}
use Rattle.plan.specs.declared.plan.Plan.{Plan}
use Rattle.plan.specs.Calls.{at, Obeyed}
use Rattle.plan.specs.Model.{model}

module _ {T C V : Type 0} (w : Meaning V) (command : Command) (p : Plan T C) (b : List ℕ) where
  pub turned_down : (f : Fault) → fault w (model p) b command ≡ Some f → Obeyed w command p p b b (Err f)
  turned_down f e = record {
    reply = sym (ap (λ o. decided o (at p b) (effect w (model p) b command)) e);
    test = refl;
    cost = refl;
    same = (refl, refl);
  }

  pub accepted_in : (q : Plan T C) (b' : List ℕ) (o : Outcome) → fault w (model p) b command ≡ None
      → ◌≡◌ {A = Reply} (record { answer = Ok o; next = at q b' }) (effect w (model p) b command)
      → q.test ≡ p.test → q.cost ≡ p.cost → Obeyed w command p q b b' (Ok o)
  accepted_in q b' o e is t c = record {
    reply = is ∙ sym (ap (λ o. decided o (at p b) (effect w (model p) b command)) e);
    test = t;
    cost = c;
    same = tt;
  }

  pub accepted : (q : Plan T C) (o : Outcome) → fault w (model p) b command ≡ None
      → ◌≡◌ {A = Reply} (record { answer = Ok o; next = at q b }) (effect w (model p) b command)
      → q.test ≡ p.test → q.cost ≡ p.cost → Obeyed w command p q b b (Ok o)
  accepted q o e is t c = accepted_in q b o e is t c

-- what is owed at a command is owed at its equal
pub obeyed_as : {T C V : Type 0} {w : Meaning V} {c d : Command} {p q : Plan T C} {old left : List ℕ} {r : Result Outcome Fault} → c ≡ d
    → Obeyed w d p q old left r → Obeyed w c p q old left r
obeyed_as {w = w} {p = p} {q = q} {old = old} {left = left} {r = r} e o = subst (λ x. Obeyed w x p q old left r) (sym e) o
