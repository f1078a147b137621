-- What a call owes.
use Rattle.std.specs.Prelude.{◌≡◌, ℕ, List, IfErr, Result}
use Rattle.tasks.specs.declared.fault.Fault.{Fault}
use Rattle.law.specs.declared.command.Command.{Command}
use Rattle.law.specs.declared.command.Outcome.{Outcome}
use Rattle.law.specs.Meaning.{Meaning}
use Rattle.law.specs.Obey.{Point, obey}
use Rattle.plan.specs.declared.plan.Plan.{Plan}
use Rattle.plan.specs.Model.{model}

module _ {T C : Type 0} where
  -- a plan with the buffer for its reports
  abbrev pub at : Plan T C → List ℕ → Point
  at p buffer = record { plan = model p; buffer = buffer }

  -- a call that is turned down leaves the whole plan and the buffer as they were
  abbrev pub Unchanged : Plan T C → Plan T C → List ℕ → List ℕ → Type 0
  Unchanged before after old new = (after ≡ before) × (new ≡ old)

  -- a command is obeyed: the answer, the plan after it and the buffer after it are the defined ones; the plan keeps its test and
  -- its cost
  pub record Obeyed {V : Type 0} (w : Meaning V) (command : Command) (before after : Plan T C) (old new : List ℕ) (answer : Result Outcome Fault)
      : Type 0 where
    pub reply : record { answer = answer; next = at after new } ≡ obey w (at before old) command
    pub test : after.test ≡ before.test
    pub cost : after.cost ≡ before.cost
    pub same : IfErr answer (λ _. Unchanged before after old new)

  -- a command that writes nothing is obeyed whatever the buffer holds
  abbrev pub Served : {V : Type 0} → Meaning V → Command → Plan T C → Plan T C → Result Outcome Fault → Type 0
  Served w command before after answer = (b : List ℕ) → Obeyed w command before after b b answer
