-- What the named calls answer, where their commands answer an outcome.
use Rattle.std.specs.Prelude.{◌≡◌, ℕ, false, List, [], IfErr, Ok, Err, Result}
use Rattle.tasks.specs.declared.fault.Fault.{Fault}
use Rattle.law.specs.declared.command.Command.{Command}
use Rattle.law.specs.declared.command.Outcome.{Outcome}
use Rattle.law.specs.declared.command.Outcome.TheVariants.{Done, Started, Advanced, Reported as ReportedOutcome}
use Rattle.law.specs.Meaning.{Meaning}
use Rattle.law.specs.Obey.{obey}
use Rattle.search.specs.declared.progress.Progress.{Progress}
use Rattle.plan.specs.declared.answers.Reported.{Reported}
use Rattle.plan.specs.declared.plan.Plan.{Plan}
use Rattle.plan.specs.Calls.{at, Unchanged}
use Rattle.plan.specs.Model.{model}

abbrev pub answered : {A : Type 0} → (Outcome → A) → Result Outcome Fault → Result A Fault
answered f (Ok o) = Ok (f o)
answered f (Err e) = Err e

-- what a step of its own answer tells as an outcome
abbrev pub told : {A : Type 0} → (A → Outcome) → Result A Fault → Result Outcome Fault
told f (Ok a) = Ok (f a)
told f (Err e) = Err e

abbrev pub advanced : Progress ℕ → Outcome
advanced p = Advanced p.count p.finished

abbrev pub reported_outcome : Reported → Outcome
reported_outcome r = ReportedOutcome r.bytes r.first r.second

-- nothing but that it is done
abbrev pub done : Outcome → Unit {0}
done o = tt

-- how far an advance got
abbrev pub progress : Outcome → Progress ℕ
progress Done = record { count = 0; finished = false }
progress Started = record { count = 0; finished = false }
progress (Advanced count finished) = record { count = count; finished = finished }
progress (ReportedOutcome bytes first second) = record { count = 0; finished = false }

-- how much a report wrote, and the cost
abbrev pub reported : Outcome → Reported
reported Done = record { bytes = 0; first = 0; second = 0 }
reported Started = record { bytes = 0; first = 0; second = 0 }
reported (Advanced count finished) = record { bytes = 0; first = 0; second = 0 }
reported (ReportedOutcome bytes first second) = record { bytes = bytes; first = first; second = second }

module _ {T C V A : Type 0} (f : Outcome → A) (w : Meaning V) (command : Command) (before after : Plan T C) where
  -- a call that obeys a command: the answer, and the plan after it
  pub record Called (answer : Result A Fault) : Type 0 where
    pub answers : answer ≡ answered f (obey w (at before []) command).answer
    pub plans : model after ≡ (obey w (at before []) command).next.plan
    pub test : after.test ≡ before.test
    pub cost : after.cost ≡ before.cost
    pub same : IfErr answer (λ _. after ≡ before)

  -- the same with a buffer
  pub record CalledWith (old new : List ℕ) (answer : Result A Fault) : Type 0 where
    pub answers : answer ≡ answered f (obey w (at before old) command).answer
    pub leaves : at after new ≡ (obey w (at before old) command).next
    pub test : after.test ≡ before.test
    pub cost : after.cost ≡ before.cost
    pub same : IfErr answer (λ _. Unchanged before after old new)
