-- Lists of commands, and what follows from their answers.
use Rattle.std.specs.Prelude.{◌≡◌, ℕ, ◌+◌, Bool, true, false, cond, ◌&&◌, List, [], ◌∷◌, map, is_ok, Result}
use Rattle.std.specs.List.{AllByRecursion}
use Rattle.tasks.specs.declared.fault.Fault.{Fault}
use Rattle.tasks.specs.declared.task.Candidate.{Candidate}
use Rattle.tables.specs.Tables.{candidate, records_of}
use Rattle.law.specs.declared.command.Command.{Command}
use Rattle.law.specs.declared.command.Command.TheVariants.{Load, Add, Drop, Start, Advance, Stop, Report}
use Rattle.law.specs.declared.command.Outcome.{Outcome}
use Rattle.law.specs.Meaning.{Meaning}
use Rattle.law.specs.Held.{inserted, without}
use Rattle.law.specs.Obey.{Point, opened, obey}

-- a command with its answer
pub record Event : Type 0 where
  pub command : Command
  pub answer : Result Outcome Fault

-- a new plan is open and empty
abbrev pub new : List ℕ → Point
new buffer = record { plan = opened []; buffer = buffer }

module _ {V : Type 0} (w : Meaning V) where
  -- what there is after some commands
  abbrev pub after : Point → List Command → Point
  after p [] = p
  after p (c ∷ cs) = after (obey w p c).next cs

  abbrev pub events : Point → List Command → List Event
  events p [] = []
  events p (c ∷ cs) = record { command = c; answer = (obey w p c).answer } ∷ events (obey w p c).next cs

abbrev pub outcomes : List Event → List (Result Outcome Fault)
outcomes es = map (λ e. e.answer) es

-- a call that is not turned down is accepted
abbrev pub accepted : Event → Bool
accepted e = is_ok e.answer

-- the tasks held after an accepted command
abbrev pub changed : List Candidate → Command → List Candidate
changed tasks (Load file) = map candidate (records_of file.now)
changed tasks (Add c) = inserted c tasks
changed tasks (Drop id) = without id tasks
changed tasks Start = tasks
changed tasks (Advance k) = tasks
changed tasks Stop = tasks
changed tasks Report = tasks

-- the tasks held after some events, by the accepted loads, adds and drops alone
abbrev pub held : List Candidate → List Event → List Candidate
held tasks [] = tasks
held tasks (e ∷ es) = held (cond (accepted e) (changed tasks e.command) tasks) es

-- what ends a search when it is accepted
abbrev pub ends : Command → Bool
ends (Load file) = true
ends (Add c) = true
ends (Drop id) = true
ends Start = true
ends (Advance k) = false
ends Stop = true
ends Report = false

-- none of these was accepted
abbrev pub Lasting : List Event → Type 0
Lasting es = AllByRecursion (λ e. (accepted e && ends e.command) ≡ false) es

-- by how much a command advances
abbrev pub by : Command → ℕ
by (Load file) = 0
by (Add c) = 0
by (Drop id) = 0
by Start = 0
by (Advance k) = k
by Stop = 0
by Report = 0

-- the numbers of the accepted advances, added up
abbrev pub advances : List Event → ℕ
advances [] = 0
advances (e ∷ es) = cond (accepted e) (by e.command) 0 + advances es
