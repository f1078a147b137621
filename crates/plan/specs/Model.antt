-- What a plan stands for.
use Rattle.tasks.specs.Lists.{plains}
use Rattle.tasks.specs.declared.admission.Admission as admission
use Rattle.response.specs.declared.test.ResponseTest as test
use Rattle.costs.specs.declared.cost.Cost as cost
use Rattle.orders.specs.Search as orders
use Rattle.search.specs.Model as search
use Rattle.law.specs.Meaning.{Meaning, meaning}
use Rattle.law.specs.Obey.{Model, Stage, open', searching, finished}
use Rattle.plan.specs.declared.plan.Plan.{Plan}
use Rattle.plan.specs.declared.state.State.{State}
use Rattle.plan.specs.declared.state.State.TheVariants.{Open, Searching, Finished}

abbrev pub stage : State → orders.State → Stage
stage Open s = open'
stage Searching s = searching s
stage Finished s = finished s.best

-- the held tasks as plain numbers, and the stage
abbrev pub model : {T C : Type 0} → Plan T C → Model
model p = record { tasks = plains p.tasks; stage = stage p.state (search.state p.search) }

-- the meaning of its test and of its cost
abbrev pub means : {T C V : Type 0} → admission.Ghosts T → test.Ghosts T → cost.Ghosts C V → Plan T C → Meaning V
means a t c p = meaning t.number (a.admitted p.test) (t.answer p.test) c.number (c.prices p.cost)
