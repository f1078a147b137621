use Rattle.std.proofs.Common.{rules, tests}
use Rattle.law.specs.declared.command.Outcome.TheVariants.{Done, Started}
use Rattle.plan.specs.Answers.{advanced}
use Rattle.plan.proofs.Called.{mapped, obeyed_mapped}
use Rattle.plan.proofs.Replies.{obeyed_as}
use Rattle.plan.proofs.plan.Plan.act.Goals as goal

pub returns-in-Open-Load : goal.returns-in-Open-Load
returns-in-Open-Load g c =
    let told = mapped (λ _. Done) c.replace_tasks.result c.map-in-Open-Load.result c.map-in-Open-Load.ensures.cases (λ a o k. search (rules, tests)) in
    let done = obeyed_mapped told (c.replace_tasks.ensures c.args.out.now) in
    search rules

pub returns-in-Open-Add : goal.returns-in-Open-Add
returns-in-Open-Add g c =
    let told = mapped (λ _. Done) c.add_task.result c.map-in-Open-Add.result c.map-in-Open-Add.ensures.cases (λ a o k. search (rules, tests)) in
    let done = obeyed_mapped told (c.add_task.ensures c.args.out.now) in
    search rules

pub returns-in-Open-Drop : goal.returns-in-Open-Drop
returns-in-Open-Drop g c =
    let told = mapped (λ _. Done) c.drop_task.result c.map-in-Open-Drop.result c.map-in-Open-Drop.ensures.cases (λ a o k. search (rules, tests)) in
    let done = obeyed_mapped told (c.drop_task.ensures c.args.out.now) in
    search rules

pub returns-in-Open-Start : goal.returns-in-Open-Start
returns-in-Open-Start g c =
    let told = mapped (λ _. Started) c.begin_search.result c.map-in-Open-Start.result c.map-in-Open-Start.ensures.cases (λ a o k. search (rules, tests)) in
    let done = obeyed_mapped told (c.begin_search.ensures c.args.out.now) in
    search rules

pub returns-in-Searching-Stop : goal.returns-in-Searching-Stop
returns-in-Searching-Stop g c =
    let told = mapped (λ _. Done) c.end_search.result c.map-in-Searching-Stop.result c.map-in-Searching-Stop.ensures.cases (λ a o k. search (rules, tests)) in
    let done = obeyed_mapped told (c.end_search.ensures c.args.out.now) in
    search rules

pub returns-in-Searching-Advance : goal.returns-in-Searching-Advance
returns-in-Searching-Advance g c =
    let told = mapped advanced c.examine.result c.map.result c.map.ensures.cases (λ a o k. search (rules, tests)) in
    obeyed_as c.in-Searching-Advance.is-1 (obeyed_mapped told (c.examine.ensures c.args.out.now))
