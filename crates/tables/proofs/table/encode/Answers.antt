use Rattle.std.proofs.Common.{◌≡◌, ℕ, ◌+◌, ◌*◌, ◌<◌, ◌≤◌, List, ◌++◌, map, length, take, drop, Ok, Result, ap, ◌∙◌, subst, arith, lt-ltb, length-take}
use Rattle.tasks.specs.declared.task.Task.{Task}
use Rattle.tasks.specs.declared.list.Codes.{Codes}
use Rattle.tasks.specs.declared.list.TaskList.{TaskList}
use Rattle.tasks.specs.Lists.{items, plains}
use Rattle.tables.specs.Pairing.{Back}
use Rattle.tasks.specs.Buffers.{delivered}
use Rattle.tasks.specs.declared.fault.Fault.{Fault}
use Rattle.tables.specs.Tables.{encoded}
use Rattle.tasks.specs.Tasks.{plain}
use Rattle.tables.proofs.Encoding.{encoded_size, record_written, past_record, header_length, table_written}
use Rattle.tables.proofs.Pairing.{tasks_back}
use Rattle.tables.proofs.table.encode.Goals as goal

-- the tasks of the list are at most sixteen, so their table decodes to them
back : (codes : Codes) (list : TaskList) (tasks : List Task) → tasks ≡ items list → Back codes.test codes.cost (plains list)
back codes list tasks same a = tasks_back a codes.test codes.cost codes.tests codes.costs (items list) (omega (arith, list.few, length-take list.len list.tasks))

pub returns-then-out-size : goal.returns-then-out-size
returns-then-out-size c =
    let small : length c.args.out.now < length (encoded c.args.codes.test c.args.codes.cost (map plain (items c.args.list.now)))
    = omega (arith, encoded_size c.args.codes.test c.args.codes.cost (items c.args.list.now), ap length c.as_slice-tasks.ensures.items) in
    record { written = rw (lt-ltb _ _ small); back = back c.args.codes c.args.list.now c.as_slice-tasks.result.now c.as_slice-tasks.ensures.items }

pub loop-k-preserved : goal.loop-k-preserved
loop-k-preserved c =
    let tasks = c.as_slice-tasks.result.now in
    let whole = header_length c.args.codes.test c.args.codes.cost tasks c.copy_from_slice.new.self c.args.out.now (c.copy_from_slice.ensures.after ∙ c.header_bytes.ensures) c.if-out-size.false in
    let inside : c.loop-k.k < length tasks = c.loop-k-test.true in
    let room : 14 + 12 * c.loop-k.k ≤ length c.loop-k.out = omega (arith, whole, c.loop-k.auto.out, c.if-out-size.false) in (
      record_written c.loop-k.out c.copy_from_slice-in-loop-k.new.self tasks c.loop-k.k c.index-tasks-k.result
          room (c.copy_from_slice-in-loop-k.ensures.after ∙ c.task_bytes.ensures) (take 2 (c.copy_from_slice.new.self ++ drop 2 c.args.out.now)) inside c.index-tasks-k.is c.loop-k.invariant.0,
      past_record c.loop-k.out c.copy_from_slice-in-loop-k.new.self tasks c.loop-k.k c.index-tasks-k.result
          room (c.copy_from_slice-in-loop-k.ensures.after ∙ c.task_bytes.ensures) (2 + 12 * length tasks) (omega arith) ∙ c.loop-k.invariant.1,
    )

-- the answer and the buffer are those of a delivery
abbrev Delivers : goal.After-loop-k → List Task → Type 0
Delivers c tasks =
    let table = encoded c.args.codes.test c.args.codes.cost (map plain tasks) in
    ◌≡◌ {A = Result ℕ Fault × List ℕ} (Ok (2 + 12 * length c.as_slice-tasks.result.now), c.loop-k.out) (delivered (length table) table c.args.out.now)

written : (c : goal.After-loop-k) → Delivers c (items c.args.list.now)
written c =
    let tasks = c.as_slice-tasks.result.now in
    subst (Delivers c)
    c.as_slice-tasks.ensures.items
    (table_written c.args.codes.test c.args.codes.cost tasks c.copy_from_slice.new.self c.args.out.now (c.copy_from_slice.ensures.after ∙ c.header_bytes.ensures) c.if-out-size.false
    c.loop-k.k c.loop-k.out (omega arith) c.loop-k.invariant.0 c.loop-k.invariant.1)

pub returns : goal.returns
returns c =
    record { written = written c; back = back c.args.codes c.args.list.now c.as_slice-tasks.result.now c.as_slice-tasks.ensures.items }
