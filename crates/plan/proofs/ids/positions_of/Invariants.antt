use Rattle.std.proofs.Common.{◌≡◌, ◌^◌, ◌<◌, map}
use Rattle.tasks.specs.Numbers.{sum_below}
use Rattle.tasks.specs.Tasks.{plain}
use Rattle.plan.specs.Ids.{bit_if_in}
use Rattle.plan.proofs.ids.positions_of.Given as goal

abbrev pub invariant-loop-i : goal.invariant-loop-i
invariant-loop-i l = (l.word ≡ sum_below l.i (bit_if_in l.ids.word (map plain l.tasks))) × (l.word < 2 ^ l.i)
