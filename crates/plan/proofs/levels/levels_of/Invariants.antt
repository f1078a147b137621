use Rattle.std.proofs.Common.{◌≡◌, map, length, take}
use Rattle.tasks.specs.Tasks.{plain}
use Rattle.text.specs.Levels.{numbers}
use Rattle.plan.proofs.Shown.{seen}
use Rattle.plan.proofs.levels.levels_of.Given as goal

abbrev pub invariant-loop-place : goal.invariant-loop-place
invariant-loop-place l =
    (map numbers l.levels.items ≡ map (seen (map plain l.tasks) l.best.times) (take l.place-index l.place-items))
    × (length l.levels.items ≡ l.place-index)
