use Rattle.std.proofs.Common.{◌≡◌, ◌-◌, map, take, sym, ap, ◌∙◌}
use native.Mathlib.Nat.{sub-zero}
use Rattle.std.proofs.lemmas.List.{take_all}
use Rattle.tasks.specs.Sets.{members}
use Rattle.tasks.specs.Tasks.{plain}
use Rattle.search.specs.Ranks.{ranks}
use Rattle.plan.proofs.Shown.{seen, levels_seen, take_front}
use Rattle.plan.proofs.levels.levels_of.Goals as goal

pub returns-clause-value : goal.returns-clause-value
returns-clause-value c =
    let r = c.args.best.now in
    let cs = map plain c.args.tasks.now in
    let slice = take (c.level.result - 0) r.order in
    let here : slice ≡ ranks r = rw (sub-zero, c.level.ensures) (take_front (members r.placed.word) r.order) in
    let all : take c.loop-place.place-index slice ≡ slice = take_all c.loop-place.place-index slice c.loop-place-test.false in
    c.loop-place.invariant.0 ∙ ap (map (seen cs r.times)) (all ∙ here) ∙ sym (levels_seen cs r.times (ranks r))
