use Rattle.std.proofs.Common.{◌≡◌, suc, true, [], ◌∷◌, ◌++◌, length, sym, ap, subst, arith, length-append}
use Rattle.tasks.specs.Sets.{members}
use Rattle.search.specs.Ranks.{ranks, room, all_below}
use Rattle.search.proofs.Rankings.{level_is, one_below}
use Rattle.search.proofs.search.walk.Walk.examine.Goals as goal

pub settle-requires-clause-room : goal.settle-requires-clause-room
settle-requires-clause-room g c =
    let v = c.in-Some.vertex in
    let places = c.in-Some.ensures.known.places in
    let long : length (ranks c.with.result) ≡ length (ranks v.above ++ (v.task ∷ [])) = ap (λ a. length a.order) c.with.ensures in
    let deeper : length (ranks c.with.result) ≡ suc (members v.above.placed.word)
    = omega (arith, long, length-append (ranks v.above) (v.task ∷ []), level_is v.above) in
    omega (arith, ap room deeper)

pub settle-requires-clause-among : goal.settle-requires-clause-among
settle-requires-clause-among g c =
    let n = c.args.self.now.search.now.size in
    let v = c.in-Some.vertex in
    let known = c.in-Some.ensures.known in
    subst (λ k. all_below k (ranks c.with.result) ≡ true) (sym c.in-Some.ensures.size)
    (subst (λ a. all_below n a.order ≡ true) (sym c.with.ensures) (one_below n (ranks v.above) v.task known.above known.low))
