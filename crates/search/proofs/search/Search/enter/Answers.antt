use Rattle.std.proofs.Common.{◌≡◌, suc, ◌-◌, true, ◌++◌, map, reverse, length, vec_items, sym, refl, ap, ◌∙◌, subst, arith, rules}
use Rattle.orders.specs.Orders.{unplaced}
use Rattle.search.specs.Ranks.{ranks, ranked, waiting, all_below}
use Rattle.search.proofs.Rankings.{room_left}
use Rattle.search.proofs.Stacks.{left, left_none, left_all, room_up, pushed_sound, skipped, entered, place_left}
use Rattle.search.proofs.search.Search.enter.Goals as goal

pub loop-position-init : goal.loop-position-init
loop-position-init c =
    let s = c.args.self.now in
    let none = left_none c.args.above.placed.word s.size in
    (refl, refl, ap (λ ks. map (λ i. record { ancestors = ranked c.args.above; task = i }) ks ++ map waiting (reverse (vec_items s.active))) (sym none))

pub push_reserved-requires : goal.push_reserved-requires
push_reserved-requires c =
    let s = c.loop-position.self in
    let base = c.args.self.now in
    let r = c.args.above in
    let place = place_left r (vec_items s.active) (vec_items base.active) c.loop-position.position s.size
    c.loop-position-test.true (omega arith) c.loop-position.invariant.2 s.few (omega (arith, c.requires.room, base.active.ok.0)) (sym c.contains.ensures ∙ c.if-not-contains.true) in
    let most = room_up (suc (length (ranks r))) 16
    (room_left r (c.loop-position.position - 1) (omega arith) (sym c.contains.ensures ∙ c.if-not-contains.true)) in
    omega arith

pub invariant_of-self : goal.invariant_of-self
invariant_of-self c =
    let s = c.loop-position.self in
    let base = c.args.self.now in
    let place = place_left c.args.above (vec_items s.active) (vec_items base.active) c.loop-position.position s.size
    c.loop-position-test.true (omega arith) c.loop-position.invariant.2 s.few (omega (arith, c.requires.room, base.active.ok.0)) (sym c.contains.ensures ∙ c.if-not-contains.true) in
    let above = subst (λ n. all_below n (ranks c.args.above) ≡ true) (sym c.loop-position.invariant.0) c.requires.among in
    record {
      few = s.few;
      once = s.once;
      no_other = s.no_other;
      reserved = search rules;
      sound = pushed_sound _ (vec_items s.active) _ c.push_reserved.ensures.items s.size (omega arith) above place s.sound;
    }

pub loop-position-preserved : goal.loop-position-preserved
loop-position-preserved c =
    let s = c.loop-position.self in
    let inv = c.loop-position.invariant in (
      inv.0,
      inv.1,
      skipped c.args.above (vec_items s.active) (vec_items c.args.self.now.active) c.loop-position.position s.size
          c.loop-position-test.true (omega arith) inv.2 (sym c.contains.ensures ∙ c.if-not-contains.false),
    )

pub loop-position-preserved-then-not-contains : goal.loop-position-preserved-then-not-contains
loop-position-preserved-then-not-contains c =
    let s = c.loop-position.self in
    let inv = c.loop-position.invariant in (
      inv.0,
      inv.1,
      entered c.args.above (vec_items s.active) (vec_items c.args.self.now.active) c.loop-position.position s.size
          c.loop-position-test.true (omega arith) inv.2 _ _ c.push_reserved.ensures.items refl (sym c.contains.ensures ∙ c.if-not-contains.true),
    )

pub returns-clause-active : goal.returns-clause-active
returns-clause-active c =
    let s = c.args.self.now in
    let inv = c.loop-position.invariant in
    let none : c.loop-position.position ≡ 0 = omega arith in
    inv.2 ∙ ap (λ ks. map (λ i. record { ancestors = ranked c.args.above; task = i }) ks ++ map waiting (reverse (vec_items s.active)))
    (ap (λ k. left c.args.above.placed.word k c.loop-position.self.size) none ∙ left_all c.args.above c.loop-position.self.size
    ∙ ap (λ n. unplaced n (ranks c.args.above)) inv.0)
