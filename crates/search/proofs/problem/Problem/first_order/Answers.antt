use Rattle.std.proofs.Common.{◌≡◌, ℕ, ◌-◌, ◌≤◌, ltb, List, length, take, set, replicate, Some, sym, refl, ap, ◌∙◌, subst, arith, length-set}
use Rattle.std.specs.Option.{option_map}
use Rattle.tasks.specs.Lists.{items, plains}
use Rattle.tasks.specs.Sets.{holds}
use Rattle.tasks.specs.Timing.{timings}
use Rattle.costs.proofs.Folds.{count_plain}
use Rattle.orders.specs.Orders.{word, count, unplaced}
use Rattle.orders.specs.First.{first_above}
use Rattle.orders.proofs.Greedy.{first_order_is_greedy}
use Rattle.orders.proofs.Counts.{Front, front_nothing, front_cons}
use Rattle.search.specs.Ranks.{ranked}
use Rattle.search.specs.Model.{priced}
use Rattle.search.proofs.Bridges.{laws_of, exact_of}
use Rattle.search.proofs.Picking.{unplaced_less}
use Rattle.search.proofs.Rankings.{zeros, brief_more}
use Rattle.search.proofs.Lowers.{lower, timed, Filled, lower_none, lower_more, all_left, above_late, above_more, pick_free, word_full, take_full, order_full}
use Rattle.search.proofs.problem.Problem.first_order.Goals as goal

pub loop-level-init : goal.loop-level-init
loop-level-init g c =
    let l = c.args.self.tasks.now in
    let held = plains l in
    let n = length held in
    let answer = g.T.ResponseTest.answer c.args.self.test.now (timings held) in
    let costs = priced (g.C.Cost.prices c.args.self.cost.now) held in
    let slice = c.as_slice-held in
    let size = count_plain (items l) slice.result.now slice.ensures.items in
    let few = slice.ensures.few in
    let blank : List ℕ = replicate 16 0 in
    let w = c.first-placed.result.word in
    let bits : (j : ℕ) → holds w j ≡ ltb j n = subst (λ k. (j : ℕ) → holds w j ≡ ltb j k) (sym size) (c.first-placed.ensures.below (omega (arith, slice.ensures.few))) in
    let none = sym (lower_none n blank) in
    subst (λ k. Filled n answer costs k blank blank w) size (
      refl,
      refl,
      zeros,
      subst (Front n) none (front_nothing n),
      subst (λ v. word (unplaced n v) ≡ w) none (all_left n w bits),
      ap (λ v. first_above n answer costs n (timed blank v)) (lower_none n blank),
    )

pub loop-level-preserved : goal.loop-level-preserved
loop-level-preserved g c =
    let l = c.args.self.tasks.now in
    let held = plains l in
    let n = length held in
    let answer = g.T.ResponseTest.answer c.args.self.test.now (timings held) in
    let costs = priced (g.C.Cost.prices c.args.self.cost.now) held in
    let slice = c.as_slice-held in
    let size = count_plain (items l) slice.result.now slice.ensures.items in
    let few = slice.ensures.few in
    let k = c.loop-level.level in
    let pos = c.loop-level-test.true in
    let le = c.loop-level.auto.level in
    let inv = c.loop-level.invariant in
    let p = c.in_ok-pick.pick.position in
    let t = c.in_ok-pick.pick.time in
    let order = c.loop-level.order in
    let times = c.loop-level.times in
    let v = lower n k order in
    let among = c.in_ok-pick.ensures.among in
    let free = pick_free n c.loop-level.unplaced.word p v inv.4 (omega (arith, among.low)) among.member in
    let picked = sym (c.in_ok-pick.ensures.value v inv.4) in
    let more = sym (lower_more n k p order pos (omega arith) (omega (arith, inv.0, l.few))) in (
      length-set order (k - 1) p ∙ inv.0,
      length-set times p t ∙ inv.1,
      brief_more times p t (omega (arith, inv.1, among.low, l.few)) among.brief inv.2,
      subst (Front n) more (front_cons n v inv.3 p free),
      subst (λ u. word (unplaced n u) ≡ c.without-unplaced.result.word) more
          (unplaced_less n v p c.loop-level.unplaced.word c.without-unplaced.result.word inv.4
          (c.without-unplaced.ensures.removed (omega (arith, among.low, l.few)))),
      ap (λ u. first_above n answer costs (k - 1) (timed (set times p t) u)) (sym more)
          ∙ sym (above_more n answer costs k v times pos p t picked free.not_placed (omega (arith, inv.1, among.low, l.few))) ∙ inv.5,
    )

pub returns-in_err-pick-clause-value : goal.returns-in_err-pick-clause-value
returns-in_err-pick-clause-value g c =
    let held = plains c.args.self.tasks.now in
    let n = length held in
    let answer = g.T.ResponseTest.answer c.args.self.test.now (timings held) in
    let costs = priced (g.C.Cost.prices c.args.self.cost.now) held in
    let inv = c.loop-level.invariant in
    let v = lower n c.loop-level.level c.loop-level.order in
    ap (option_map ranked) c.from_residual.ensures
    ∙ sym (above_late n answer costs c.loop-level.level v c.loop-level.times c.loop-level-test.true (sym (c.in_err-pick.ensures.value v inv.4))) ∙ inv.5

pub returns-in_err-pick-clause-exact : goal.returns-in_err-pick-clause-exact
returns-in_err-pick-clause-exact g c = exact_of (g.T.Admission.admitted c.args.self.test.now) (g.T.ResponseTest.answer c.args.self.test.now) (g.met.T.ResponseTest.monotone c.args.self.test.now) (g.C.Cost.prices c.args.self.cost.now) (items c.args.self.tasks.now)

pub invariant_of-result : goal.invariant_of-result
invariant_of-result g c =
    let l = c.args.self.tasks.now in
    let n = length (plains l) in
    let slice = c.as_slice-held in
    let size = count_plain (items l) slice.result.now slice.ensures.items in
    let few = slice.ensures.few in
    let order = c.loop-level.order in
    let inv = c.loop-level.invariant in
    let w = c.first-placed.result.word in
    let bits : (j : ℕ) → holds w j ≡ ltb j n = subst (λ k. (j : ℕ) → holds w j ≡ ltb j k) (sym size) (c.first-placed.ensures.below (omega (arith, slice.ensures.few))) in
    let few : n ≤ 16 = omega (arith, slice.ensures.few) in
    let end : c.loop-level.level ≡ 0 = omega arith in
    let whole : lower n c.loop-level.level order ≡ take n order = ap (λ k. lower n k order) end ∙ ap (λ k. take k order) (omega arith) in
    let front = subst (Front n) whole inv.3 in
    let is = sym (take_full n w order few inv.0 bits front) in
    record {
      once = subst (λ v. (i : ℕ) → count i v ≤ 1) is front.once;
      among = subst (λ v. (i : ℕ) → 16 ≤ i → count i v ≡ 0) is (λ i h. front.else_none i (omega arith));
      marked = subst (λ v. word v ≡ w) is (word_full n w order few inv.0 bits front);
      brief = inv.2;
    }

pub returns : goal.returns
returns g c =
    let l = c.args.self.tasks.now in
    let held = plains l in
    let n = length held in
    let answer = g.T.ResponseTest.answer c.args.self.test.now (timings held) in
    let costs = priced (g.C.Cost.prices c.args.self.cost.now) held in
    let slice = c.as_slice-held in
    let size = count_plain (items l) slice.result.now slice.ensures.items in
    let few = slice.ensures.few in
    let order = c.loop-level.order in
    let times = c.loop-level.times in
    let inv = c.loop-level.invariant in
    let w = c.first-placed.result.word in
    let bits : (j : ℕ) → holds w j ≡ ltb j n = subst (λ k. (j : ℕ) → holds w j ≡ ltb j k) (sym size) (c.first-placed.ensures.below (omega (arith, slice.ensures.few))) in
    let few : n ≤ 16 = omega (arith, slice.ensures.few) in
    let end : c.loop-level.level ≡ 0 = omega arith in
    let whole : lower n c.loop-level.level order ≡ take n order = ap (λ k. lower n k order) end ∙ ap (λ k. take k order) (omega arith) in
    let front = subst (Front n) whole inv.3 in
    let is = take_full n w order few inv.0 bits front in
    record {
      value = ap (λ v. Some (timed times v)) (is ∙ sym whole)
          ∙ ap (λ k. first_above n answer costs k (timed times (lower n c.loop-level.level order))) (sym end) ∙ inv.5;
      order = order_full n w order few inv.0 bits front;
      exact = exact_of (g.T.Admission.admitted c.args.self.test.now) (g.T.ResponseTest.answer c.args.self.test.now) (g.met.T.ResponseTest.monotone c.args.self.test.now) (g.C.Cost.prices c.args.self.cost.now) (items c.args.self.tasks.now);
      greedy = first_order_is_greedy _ n answer costs (laws_of (g.C.Cost.prices c.args.self.cost.now) (g.met.C.Cost.lawful c.args.self.cost.now) held);
    }
