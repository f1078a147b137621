use Rattle.std.proofs.Common.{◌≡◌, ℕ, ◌≤◌, List, map, length, get_or, set, sym, ap, ◌∙◌, subst, arith, rules}
use Rattle.orders.specs.Orders.{Assignment, word, count}
use Rattle.search.proofs.Rankings.{room_left, front_more, word_more, ranks_more, times_more, brief_more}
use Rattle.search.proofs.ranking.Ranking.with.Goals as goal

pub bounds-order-level : goal.bounds-order-level
bounds-order-level c = omega (arith, room_left c.args.self.now c.args.task c.requires.low c.requires.free)

pub invariant_of-result : goal.invariant_of-result
invariant_of-result c =
    let r = c.args.self.now in
    let t = c.args.task in
    let w = c.with.result.word in
    let same = c.from-position.ensures in
    let added = rw same at (c.with.ensures.added (omega (arith, same))) in
    let long : length r.order ≡ 16 = search rules in
    let wide : length r.times ≡ 16 = search rules in
    let more = front_more r t c.requires.low c.requires.free in
    let is = sym (ranks_more r t c.requires.low c.requires.free w added c.level.result c.level.ensures long) in
    record {
      once = subst (λ v. (i : ℕ) → count i v ≤ 1) is more.once;
      among = subst (λ v. (i : ℕ) → 16 ≤ i → count i v ≡ 0) is more.else_none;
      marked = subst (λ v. word v ≡ w) is (word_more r t c.requires.low c.requires.free w added);
      brief = rw same (brief_more r.times t c.args.time (omega arith) (omega arith) r.brief);
    }

pub returns : goal.returns
returns c =
    let r = c.args.self.now in
    let t = c.args.task in
    let w = c.with.result.word in
    let same = c.from-position.ensures in
    let added = rw same at (c.with.ensures.added (omega (arith, same))) in
    let long : length r.order ≡ 16 = search rules in
    let wide : length r.times ≡ 16 = search rules in
    let pair : List ℕ → List ℕ → Assignment = λ xs ys. record { order = xs; times = ys } in
    let is = ranks_more r t c.requires.low c.requires.free w added c.level.result c.level.ensures long in
    rw same
    (ap (λ v. pair v (map (λ i. get_or (set r.times t c.args.time) i 0) v)) is
    ∙ ap (pair _) (times_more r t c.requires.low c.requires.free c.args.time wide))
