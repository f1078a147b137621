-- The cheapest task for a level, from the last position down; and the levels from the lowest up.
use Rattle.std.proofs.Common.{◌≡◌, ℕ, ◌-◌, ◌<◌, ◌≤◌, Bool, true, false, not, ◌&&◌, eqb, ltb, ◌⊎◌, List, [], ◌∷◌, drop, IfSome, Some, filter, Option, sym, refl, ap, ◌∙◌, subst, ap₂, inl, inr, arith}
use Rattle.std.proofs.lemmas.List.{drop_all}
use Rattle.std.proofs.lemmas.Bool.{eq-eqb, ne_eqb, lt-ltb, le-ltb, cases_lt, cases_eq, cond-true, cond-false}
use Rattle.tasks.specs.Sets.{holds}
use Rattle.orders.specs.Orders.{Test, word, count, upto, unplaced}
use Rattle.search.specs.declared.pick.Pick.{Pick}
use Rattle.search.specs.Picks.{Among}
use Rattle.orders.specs.Costs.{Cost}
use Rattle.orders.specs.First.{cheaper, cheapest}
use Rattle.orders.proofs.Counts.{length_upto, same_is, same_other, count_upto, count_upto_else, count_unplaced, count_placed, count_kept_le}
use Rattle.orders.proofs.Words.{same_bits}
use Rattle.orders.proofs.Members.{holds_word}
use Rattle.search.proofs.Stacks.{from_more}

-- ---- the set of the tasks that a list lacks

unplaced_once : (n : ℕ) (lower : List ℕ) (i : ℕ) → count i (unplaced n lower) ≤ 1
unplaced_once n lower i = elim (cases_lt i n) [
  | inl l ↦ omega (arith, count_kept_le (λ j. eqb (count j lower) 0) i (upto n), count_upto n i l)
  | inr g ↦ omega (arith, count_kept_le (λ j. eqb (count j lower) 0) i (upto n), count_upto_else n i g)
]

pub unplaced_bit : (n : ℕ) (lower : List ℕ) (i : ℕ) → holds (word (unplaced n lower)) i ≡ (ltb i n && eqb (count i lower) 0)
unplaced_bit n lower i = holds_word (unplaced n lower) (unplaced_once n lower) i ∙ elim (cases_lt 0 (count i lower)) [
  | inl l ↦
      ap not (eq-eqb (count i (unplaced n lower)) 0 (count_placed n i lower l))
      ∙ sym (ap (λ b. ltb i n && b) (ne_eqb (count i lower) 0 (λ e. omega arith)) ∙ never (ltb i n))
  | inr z ↦
      let none : count i lower ≡ 0 = omega arith in
      ap (λ k. not (eqb k 0)) (count_unplaced n i lower none)
      ∙ elim (cases_lt i n) [
        | inl l ↦ ap (λ k. not (eqb k 0)) (count_upto n i l) ∙ sym (ap₂ ◌&&◌ (lt-ltb i n l) (eq-eqb (count i lower) 0 none))
        | inr g ↦ ap (λ k. not (eqb k 0)) (count_upto_else n i g) ∙ sym (ap (λ b. b && eqb (count i lower) 0) (le-ltb i n g))
      ]
]
  where
    never : (b : Bool) → (b && false) ≡ false
    never true = refl
    never false = refl

pub unplaced_less : (n : ℕ) (lower : List ℕ) (i w v : ℕ) → word (unplaced n lower) ≡ w
    → ((j : ℕ) → holds v j ≡ (not (eqb j i) && holds w j)) → word (unplaced n (i ∷ lower)) ≡ v
unplaced_less n lower i w v is bits =
    same_bits (word (unplaced n (i ∷ lower))) v (λ j.
    unplaced_bit n (i ∷ lower) j ∙ ap (λ b. ltb j n && b) (less j) ∙ swap (ltb j n) (not (eqb j i)) (eqb (count j lower) 0)
    ∙ ap (λ b. not (eqb j i) && b) (sym (unplaced_bit n lower j) ∙ ap (λ x. holds x j) is) ∙ sym (bits j))
  where
    swap : (a b c : Bool) → (a && (b && c)) ≡ (b && (a && c))
    swap true b c = refl
    swap false true c = refl
    swap false false c = refl

    less : (j : ℕ) → eqb (count j (i ∷ lower)) 0 ≡ (not (eqb j i) && eqb (count j lower) 0)
    less j = elim (cases_eq j i) [
      | inl e ↦
          ne_eqb (count j (i ∷ lower)) 0 (λ z. omega (arith, same_is j i e))
          ∙ sym (ap (λ b. not b && eqb (count j lower) 0) (eq-eqb j i e))
      | inr ne ↦
          ap (λ k. eqb k 0) (omega (arith, same_other j i ne)) ∙ sym (ap (λ b. not b && eqb (count j lower) 0) (ne_eqb j i ne))
    ]

pub unplaced_at : (n : ℕ) (lower : List ℕ) (i w : ℕ) → i < n → word (unplaced n lower) ≡ w → holds w i ≡ eqb (count i lower) 0
unplaced_at n lower i w l is =
    ap (λ x. holds x i) (sym is) ∙ unplaced_bit n lower i ∙ ap (λ b. b && eqb (count i lower) 0) (lt-ltb i n l)

-- ---- the cheapest

-- the positions from i on that a list lacks
abbrev pub lacking_from : ℕ → List ℕ → ℕ → List ℕ
lacking_from n lower i = filter (λ j. eqb (count j lower) 0) (drop i (upto n))

module _ {V : Type 0} (n : ℕ) (answer : Test) (c : Cost V) (lower : List ℕ) (w i : ℕ) (is : word (unplaced n lower) ≡ w)
    (pos : 0 < i) (le : i ≤ n) where
  pub cheapest_skip : holds w (i - 1) ≡ false
      → cheapest n answer c lower (lacking_from n lower (i - 1)) ≡ cheapest n answer c lower (lacking_from n lower i)
  cheapest_skip h =
      ap (cheapest n answer c lower)
      (from_more (λ j. eqb (count j lower) 0) i n pos le
      ∙ cond-false (eqb (count (i - 1) lower) 0) ((i - 1) ∷ lacking_from n lower i) (lacking_from n lower i)
      (sym (unplaced_at n lower (i - 1) w (omega arith) is) ∙ h))

  pub cheapest_more : (v : ℕ) → ((j : ℕ) → holds v j ≡ (not (eqb j (i - 1)) && holds w j)) → holds w (i - 1) ≡ true
      → cheapest n answer c lower (lacking_from n lower (i - 1))
      ≡ cheaper c (i - 1) (answer (i - 1) v) (cheapest n answer c lower (lacking_from n lower i))
  cheapest_more v bits h =
      ap (cheapest n answer c lower)
      (from_more (λ j. eqb (count j lower) 0) i n pos le
      ∙ cond-true (eqb (count (i - 1) lower) 0) ((i - 1) ∷ lacking_from n lower i) (lacking_from n lower i)
      (sym (unplaced_at n lower (i - 1) w (omega arith) is) ∙ h))
      ∙ ap (λ x. cheaper c (i - 1) (answer (i - 1) x) (cheapest n answer c lower (lacking_from n lower i))) (unplaced_less n lower (i - 1) w v is bits)

pub lacking_none : (n : ℕ) (lower : List ℕ) → lacking_from n lower n ≡ []
lacking_none n lower = ap (filter (λ j. eqb (count j lower) 0)) (drop_all n (upto n) (omega (arith, length_upto n)))

-- one of two picks is among the tasks if both are
pub among_either : (n w : ℕ) (r pick : Pick) (other : Option Pick) → (r ≡ pick) ⊎ (Some r ≡ other) → Among n w pick → IfSome other (Among n w) → Among n w r
among_either n w r pick other (inl e) a b = subst (Among n w) (sym e) a
among_either n w r pick other (inr e) a b = subst (λ o. IfSome o (Among n w)) (sym e) b
