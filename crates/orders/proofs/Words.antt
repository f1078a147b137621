-- The word of a list of tasks holds exactly the tasks of the list.
use Rattle.std.proofs.Common.{◌≡◌, ℕ, zero, suc, ◌+◌, ◌/◌, ◌%◌, ◌^◌, ◌<◌, ◌≤◌, true, false, eqb, List, [], ◌∷◌, Some, sym, refl, ap, ◌∙◌, inl, inr, add_assoc, add_comm, pow-suc, div-one, arith, pow_pos}
use native.Mathlib.Nat.{div-eq_of_lt}
use Rattle.std.proofs.lemmas.Bool.{false≢true, eq-eqb, ne_eqb, eqb-true, eqb-false, cases_eq, cases_lt}
use Rattle.tasks.specs.Sets.{holds, Part}
use Rattle.tasks.proofs.Words.{holds_half}
use Rattle.orders.specs.Orders.{word, count, Test, Monotone}
use Rattle.orders.proofs.Counts.{same_self, same_is, same_other, joined, joined_alike, Front}

-- ---- a power of two more sets one bit

more_half : (i w : ℕ) → (2 ^ suc i + w) / 2 ≡ 2 ^ i + w / 2
more_half i w = omega (arith, pow-suc 2 i)

more_odd : (i w : ℕ) → (2 ^ suc i + w) % 2 ≡ w % 2
more_odd i w = omega (arith, pow-suc 2 i)

-- bit 0, and the bits of the half
holds_first : (w : ℕ) → holds w 0 ≡ eqb (w % 2) 1
holds_first w = ap (λ x. eqb (x % 2) 1) (div-one w)

holds_next : (w i : ℕ) → holds w (suc i) ≡ holds (w / 2) i
holds_next w i = sym (holds_half w i)

more_here : (i w : ℕ) → holds w i ≡ false → holds (2 ^ i + w) i ≡ true
more_here zero w h =
    holds_first (1 + w) ∙ eq-eqb ((1 + w) % 2) 1 (omega (arith, eqb-false (w % 2) 1 (sym (holds_first w) ∙ h)))
more_here (suc i) w h =
    holds_next (2 ^ suc i + w) i ∙ ap (λ x. holds x i) (more_half i w) ∙ more_here i (w / 2) (sym (holds_next w i) ∙ h)

more_other : (i j w : ℕ) → holds w i ≡ false → (j ≡ i → ⊥) → holds (2 ^ i + w) j ≡ holds w j
more_other zero zero w h ne = absurd (ne refl)
more_other zero (suc j) w h ne =
    let even = eqb-false (w % 2) 1 (sym (holds_first w) ∙ h) in
    holds_next (1 + w) j ∙ ap (λ x. holds x j) (omega arith) ∙ sym (holds_next w j)
more_other (suc i) zero w h ne =
    holds_first (2 ^ suc i + w) ∙ ap (λ x. eqb x 1) (more_odd i w) ∙ sym (holds_first w)
more_other (suc i) (suc j) w h ne =
    holds_next (2 ^ suc i + w) j ∙ ap (λ x. holds x j) (more_half i w)
    ∙ more_other i j (w / 2) (sym (holds_next w i) ∙ h) (λ e. ne (ap suc e)) ∙ sym (holds_next w j)

holds_zero : (i : ℕ) → holds 0 i ≡ false
holds_zero i = ap (λ x. eqb (x % 2) 1) (div-eq_of_lt (pow_pos i))

-- words with the same bits are the same
same_low : (k v w : ℕ) → v < 2 ^ k → w < 2 ^ k → ((j : ℕ) → holds v j ≡ holds w j) → v ≡ w
same_low zero v w a b h = omega arith
same_low (suc k) v w a b h =
    let half : v / 2 ≡ w / 2
    = same_low k (v / 2) (w / 2) (omega (arith, pow-suc 2 k)) (omega (arith, pow-suc 2 k))
    (λ j. sym (holds_next v j) ∙ h (suc j) ∙ holds_next w j) in
    let odd : v % 2 ≡ w % 2 = same_odd (v % 2) (w % 2) (omega arith) (omega arith) (sym (holds_first v) ∙ h 0 ∙ holds_first w) in
    omega arith
  where
    same_odd : (x y : ℕ) → x < 2 → y < 2 → eqb x 1 ≡ eqb y 1 → x ≡ y
    same_odd x y l m e = elim (cases_eq x 1) [
      | inl p ↦ p ∙ sym (eqb-true y 1 (sym e ∙ eq-eqb x 1 p))
      | inr ne ↦ let ny = eqb-false y 1 (sym e ∙ ne_eqb x 1 ne) in omega arith
    ]

pub same_bits : (v w : ℕ) → ((j : ℕ) → holds v j ≡ holds w j) → v ≡ w
same_bits v w h = same_low (v + w) v w (omega (arith, below_pow (v + w))) (omega (arith, below_pow (v + w))) h
  where
    below_pow : (k : ℕ) → k < 2 ^ k
    below_pow zero = omega arith
    below_pow (suc k) = omega (arith, below_pow k, pow-suc 2 k)

-- ---- the word of a list that has no task twice

abbrev Once : List ℕ → Type 0
Once xs = (i : ℕ) → count i xs ≤ 1

pub holds_absent : (xs : List ℕ) → Once xs → (i : ℕ) → count i xs ≡ 0 → holds (word xs) i ≡ false
holds_absent [] o i h = holds_zero i
holds_absent (x ∷ xs) o i h =
    more_other x i (word xs) (holds_absent xs (λ j. omega (arith, o j)) x (omega (arith, o x, same_self x))) (λ e. omega (arith, same_is i x e))
    ∙ holds_absent xs (λ j. omega (arith, o j)) i (omega arith)

pub holds_present : (xs : List ℕ) → Once xs → (i : ℕ) → 0 < count i xs → holds (word xs) i ≡ true
holds_present [] o i h = absurd (omega arith)
holds_present (x ∷ xs) o i h = elim (cases_eq i x) [
  | inl e ↦ ap (holds (2 ^ x + word xs)) e ∙ more_here x (word xs) absent
  | inr ne ↦ more_other x i (word xs) absent ne ∙ holds_present xs (λ j. omega (arith, o j)) i (omega (arith, same_other i x ne))
]
  where
    absent : holds (word xs) x ≡ false
    absent = holds_absent xs (λ j. omega (arith, o j)) x (omega (arith, o x, same_self x))

pub present : (xs : List ℕ) → Once xs → (i : ℕ) → holds (word xs) i ≡ true → 0 < count i xs
present xs o i h = elim (cases_lt 0 (count i xs)) [
  | inl l ↦ l
  | inr g ↦ absurd (false≢true (sym (holds_absent xs o i (omega arith)) ∙ h))
]

pub word_alike : (xs ys : List ℕ) → ((i : ℕ) → count i xs ≡ count i ys) → word xs ≡ word ys
word_alike xs ys h = is xs ∙ joined_alike 0 ◌+◌ add_assoc add_comm (λ i. 2 ^ i) xs ys h ∙ sym (is ys)
  where
    is : (zs : List ℕ) → word zs ≡ joined 0 ◌+◌ (λ i. 2 ^ i) zs
    is [] = refl
    is (z ∷ zs) = ap (λ w. 2 ^ z + w) (is zs)

-- ---- fewer tasks above, over lists of tasks

-- a task is answered under a set, in time
pub record Sooner (answer : Test) (i : ℕ) (above : List ℕ) (r : ℕ) : Type 0 where
  pub time : ℕ
  pub is : answer i (word above) ≡ Some time
  pub sooner : time ≤ r

pub answered_under_part : (n : ℕ) (answer : Test) → Monotone n answer → (i r : ℕ) (above part : List ℕ) → i < n → count i above ≡ 0
    → Front n above → ((j : ℕ) → count j part ≤ count j above) → answer i (word above) ≡ Some r → Sooner answer i part r
answered_under_part n answer mono i r above part l absent f less e = record { time = t.0; is = t.1; sooner = t.2 }
  where
    below : (j : ℕ) → holds (word above) j ≡ true → j < n
    below j h = elim (cases_lt j n) [ inl k ↦ k | inr g ↦ absurd (omega (arith, present above f.once j h, f.else_none j g)) ]

    is_part : Part (word part) (word above)
    is_part j h = holds_present above f.once j (omega (arith, less j, present part (λ k. omega (arith, less k, f.once k)) j h))

    t : (s : ℕ) × (answer i (word part) ≡ Some s) × (s ≤ r)
    t = mono i (word above) (word part) r l (holds_absent above f.once i absent) below is_part e
