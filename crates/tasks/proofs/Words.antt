-- The bits of words.
use Rattle.std.proofs.Common.{◌≡◌, ℕ, zero, suc, ◌+◌, ◌-◌, ◌*◌, ◌/◌, ◌%◌, ◌^◌, ◌<◌, ◌≤◌, Bool, true, false, cond, not, ◌&&◌, ◌||◌, eqb, ltb, ◌⊎◌, sym, refl, ap, ◌∙◌, subst, inl, inr, add-mul, div-one, one-add, arith, lit<, pow_pos, pow_mono, pow-add}
use mathlib.Core.Path.{fun_ext}
use native.Mathlib.Nat.{div-eq_of_lt, div_self}
use lib.Pow.{pow-lt}
use lib.Bits.{bit_and, bit_or, or_shr, or_mod, and_shr, and_mod}
use lib.Arith.{lt-one}
use Rattle.tasks.proofs.Ranges.{sum_front}
use lib.Count.{ones, ones_step}
use Rattle.std.proofs.lemmas.Bool.{eq-eqb, ne_eqb, lt-ltb, le-ltb, cases_order, cases_lt, cond-true, cond-false}
use Rattle.std.proofs.lemmas.Nat.{shr_below, shr_split, mod_below, shl-shr, shr-shr, div-mul-add}
use Rattle.tasks.specs.Numbers.{sum_below}
use Rattle.tasks.specs.Sets.{holds, members}

-- the bit at i, as a number
abbrev pub bit : ℕ → ℕ → ℕ
bit w i = (w / (2 ^ i)) % 2

pub contains_high : (w i : ℕ) → w < 2 ^ 64 → 64 ≤ i → holds w i ≡ false
contains_high w i small high =
    ap (λ (x : ℕ). eqb (x % 2) 1) (div-eq_of_lt (omega (arith, pow_mono high)))

-- the bit of a power
bit_of_pow : (i j : ℕ) → bit (2 ^ i) j ≡ cond (eqb j i) 1 0
bit_of_pow i j = elim (cases_order i j) [
  | inl e ↦
      rw (cond-true {A = ℕ} (eqb j i) 1 0 (eq-eqb j i (sym e)))
      (ap (λ (x : ℕ). x % 2) (ap (λ (x : ℕ). (2 ^ i) / (2 ^ x)) (sym e) ∙ div_self (pow_pos i)))
  | inr o ↦
      rw (cond-false {A = ℕ} (eqb j i) 1 0 (ne_eqb j i (apart o)))
      (elim o [ inl lt ↦ ap (λ (x : ℕ). x % 2) (div-eq_of_lt (pow-lt lt)) | inr gt ↦ above (i - j - 1) (omega arith) ])
]
  where
    apart : (i < j) ⊎ (j < i) → j ≡ i → ⊥
    apart (inl lt) e = omega arith
    apart (inr gt) e = omega arith

    above : (d : ℕ) → i ≡ suc d + j → bit (2 ^ i) j ≡ 0
    above d e =
        ap (λ (x : ℕ). (2 ^ x / (2 ^ j)) % 2) e
        ∙ ap (λ (x : ℕ). (x / (2 ^ j)) % 2) (pow-add 2 (suc d) j)
        ∙ ap (λ (x : ℕ). x % 2) (shl-shr (2 ^ suc d) j)
        ∙ omega arith

complement : (p all half a q r : ℕ) → all ≡ 2 * half * p → q < 2 * half → r < p → q * p + r ≡ a → (all - 1 - a) / p % 2 ≡ 1 - q % 2
complement p all half a q r whole high rest split =
    let c : ℕ = 2 * half - 1 - q in
    let e : c + 1 + q ≡ 2 * half = omega arith in
    let parts : (c + 1 + q) * p ≡ all = ap (λ (x : ℕ). x * p) e ∙ sym whole in
    let exact : all - 1 - a ≡ c * p + (p - 1 - r) = omega (arith, add-mul (c + 1) q p, add-mul c 1 p) in
    ap (λ (x : ℕ). x / p % 2) exact ∙ ap (λ (x : ℕ). x % 2) (div-mul-add c p (p - 1 - r) (omega arith)) ∙ omega arith

-- what complementing n bits does to bit j
bit_of_not : (n a j : ℕ) → j < n → a < 2 ^ n → bit (2 ^ n - 1 - a) j ≡ 1 - bit a j
bit_of_not n a j low small = go (n - j - 1) (omega arith)
  where
    go : (k : ℕ) → n ≡ suc k + j → bit (2 ^ n - 1 - a) j ≡ 1 - bit a j
    go k e =
        let p : ℕ = 2 ^ j in
        let whole : 2 ^ n ≡ 2 ^ suc k * p = ap (λ (x : ℕ). 2 ^ x) e ∙ pow-add 2 (suc k) j in
        let twice : 2 ^ suc k ≡ 2 * 2 ^ k = omega arith in
        let high : a / p < 2 ^ suc k = shr_below a (suc k) j (subst (λ (x : ℕ). a < 2 ^ x) e small) in
        let rest : a % p < p = mod_below a p (pow_pos j) in
        let split : a / p * p + a % p ≡ a = shr_split a j in
        complement p (2 ^ n) (2 ^ k) a (a / p) (a % p) (whole ∙ ap (λ (x : ℕ). x * p) twice) (omega (arith, high)) rest split

or_bits : (b : Bool) (x : ℕ) → x < 2 → eqb (bit_or x (cond b 1 0)) 1 ≡ (b || eqb x 1)
or_bits true zero h = refl
or_bits true (suc zero) h = refl
or_bits true (suc (suc x)) h = absurd (omega arith)
or_bits false zero h = refl
or_bits false (suc zero) h = refl
or_bits false (suc (suc x)) h = absurd (omega arith)

and_bits : (b : Bool) (x : ℕ) → x < 2 → eqb (bit_and x (1 - cond b 1 0)) 1 ≡ (not b && eqb x 1)
and_bits true zero h = refl
and_bits true (suc zero) h = refl
and_bits true (suc (suc x)) h = absurd (omega arith)
and_bits false zero h = refl
and_bits false (suc zero) h = refl
and_bits false (suc (suc x)) h = absurd (omega arith)

pub holds_with : (w i j : ℕ) → holds (bit_or w (2 ^ i)) j ≡ (eqb j i || holds w j)
holds_with w i j =
    ap (λ (x : ℕ). eqb x 1) (ap (λ (x : ℕ). x % 2) (or_shr w (2 ^ i) j) ∙ or_mod (w / (2 ^ j)) ((2 ^ i) / (2 ^ j)) 1
    ∙ ap (λ (x : ℕ). bit_or (bit w j) x) (bit_of_pow i j))
    ∙ or_bits (eqb j i) (bit w j) (mod_below (w / (2 ^ j)) 2 (lit< tt))

pub holds_without : (w i j : ℕ) → w < 2 ^ 64 → i < 64 → holds (bit_and w (2 ^ 64 - 1 - 2 ^ i)) j ≡ (not (eqb j i) && holds w j)
holds_without w i j small low =
    ap (λ (x : ℕ). eqb x 1) (ap (λ (x : ℕ). x % 2) (and_shr w m j) ∙ and_mod (w / (2 ^ j)) (m / (2 ^ j)) 1)
    ∙ elim (cases_lt j 64) [
      | inl lt ↦
          ap (λ (x : ℕ). eqb (bit_and (bit w j) x) 1) (bit_of_not 64 (2 ^ i) j lt (pow-lt low) ∙ ap (λ (x : ℕ). 1 - x) (bit_of_pow i j))
          ∙ and_bits (eqb j i) (bit w j) (mod_below (w / (2 ^ j)) 2 (lit< tt))
      | inr high ↦
          ap (λ (x : ℕ). eqb (bit_and (x % 2) (bit m j)) 1) (div-eq_of_lt (omega (arith, pow_mono high)))
          ∙ sym (ap (λ (b : Bool). not (eqb j i) && b) (contains_high w j small high) ∙ never (not (eqb j i)))
    ]
  where
    m : ℕ
    m = 2 ^ 64 - 1 - 2 ^ i

    never : (b : Bool) → (b && false) ≡ false
    never true = refl
    never false = refl

one_bit : (x : ℕ) → x < 2 → x ≡ cond (eqb x 1) 1 0
one_bit zero h = refl
one_bit (suc zero) h = refl
one_bit (suc (suc x)) h = absurd (omega arith)

pub holds_half : (w i : ℕ) → holds (w / 2) i ≡ holds w (suc i)
holds_half w i = ap (λ (x : ℕ). eqb (x % 2) 1) (shr-shr w 1 i ∙ ap (λ (x : ℕ). w / (2 ^ x)) (one-add i))

count : (k w : ℕ) → w < 2 ^ k → ones w ≡ sum_below k (λ i. cond (holds w i) 1 0)
unfolding sum_below ones
count zero w h = ap ones (lt-one h)
count (suc k) w h =
    ones_step w
    ∙ ap (λ (x : ℕ). w % 2 + x)
    (count k (w / 2) (omega arith) ∙ ap (sum_below k) (fun_ext (λ i. ap (λ (b : Bool). cond {A = ℕ} b 1 0) (holds_half w i))))
    ∙ ap (λ (x : ℕ). x + sum_below k (λ i. cond (holds w (suc i)) 1 0))
    (one_bit (w % 2) (mod_below w 2 (lit< tt)) ∙ ap (λ (x : ℕ). cond {A = ℕ} (eqb (x % 2) 1) 1 0) (sym (div-one w)))
    ∙ sym (sum_front k (λ i. cond (holds w i) 1 0))

pub members_ones : (w : ℕ) → w < 2 ^ 64 → ones w ≡ members w
unfolding members
members_ones w h = count 64 w h

-- the bits of 2 ^ n - 1
pub holds_first : (n j : ℕ) → holds (2 ^ n - 1) j ≡ ltb j n
holds_first n j = elim (cases_lt j n) [
  | inl lt ↦
      let low : bit (2 ^ n - 1 - 0) j ≡ 1 - bit 0 j = bit_of_not n 0 j lt (pow_pos n) in
      let zero_bit : bit 0 j ≡ 0 = ap (λ (x : ℕ). x % 2) (div-eq_of_lt (pow_pos j)) in
      let same : 2 ^ n - 1 - 0 ≡ 2 ^ n - 1 = omega arith in
      eq-eqb (bit (2 ^ n - 1) j) 1 (ap (λ (x : ℕ). bit x j) (sym same) ∙ low ∙ omega arith) ∙ sym (lt-ltb j n lt)
  | inr ge ↦
      ap (λ (x : ℕ). eqb (x % 2) 1) (div-eq_of_lt (omega (arith, pow_mono ge, pow_pos n))) ∙ sym (le-ltb j n ge)
]
