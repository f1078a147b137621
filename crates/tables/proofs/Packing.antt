-- Bytes, the number that they write, and the numbers that stand in it.
use Rattle.std.proofs.Common.{◌≡◌, ℕ, zero, suc, ◌+◌, ◌-◌, ◌*◌, ◌/◌, ◌%◌, ◌^◌, ◌<◌, ◌≤◌, List, [], ◌∷◌, length, get_or, sym, refl, ap, ◌∙◌, ⊎_elim, mul_assoc, mul_comm, add-mul, pow-suc, zero-add, arith}
use native.Mathlib.Nat.{add-mul-mod_self_right, pow-le-pow_right}
use lib.Bits.{bit_or}
use Rattle.std.specs.Int.Digits.{number_from_digits, number_from_digits_after, AllBelowBase}
use Rattle.std.proofs.lemmas.Nat.{field_of, mod_below, mod_low, mod-pow-add, mul-add-lt, or_shifted, pow-add, pow_pos, shl_whole, shr_high, shr-shr}
use Rattle.std.proofs.lemmas.Int.Digits.{number_lt}
use Rattle.std.proofs.lemmas.Bool.{cases_lt}
use Rattle.tables.specs.Bits.{field, bytes_of}

pow_8 : (k : ℕ) → 2 ^ (8 * suc k) ≡ 256 * 2 ^ (8 * k)
pow_8 k = let e : 8 * suc k ≡ 8 + 8 * k = omega arith in rw e (pow-add 2 8 (8 * k))

pow_256 : (k : ℕ) → 256 ^ k ≡ 2 ^ (8 * k)
pow_256 zero = refl
pow_256 (suc k) = let ih = pow_256 k in rw (pow_8 k, pow-suc) (omega arith)

-- a number is below what its bytes can write
pub below_bytes : (bytes : List ℕ) → AllBelowBase 256 bytes → number_from_digits 256 bytes < 2 ^ (8 * length bytes)
below_bytes bytes u = rw (sym (pow_256 (length bytes))) (number_lt 256 bytes u)

regroup : (n b p s : ℕ) → (n * 256 + b) * p + s ≡ n * (256 * p) + (b * p + s)
regroup n b p s = simp (add-mul, mul_assoc) (omega arith)

-- what follows a number stands below it
pub after_is : (n : ℕ) (bytes : List ℕ) → number_from_digits_after 256 n bytes ≡ n * 2 ^ (8 * length bytes) + number_from_digits 256 bytes
after_is n [] = omega arith
after_is n (b ∷ bs) =
    after_is (n * 256 + b) bs
    ∙ rw (pow_8 (length bs), after_is (0 + b) bs, zero-add) (regroup n b (2 ^ (8 * length bs)) (number_from_digits 256 bs))

pub bytes_of_length : (k n : ℕ) → length (bytes_of k n) ≡ k
unfolding bytes_of
bytes_of_length zero n = refl
bytes_of_length (suc k) n = ap suc (bytes_of_length k n)

-- the bytes of a number write it
pub number_bytes_of : (k n m : ℕ) → number_from_digits_after 256 m (bytes_of k n) ≡ m * 2 ^ (8 * k) + n % 2 ^ (8 * k)
unfolding bytes_of
number_bytes_of zero n m = omega arith
number_bytes_of (suc k) n m =
    let e : 8 * suc k ≡ 8 + 8 * k = omega arith in
    number_bytes_of k n (m * 256 + n / 2 ^ (8 * k) % 256)
    ∙ rw (e, mod-pow-add n 8 (8 * k), pow-add 2 8 (8 * k)) (regroup m (n / 2 ^ (8 * k) % 256) (2 ^ (8 * k)) (n % 2 ^ (8 * k)))

-- bytes are those of the number that they write
pub bytes_of_number : (bytes : List ℕ) (m : ℕ) → AllBelowBase 256 bytes → bytes_of (length bytes) (number_from_digits_after 256 m bytes) ≡ bytes
unfolding bytes_of
bytes_of_number [] m u = refl
bytes_of_number (b ∷ bs) m u =
    let small : number_from_digits 256 bs < 2 ^ (8 * length bs) = below_bytes bs u.1 in
    let high : number_from_digits_after 256 (m * 256 + b) bs / 2 ^ (8 * length bs) ≡ m * 256 + b
    = rw (after_is (m * 256 + b) bs) (shr_high (m * 256 + b) (8 * length bs) (number_from_digits 256 bs) small) in
    let byte : number_from_digits_after 256 (m * 256 + b) bs / 2 ^ (8 * length bs) % 256 ≡ b = rw high (mod_low m 8 b u.0) in
    let rest = bytes_of_number bs (m * 256 + b) u.1 in cc

-- one more number behind those packed so far
module _ (word bits width value : ℕ) (w : word < 2 ^ bits) (v : value < 2 ^ width) (room : bits + width ≤ 128) where
  pub put_value : bit_or ((word * 2 ^ width) % 2 ^ 128) value ≡ word * 2 ^ width + value
  put_value = rw (shl_whole word bits width 128 w room) (or_shifted word width value v)

  pub put_small : bit_or ((word * 2 ^ width) % 2 ^ 128) value < 2 ^ (bits + width)
  put_small = rw (put_value, pow-add 2 bits width, mul_comm (2 ^ bits) (2 ^ width)) (mul-add-lt word (2 ^ width) value (2 ^ bits) w v)

-- a field of one more bit
pub field_more : (bytes : List ℕ) (at width : ℕ) → at + width < 8 * length bytes
    → field bytes at (width + 1) ≡ 2 * field bytes at width + field bytes (at + width) 1
field_more bytes at width h =
    let s = 8 * length bytes - at - (width + 1) in
    let wide : 8 * length bytes - at - width ≡ s + 1 = omega arith in
    let last : 8 * length bytes - (at + width) - 1 ≡ s = omega arith in
    rw (wide, last, mod-pow-add (number_from_digits 256 bytes / 2 ^ s) width 1, shr-shr (number_from_digits 256 bytes) s 1) (omega arith)

-- a field of up to 32 bits, while it is read
pub field_room : (bytes : List ℕ) (at width : ℕ) → width < 32 → 2 * field bytes at width + 1 < 2 ^ 32
field_room bytes at width h =
    let small = mod_below (number_from_digits 256 bytes / 2 ^ (8 * length bytes - at - width)) (2 ^ width) (pow_pos width) in
    let short : width ≤ 31 = omega arith in
    let large : 2 ^ width ≤ 2 ^ 31 = pow-le-pow_right {n = 2} (omega arith) short in omega arith

-- a field of one bit is a bit of one byte
first_byte : (b : ℕ) (bs : List ℕ) (at : ℕ) → AllBelowBase 256 bs → at < 8 → field (b ∷ bs) at 1 ≡ b / 2 ^ (7 - at) % 2
first_byte b bs at u h =
    let t = 8 * length bs in
    let e : 8 * suc (length bs) - at - 1 ≡ t + (7 - at) = omega arith in
    let n : number_from_digits 256 (b ∷ bs) ≡ b * 2 ^ t + number_from_digits 256 bs = after_is (0 + b) bs ∙ rw zero-add in
    rw (e, n, ← shr-shr (b * 2 ^ t + number_from_digits 256 bs) t (7 - at), shr_high b t (number_from_digits 256 bs) (below_bytes bs u))

lifted : (b j k r : ℕ) → b * 2 ^ (j + k) + r ≡ r + (b * 2 ^ j) * 2 ^ k
lifted b j k r = rw (pow-add 2 j k, mul_assoc b (2 ^ j) (2 ^ k)) (omega arith)

later_byte : (b : ℕ) (bs : List ℕ) (at : ℕ) → at < 8 * length bs → field (b ∷ bs) (8 + at) 1 ≡ field bs at 1
later_byte b bs at h =
    let t = 8 * length bs in
    let s = t - at - 1 in
    let e : 8 * suc (length bs) - (8 + at) - 1 ≡ s = omega arith in
    let n : number_from_digits 256 (b ∷ bs) ≡ b * 2 ^ t + number_from_digits 256 bs = after_is (0 + b) bs ∙ rw zero-add in
    let whole : t ≡ (t - (1 + s)) + (1 + s) = omega arith in
    let high : b * 2 ^ t + number_from_digits 256 bs ≡ number_from_digits 256 bs + (b * 2 ^ (t - (1 + s))) * 2 ^ (1 + s)
    = ap (λ x. b * 2 ^ x + number_from_digits 256 bs) whole ∙ lifted b (t - (1 + s)) (1 + s) (number_from_digits 256 bs) in
    rw (e, n, high, ← field_of (number_from_digits 256 bs + (b * 2 ^ (t - (1 + s))) * 2 ^ (1 + s)) 1 s, add-mul-mod_self_right (number_from_digits 256 bs) (b * 2 ^ (t - (1 + s))) (2 ^ (1 + s)))
    (field_of (number_from_digits 256 bs) 1 s)

pub field_bit : (bytes : List ℕ) (at : ℕ) → AllBelowBase 256 bytes → at < 8 * length bytes
    → field bytes at 1 ≡ get_or bytes (at / 8) 0 / 2 ^ (7 - at % 8) % 2
field_bit [] at u h = absurd (omega arith)
field_bit (b ∷ bs) at u h = ⊎_elim
    (λ low.
    let first : at / 8 ≡ 0 = omega arith in
    let place : at % 8 ≡ at = omega arith in
    rw (first, place) (first_byte b bs at u.1 low))
    (λ high.
    let q = at - 8 in
    let is : at ≡ 8 + q = omega arith in
    let byte : at / 8 ≡ suc (q / 8) = omega arith in
    let place : at % 8 ≡ q % 8 = omega arith in
    let inside : q < 8 * length bs = omega arith in
    rw (byte, place) (ap (λ p. field (b ∷ bs) p 1) is ∙ (later_byte b bs q inside ∙ field_bit bs q u.1 inside)))
    (cases_lt at 8)
