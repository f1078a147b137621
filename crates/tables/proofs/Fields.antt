-- Numbers packed behind one another, and how they are found again.
use Rattle.std.proofs.Common.{◌≡◌, ℕ, zero, suc, ◌+◌, ◌-◌, ◌*◌, ◌/◌, ◌%◌, ◌^◌, ◌<◌, List, [], ◌∷◌, length, get_or, drop, sym, refl, ap, ◌∙◌, mod-eq_of_lt, mul_assoc, mul_comm, add-mul, zero-add, zero-mul, arith}
use Rattle.std.specs.Int.Digits.{number_from_digits, AllBelowBase}
use Rattle.std.specs.List.{AllByRecursion}
use Rattle.std.proofs.lemmas.Nat.{mod_low, shr_high, mul-add-lt, mod-pow-add, pow-add}
use Rattle.tables.specs.Bits.{field, packed, bytes_of}
use Rattle.tables.specs.Tables.{candidate, header_in, record_fields, header_fields, record_bytes}
use Rattle.tasks.specs.declared.task.Candidate.{Candidate}
use Rattle.tables.proofs.Packing.{bytes_of_length, bytes_of_number, number_bytes_of, below_bytes}

-- the bits of some fields, and that each value fits its width
abbrev pub total : List (ℕ × ℕ) → ℕ
total [] = 0
total (f ∷ fs) = f.0 + total fs

abbrev pub Fit : List (ℕ × ℕ) → Type 0
Fit fs = AllByRecursion (λ f. f.1 < 2 ^ f.0) fs

regroup : (n w v t s : ℕ) → (n * w + v) * t + s ≡ n * (w * t) + (v * t + s)
regroup n w v t s = simp (add-mul, mul_assoc) (omega arith)

-- what stands behind a number does not reach it
packed_after : (n : ℕ) (fs : List (ℕ × ℕ)) → packed n fs ≡ n * 2 ^ total fs + packed 0 fs
packed_after n [] = omega arith
packed_after n ((w, v) ∷ fs) =
    packed_after (n * 2 ^ w + v) fs
    ∙ rw (pow-add 2 w (total fs), packed_after (0 * 2 ^ w + v) fs, zero-mul, zero-add) (regroup n (2 ^ w) v (2 ^ total fs) (packed 0 fs))

pub packed_small : (fs : List (ℕ × ℕ)) → Fit fs → packed 0 fs < 2 ^ total fs
packed_small [] fit = omega arith
packed_small ((w, v) ∷ fs) fit =
    rw (packed_after (0 * 2 ^ w + v) fs, zero-mul, zero-add, pow-add 2 w (total fs), mul_comm (2 ^ w) (2 ^ total fs))
    (mul-add-lt v (2 ^ total fs) (packed 0 fs) (2 ^ w) fit.0 (packed_small fs fit.1))

-- the value of the field i
pub packed_field : (n : ℕ) (fs : List (ℕ × ℕ)) (i : ℕ) → i < length fs → Fit fs
    → packed n fs / 2 ^ total (drop (suc i) fs) % 2 ^ (get_or fs i (0, 0)).0 ≡ (get_or fs i (0, 0)).1
packed_field n [] i h fit = absurd (omega arith)
packed_field n ((w, v) ∷ fs) zero h fit =
    rw (packed_after (n * 2 ^ w + v) fs, shr_high (n * 2 ^ w + v) (total fs) (packed 0 fs) (packed_small fs fit.1))
    (mod_low n w v fit.0)
packed_field n ((w, v) ∷ fs) (suc i) h fit = packed_field (n * 2 ^ w + v) fs i (omega arith) fit.1

-- the fields of a number, by their widths
abbrev sum : List ℕ → ℕ
sum [] = 0
sum (w ∷ ws) = w + sum ws

abbrev split : List ℕ → ℕ → List (ℕ × ℕ)
split [] n = []
split (w ∷ ws) n = (w, n / 2 ^ sum ws % 2 ^ w) ∷ split ws n

packed_split : (ws : List ℕ) (n m : ℕ) → packed m (split ws n) ≡ m * 2 ^ sum ws + n % 2 ^ sum ws
packed_split [] n m = omega arith
packed_split (w ∷ ws) n m =
    packed_split ws n (m * 2 ^ w + n / 2 ^ sum ws % 2 ^ w)
    ∙ rw (mod-pow-add n w (sum ws), pow-add 2 w (sum ws)) (regroup m (2 ^ w) (n / 2 ^ sum ws % 2 ^ w) (2 ^ sum ws) (n % 2 ^ sum ws))

-- a field of the bytes of a number is one of the number
pub field_bytes_of : (k n at width : ℕ) → n < 2 ^ (8 * k) → field (bytes_of k n) at width ≡ n / 2 ^ (8 * k - at - width) % 2 ^ width
field_bytes_of k n at width h =
    let e : number_from_digits 256 (bytes_of k n) ≡ n = number_bytes_of k n 0 ∙ omega (arith, mod-eq_of_lt h) in rw (bytes_of_length k n, e)

-- a record gives back the numbers that were written into it, and its spare bit is clear
module _ (c : Candidate) (fit : Fit (record_fields c)) where
  pub record_back : (candidate (record_bytes c) ≡ c) × (field (record_bytes c) 7 1 ≡ 0)
  record_back =
      let fs = record_fields c in
      let small = packed_small fs fit in
      let id : field (record_bytes c) 0 6 ≡ c.id = field_bytes_of 12 (packed 0 fs) 0 6 small ∙ packed_field 0 fs 0 (omega arith) fit in
      let tier : field (record_bytes c) 6 1 ≡ c.tier = field_bytes_of 12 (packed 0 fs) 6 1 small ∙ packed_field 0 fs 1 (omega arith) fit in
      let spare : field (record_bytes c) 7 1 ≡ 0 = field_bytes_of 12 (packed 0 fs) 7 1 small ∙ packed_field 0 fs 2 (omega arith) fit in
      let weight : field (record_bytes c) 8 16 ≡ c.weight = field_bytes_of 12 (packed 0 fs) 8 16 small ∙ packed_field 0 fs 3 (omega arith) fit in
      let section : field (record_bytes c) 24 12 ≡ c.section = field_bytes_of 12 (packed 0 fs) 24 12 small ∙ packed_field 0 fs 4 (omega arith) fit in
      let execution : field (record_bytes c) 36 20 ≡ c.execution = field_bytes_of 12 (packed 0 fs) 36 20 small ∙ packed_field 0 fs 5 (omega arith) fit in
      let deadline : field (record_bytes c) 56 20 ≡ c.deadline = field_bytes_of 12 (packed 0 fs) 56 20 small ∙ packed_field 0 fs 6 (omega arith) fit in
      let period : field (record_bytes c) 76 20 ≡ c.period = field_bytes_of 12 (packed 0 fs) 76 20 small ∙ packed_field 0 fs 7 (omega arith) fit in
      ((λ i. record { id = id i; tier = tier i; weight = weight i; section = section i; execution = execution i; deadline = deadline i; period = period i }), spare)

-- bytes are those of the fields in them, packed again
packed_same : (k : ℕ) (widths : List ℕ) (bytes : List ℕ) → sum widths ≡ 8 * k → length bytes ≡ k → AllBelowBase 256 bytes
    → bytes_of k (packed 0 (split widths (number_from_digits 256 bytes))) ≡ bytes
packed_same k widths bytes all size under =
    let n = number_from_digits 256 bytes in
    let small : n < 2 ^ (8 * k) = rw size at (below_bytes bytes under) in
    let same : packed 0 (split widths n) ≡ n = rw all at (packed_split widths n 0) ∙ omega (arith, mod-eq_of_lt small) in
    ap (bytes_of k) same ∙ rw size at (bytes_of_number bytes 0 under)

-- twelve bytes with their spare bit clear are the record of the numbers in them
pub record_same : (bytes : List ℕ) → length bytes ≡ 12 → AllBelowBase 256 bytes → field bytes 7 1 ≡ 0 → record_bytes (candidate bytes) ≡ bytes
record_same bytes size under spare =
    let widths = 6 ∷ 1 ∷ 1 ∷ 16 ∷ 12 ∷ 20 ∷ 20 ∷ 20 ∷ [] in
    let at : (k width : ℕ) → field bytes k width ≡ number_from_digits 256 bytes / 2 ^ (96 - k - width) % 2 ^ width = λ k width. rw size in
    let fields : record_fields (candidate bytes) ≡ split widths (number_from_digits 256 bytes)
    = λ i. (6, at 0 6 i) ∷ (1, at 6 1 i) ∷ (1, (sym spare ∙ at 7 1) i) ∷ (16, at 8 16 i) ∷ (12, at 24 12 i) ∷ (20, at 36 20 i) ∷ (20, at 56 20 i) ∷ (20, at 76 20 i) ∷ [] in
    ap (λ (fs : List (ℕ × ℕ)). bytes_of 12 (packed 0 fs)) fields ∙ packed_same 12 widths bytes refl size under

-- the same of a header
module _ (test cost count : ℕ) (fit : Fit (header_fields test cost count)) where
  pub header_back : header_in (bytes_of 2 (packed 0 (header_fields test cost count))) ≡ record { format = 1; test = test; cost = cost; spare = 0; count = count }
  header_back =
      let fs = header_fields test cost count in
      let small = packed_small fs fit in
      let bytes = bytes_of 2 (packed 0 fs) in
      let format-is : field bytes 0 4 ≡ 1 = field_bytes_of 2 (packed 0 fs) 0 4 small ∙ packed_field 0 fs 0 (omega arith) fit in
      let test-is : field bytes 4 2 ≡ test = field_bytes_of 2 (packed 0 fs) 4 2 small ∙ packed_field 0 fs 1 (omega arith) fit in
      let cost_is : field bytes 6 2 ≡ cost = field_bytes_of 2 (packed 0 fs) 6 2 small ∙ packed_field 0 fs 2 (omega arith) fit in
      let spare-is : field bytes 8 3 ≡ 0 = field_bytes_of 2 (packed 0 fs) 8 3 small ∙ packed_field 0 fs 3 (omega arith) fit in
      let count-is : field bytes 11 5 ≡ count = field_bytes_of 2 (packed 0 fs) 11 5 small ∙ packed_field 0 fs 4 (omega arith) fit in
      λ i. record { format = format-is i; test = test-is i; cost = cost_is i; spare = spare-is i; count = count-is i }

pub header_same : (bytes : List ℕ) (test cost count : ℕ) → length bytes ≡ 2 → AllBelowBase 256 bytes
    → header_in bytes ≡ record { format = 1; test = test; cost = cost; spare = 0; count = count }
    → bytes_of 2 (packed 0 (header_fields test cost count)) ≡ bytes
header_same bytes test cost count size under e =
    let widths = 4 ∷ 2 ∷ 2 ∷ 3 ∷ 5 ∷ [] in
    let at : (k width : ℕ) → field bytes k width ≡ number_from_digits 256 bytes / 2 ^ (16 - k - width) % 2 ^ width = λ k width. rw size in
    let fields : header_fields test cost count ≡ split widths (number_from_digits 256 bytes)
    = λ i. (4, (sym (ap (λ h. h.format) e) ∙ at 0 4) i) ∷ (2, (sym (ap (λ h. h.test) e) ∙ at 4 2) i) ∷ (2, (sym (ap (λ h. h.cost) e) ∙ at 6 2) i) ∷ (3, (sym (ap (λ h. h.spare) e) ∙ at 8 3) i) ∷ (5, (sym (ap (λ h. h.count) e) ∙ at 11 5) i) ∷ [] in
    ap (λ (fs : List (ℕ × ℕ)). bytes_of 2 (packed 0 fs)) fields ∙ packed_same 2 widths bytes refl size under
