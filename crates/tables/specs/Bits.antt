-- Numbers packed into bytes, the most significant bit first.
use Rattle.std.specs.Prelude.{◌≡◌, ℕ, zero, suc, ◌+◌, ◌-◌, ◌*◌, ◌/◌, ◌%◌, ◌^◌, ◌<◌, ◌≤◌, List, [], ◌∷◌, length, Ok, Err, Result}
use Rattle.std.specs.Int.Digits.{number_from_digits}
use Rattle.tasks.specs.declared.fault.FileFault.{FileFault}
use Rattle.tasks.specs.declared.fault.FileFault.TheVariants.{Length}

-- the number that stands in `width` bits of the bytes, from bit `at`
abbrev pub field : List ℕ → ℕ → ℕ → ℕ
field bytes at width = number_from_digits 256 bytes / 2 ^ (8 * length bytes - at - width) % 2 ^ width

-- numbers packed one after another, each with its width, behind the number n
abbrev pub packed : ℕ → List (ℕ × ℕ) → ℕ
packed n [] = n
packed n ((width, value) ∷ rest) = packed (n * 2 ^ width + value) rest

-- the last k bytes of a number, the highest first
unfoldable pub bytes_of : ℕ → ℕ → List ℕ
bytes_of zero n = []
bytes_of (suc k) n = (n / 2 ^ (8 * k) % 256) ∷ bytes_of k n

-- what taking `width` bits from bit `at` gives, and where the next bit is then
abbrev pub Taken : List ℕ → ℕ → ℕ → Result ℕ FileFault → ℕ → Type 0
Taken bytes at width (Ok v) next = (at + width ≤ 8 * length bytes) × (v ≡ field bytes at width) × (next ≡ at + width)
Taken bytes at width (Err e) next = (8 * length bytes < at + width) × (e ≡ Length) × (next ≡ at)
