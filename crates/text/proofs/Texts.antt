-- How long the lines are, and that their buffers have room for them.
use Rattle.std.proofs.Common.{◌≡◌, ℕ, ◌+◌, ◌^◌, ◌<◌, ◌≤◌, List, [], length, decimal, arith, length-append}
use Rattle.std.proofs.lemmas.Fmt.{length-decimal-le}
use Rattle.text.specs.Lines.{line}
use Rattle.text.specs.Texts.{level_line, cost_line, refusal_line}

pub length_level_line : (n id response : ℕ) → n ≤ 16 → id < 2 ^ 8 → response < 2 ^ 32 → length (level_line n (id, response)) ≤ 18
unfolding line
length_level_line n id response few small short =
    let a : length (decimal n) ≤ 2 = length-decimal-le 2 n (omega arith) (omega arith) (omega arith) in
    let b : length (decimal id) ≤ 3 = length-decimal-le 3 id (omega arith) (omega arith) (omega arith) in
    let c : length (decimal response) ≤ 10 = length-decimal-le 10 response (omega arith) (omega arith) (omega arith) in
    simp length-append (omega arith)

pub room_for_level : (text : List ℕ) (n id response : ℕ) → length text ≤ 270 → n ≤ 16 → id < 2 ^ 8 → response < 2 ^ 32
    → length text + length (level_line n (id, response)) ≤ 512
room_for_level text n id response held few small short = omega (arith, length_level_line n id response few small short)

pub room_for_cost : (text : List ℕ) (a b : ℕ) → length text ≤ 288 → a < 2 ^ 64 → b < 2 ^ 64 → length text + length (cost_line (a, b)) ≤ 512
unfolding line
room_for_cost text a b held ha hb =
    let x : length (decimal a) ≤ 20 = length-decimal-le 20 a (omega arith) (omega arith) ha in
    let y : length (decimal b) ≤ 20 = length-decimal-le 20 b (omega arith) (omega arith) hb in
    simp length-append (omega arith)

pub room_for_refusal : (text : List ℕ) (n r : ℕ) → text ≡ [] → n < 2 ^ 8 → r < 2 ^ 8 → length text + length (refusal_line n r) ≤ 32
unfolding line
room_for_refusal text n r none hn hr =
    let x : length (decimal n) ≤ 3 = length-decimal-le 3 n (omega arith) (omega arith) (omega arith) in
    let y : length (decimal r) ≤ 3 = length-decimal-le 3 r (omega arith) (omega arith) (omega arith) in
    rw none (simp length-append (omega arith))
