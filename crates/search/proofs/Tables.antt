-- A table that follows the rule of the vertex bound, V(n) = n * (1 + V(n - 1)).
use Rattle.std.proofs.Common.{◌≡◌, ℕ, zero, suc, ◌+◌, ◌*◌, ◌<◌, Bool, true, ◌&&◌, eqb, List, [], ◌∷◌, length, get_or, sym, refl, ap, ◌∙◌, add-zero, zero-add, arith}
use Rattle.std.proofs.lemmas.Bool.{and_parts, eqb-true}
use Rattle.orders.specs.Search.{vertices}

-- the entries from the n-th on follow the rule
abbrev pub follows_rule : ℕ → List ℕ → Bool
follows_rule n [] = true
follows_rule n (v ∷ []) = true
follows_rule n (v ∷ w ∷ ws) = eqb w (suc n * (1 + v)) && follows_rule (suc n) (w ∷ ws)

entries : (n v : ℕ) (vs : List ℕ) (i : ℕ) → v ≡ vertices n → follows_rule n (v ∷ vs) ≡ true → i < length (v ∷ vs)
    → get_or (v ∷ vs) i 0 ≡ vertices (n + i)
entries n v vs zero e h l = e ∙ ap vertices (sym (add-zero n))
entries n v [] (suc i) e h l = absurd (omega arith)
entries n v (w ∷ ws) (suc i) e h l =
    let parts = and_parts (eqb w (suc n * (1 + v))) (follows_rule (suc n) (w ∷ ws)) h in
    let next : w ≡ vertices (suc n) = eqb-true w (suc n * (1 + v)) parts.0 ∙ ap (λ x. suc n * (1 + x)) e in
    let index : suc n + i ≡ n + suc i = omega arith in
    entries (suc n) w ws i next parts.1 (omega arith) ∙ ap vertices index

pub tabulated : (vs : List ℕ) (i n : ℕ) → n ≡ i → follows_rule 0 (0 ∷ vs) ≡ true → i < length (0 ∷ vs) → get_or (0 ∷ vs) i 0 ≡ vertices n
tabulated vs i n is h low = entries 0 0 vs i refl h low ∙ ap vertices (zero-add i ∙ sym is)
