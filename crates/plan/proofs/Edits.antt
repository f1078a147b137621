-- One task more or less among the held tasks.
use Rattle.std.proofs.Common.{◌≡◌, ℕ, suc, ◌+◌, ◌-◌, Bool, true, false, cond, ◌||◌, eqb, ltb, List, [], ◌∷◌, ◌++◌, map, length, take, drop, refl, ap, append_assoc, add-one}
use native.Mathlib.Nat.{sub-zero}
use Rattle.std.specs.List.{remove}
use Rattle.std.proofs.lemmas.List.{take_rest, map-append, take-map, drop-map}
use Rattle.tasks.specs.declared.task.Task.{Task}
use Rattle.tasks.specs.Tasks.{plain}
use Rattle.tasks.specs.declared.task.Candidate.{Candidate}
use Rattle.law.specs.Held.{has, inserted, without}
use Rattle.plan.specs.Ids.{place, rank}

pub inserted_at : (c : Candidate) (cs : List Candidate) → inserted c cs ≡ take (rank c.id cs) cs ++ c ∷ drop (rank c.id cs) cs
inserted_at c [] = refl
inserted_at c (t ∷ ts) = step (ltb c.id t.id) (inserted_at c ts)
  where
    step : (b : Bool) → inserted c ts ≡ take (rank c.id ts) ts ++ c ∷ drop (rank c.id ts) ts
        → cond b (c ∷ t ∷ ts) (t ∷ inserted c ts)
        ≡ take (cond b 0 (suc (rank c.id ts))) (t ∷ ts) ++ c ∷ drop (cond b 0 (suc (rank c.id ts))) (t ∷ ts)
    step true h = refl
    step false h = ap (λ xs. t ∷ xs) h

pub without_at : (id : ℕ) (cs : List Candidate) → has id cs ≡ true → without id cs ≡ take (place id cs) cs ++ drop (suc (place id cs)) cs
without_at id [] h = refl
without_at id (t ∷ ts) h = step (eqb t.id id) h (without_at id ts)
  where
    step : (b : Bool) → (b || has id ts) ≡ true → (has id ts ≡ true → without id ts ≡ take (place id ts) ts ++ drop (suc (place id ts)) ts)
        → cond b ts (t ∷ without id ts)
        ≡ take (cond b 0 (suc (place id ts))) (t ∷ ts) ++ drop (suc (cond b 0 (suc (place id ts)))) (t ∷ ts)
    step true e h = refl
    step false e h = ap (λ xs. t ∷ xs) (h e)

module _ (ts : List Task) (t : Task) (at : ℕ) (made front pushed whole : List Task) where
  -- the front of the tasks, a new one, and the rest
  pub put_between : made ≡ [] → front ≡ made ++ take (at - 0) ts → pushed ≡ front ++ (t ∷ []) → whole ≡ pushed ++ take (length ts - at) (drop at ts)
      → at ≡ rank t.id (map plain ts) → map plain whole ≡ inserted (plain t) (map plain ts)
  put_between m f p w e =
      let all : whole ≡ take at ts ++ (t ∷ drop at ts)
      = rw (w, p, f, m, sub-zero, take_rest ts at) (append_assoc (take at ts) (t ∷ []) (drop at ts)) in
      rw (inserted_at (plain t) (map plain ts), ← e, all, map-append plain, take-map plain, drop-map plain) refl

module _ (ts : List Task) (at : ℕ) (made front whole : List Task) where
  -- the front of the tasks and the rest without one
  pub left_out : made ≡ [] → front ≡ made ++ take (at - 0) ts → whole ≡ front ++ take (length ts - (at + 1)) (drop (at + 1) ts)
      → map plain whole ≡ remove (map plain ts) at
  left_out m f w = rw (w, f, m, sub-zero, take_rest ts (at + 1), map-append plain, take-map plain, drop-map plain, add-one) refl
