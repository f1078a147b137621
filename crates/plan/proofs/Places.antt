-- Where an id stands among the tasks, from the place that a search of the list finds.
use Rattle.std.proofs.Common.{◌≡◌, ℕ, suc, ◌+◌, ◌≤◌, Bool, true, false, cond, not, ◌||◌, eqb, ltb, List, [], ◌∷◌, map, length, Some, None, Option, sym, refl, ap, ◌∙◌, subst, arith, ltb-false, ltb-true, le-ltb, lt-ltb, one-add}
use Rattle.std.specs.List.{prefix_len, position}
use Rattle.std.specs.Option.{unwrap_or}
use Rattle.std.proofs.lemmas.List.{length-map}
use Rattle.std.proofs.lemmas.List.Sums.{prefix_len-le-length}
use Rattle.tasks.specs.declared.task.Candidate.{Candidate}
use Rattle.tasks.specs.declared.task.Task.{Task}
use Rattle.tasks.specs.Tasks.{plain}
use Rattle.law.specs.Held.{has}
use Rattle.plan.specs.Ids.{place, rank, Found}

-- the first place at which a test passes, counted from the front
first_place : (test : Task → Bool) (count : List Candidate → ℕ) → count [] ≡ 0
    → ((t : Task) (cs : List Candidate) → count (plain t ∷ cs) ≡ cond (test t) 0 (suc (count cs)))
    → (ts : List Task) → prefix_len (λ t. not (test t)) ts ≡ count (map plain ts)
first_place test count none more [] = sym none
first_place test count none more (t ∷ ts) = step (test t) (first_place test count none more ts) ∙ sym (more t (map plain ts))
  where
    step : (b : Bool) {p q : ℕ} → p ≡ q → cond (not b) (1 + p) 0 ≡ cond b 0 (suc q)
    step true e = refl
    step false {p} e = one-add p ∙ ap suc e

place_is : (id : ℕ) (ts : List Task) → prefix_len (λ t. not (eqb t.id id)) ts ≡ place id (map plain ts)
place_is id = first_place (λ t. eqb t.id id) (place id) refl (λ t cs. refl)

rank_is : (id : ℕ) (ts : List Task) → prefix_len (λ t. not (ltb id t.id)) ts ≡ rank id (map plain ts)
rank_is id = first_place (λ t. ltb id t.id) (rank id) refl (λ t cs. refl)

known : (id : ℕ) (cs : List Candidate) → ltb (place id cs) (length cs) ≡ has id cs
known id [] = refl
known id (c ∷ cs) = step (eqb c.id id) (place id cs) (length cs) (has id cs) (known id cs)
  where
    step : (b : Bool) (p n : ℕ) (h : Bool) → ltb p n ≡ h → ltb (cond b 0 (suc p)) (suc n) ≡ (b || h)
    step true p n h e = lt-ltb _ _ (omega arith)
    step false p n true e = lt-ltb _ _ (omega (arith, ltb-true _ _ e))
    step false p n false e = le-ltb _ _ (omega (arith, ltb-false _ _ e))

found : (id : ℕ) (cs : List Candidate) (b : Bool) → has id cs ≡ b → Found id cs (cond b (Some (place id cs)) None)
found id cs true h = (h, refl, ltb-true _ _ (known id cs ∙ h))
found id cs false h = h

-- looking an id up finds its place
pub found_at : (id : ℕ) (ts : List Task) (r : Option ℕ) → r ≡ position (λ t. eqb t.id id) ts → Found id (map plain ts) r
found_at id ts r e =
    let cs = map plain ts in
    let same : r ≡ cond (has id cs) (Some (place id cs)) None
    = e ∙ (λ i. cond (ltb (place_is id ts i) (sym (length-map ts plain) i)) (Some (place_is id ts i)) None)
    ∙ ap (λ b. cond b (Some (place id cs)) None) (known id cs) in
    subst (Found id cs) (sym same) (found id cs (has id cs) refl)

clipped : (p n : ℕ) → p ≤ n → unwrap_or (cond (ltb p n) (Some p) None) n ≡ p
clipped p n h = step (ltb p n) refl
  where
    step : (b : Bool) → ltb p n ≡ b → unwrap_or (cond b (Some p) None) n ≡ p
    step true e = refl
    step false e = omega (arith, ltb-false _ _ e)

-- the place before the first larger id, or the end
pub rank_at : (id : ℕ) (ts : List Task) (r : ℕ) → r ≡ unwrap_or (position (λ t. ltb id t.id) ts) (length ts) → r ≡ rank id (map plain ts)
rank_at id ts r e = e ∙ clipped (prefix_len (λ t. not (ltb id t.id)) ts) (length ts) (prefix_len-le-length (λ t. not (ltb id t.id)) ts) ∙ rank_is id ts
