-- The response times of tasks at levels below others, as a relation that is taken apart level by level.
use Rattle.std.proofs.Common.{◌≡◌, ℕ, suc, List, [], ◌∷◌, ◌++◌, length, Some, None, Option, sym, refl, ap, ◌∙◌, subst, append_assoc, append-nil, arith}
use Rattle.std.proofs.lemmas.Option.{none-some, same_Some}
use Rattle.orders.specs.Orders.{word, count, Test, both, times_below}
use Rattle.orders.proofs.Counts.{count_append}
use Rattle.orders.proofs.Words.{word_alike}

-- both answers are there
pub record Both (a : Option ℕ) (b : Option (List ℕ)) (ts : List ℕ) : Type 0 where
  pub head : ℕ
  pub tail : List ℕ
  pub is_head : a ≡ Some head
  pub is_tail : b ≡ Some tail
  pub is : ts ≡ head ∷ tail

pub both_are : (a : Option ℕ) (b : Option (List ℕ)) (ts : List ℕ) → both a b ≡ Some ts → Both a b ts
both_are None b ts e = absurd (none-some ts e)
both_are (Some r) None ts e = absurd (none-some ts e)
both_are (Some r) (Some rs) ts e = record { head = r; tail = rs; is_head = refl; is_tail = refl; is = sym (same_Some (r ∷ rs) ts e) }

module _ (answer : Test) where
  -- tasks have these response times, level by level below the tasks `above`
  abbrev pub Timed : List ℕ → List ℕ → List ℕ → Type 0
  Timed above [] [] = Unit {0}
  Timed above [] (t ∷ ts) = ⊥
  Timed above (i ∷ is) [] = ⊥
  Timed above (i ∷ is) (t ∷ ts) = (answer i (word above) ≡ Some t) × Timed (above ++ (i ∷ [])) is ts

  pub timed_from : (above is ts : List ℕ) → times_below answer above is ≡ Some ts → Timed above is ts
  timed_from above [] ts e = subst (Timed above []) (same_Some [] ts e) tt
  timed_from above (i ∷ is) ts e = go (both_are (answer i (word above)) (times_below answer (above ++ (i ∷ [])) is) ts e) (timed_from (above ++ (i ∷ [])) is)
    where
      go : Both (answer i (word above)) (times_below answer (above ++ (i ∷ [])) is) ts
          → ((us : List ℕ) → times_below answer (above ++ (i ∷ [])) is ≡ Some us → Timed (above ++ (i ∷ [])) is us) → Timed above (i ∷ is) ts
      go b rest = subst (Timed above (i ∷ is)) (sym b.is) (b.is_head, rest b.tail b.is_tail)

  pub times_from : (above is ts : List ℕ) → Timed above is ts → times_below answer above is ≡ Some ts
  times_from above [] [] h = refl
  times_from above [] (t ∷ ts) h = absurd h
  times_from above (i ∷ is) [] h = absurd h
  times_from above (i ∷ is) (t ∷ ts) h = rw (h.0, times_from (above ++ (i ∷ [])) is ts h.1)

  -- only the set of the tasks above counts
  pub timed_alike : (above other is ts : List ℕ) → ((i : ℕ) → count i above ≡ count i other) → Timed above is ts → Timed other is ts
  timed_alike above other [] [] e h = tt
  timed_alike above other [] (t ∷ ts) e h = h
  timed_alike above other (i ∷ is) [] e h = h
  timed_alike above other (i ∷ is) (t ∷ ts) e h = (
    ap (answer i) (sym (word_alike above other e)) ∙ h.0,
    timed_alike (above ++ (i ∷ [])) (other ++ (i ∷ [])) is ts
        (λ j. omega (arith, e j, count_append j above (i ∷ []), count_append j other (i ∷ []))) h.1,
  )

  -- the levels of a list and of one below it
  pub record Split (above xs ys ts : List ℕ) : Type 0 where
    pub upper : List ℕ
    pub lower : List ℕ
    pub is : ts ≡ upper ++ lower
    pub timed_upper : Timed above xs upper
    pub timed_lower : Timed (above ++ xs) ys lower

  pub split : (above xs ys ts : List ℕ) → Timed above (xs ++ ys) ts → Split above xs ys ts
  split above [] ys ts h = record { upper = []; lower = ts; is = refl; timed_upper = tt; timed_lower = rw append-nil h }
  split above (x ∷ xs) ys [] h = absurd h
  split above (x ∷ xs) ys (t ∷ ts) h = go (split (above ++ (x ∷ [])) xs ys ts h.1)
    where
      go : Split (above ++ (x ∷ [])) xs ys ts → Split above (x ∷ xs) ys (t ∷ ts)
      go s = record {
        upper = t ∷ s.upper;
        lower = s.lower;
        is = ap (λ us. t ∷ us) s.is;
        timed_upper = (h.0, s.timed_upper);
        timed_lower = rw append_assoc at s.timed_lower;
      }

  pub length_timed : (above is ts : List ℕ) → Timed above is ts → length is ≡ length ts
  length_timed above [] [] h = refl
  length_timed above [] (t ∷ ts) h = absurd h
  length_timed above (i ∷ is) [] h = absurd h
  length_timed above (i ∷ is) (t ∷ ts) h = ap suc (length_timed (above ++ (i ∷ [])) is ts h.1)

  pub answered_at : (above : List ℕ) (i : ℕ) (is ts : List ℕ) → Timed above (i ∷ is) ts → (t : ℕ) × (answer i (word above) ≡ Some t)
  answered_at above i is [] h = absurd h
  answered_at above i is (t ∷ ts) h = (t, h.0)
