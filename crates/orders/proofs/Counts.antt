-- How often tasks stand in a list. Two lists that count alike are the same up to the order of their elements.
use Rattle.std.proofs.Common.{◌≡◌, ℕ, zero, suc, ◌+◌, ◌<◌, ◌≤◌, Bool, true, false, cond, eqb, List, [], ◌∷◌, ◌++◌, length, filter, sym, refl, ap, ◌∙◌, inl, inr, add_assoc, add_comm, zero-add, arith, length-append}
use Rattle.std.proofs.lemmas.Bool.{true≢false, false≢true, cases_Bool, eq-eqb, ne_eqb, cases_eq, cases_lt, cond-true, cond-false}
use Rattle.orders.specs.Orders.{same, count, upto, unplaced, Order}

pub same_self : (i : ℕ) → same i i ≡ 1
same_self i = cond-true (eqb i i) 1 0 (eq-eqb i i refl)

pub same_is : (i j : ℕ) → i ≡ j → same i j ≡ 1
same_is i j e = cond-true (eqb i j) 1 0 (eq-eqb i j e)

pub same_other : (i j : ℕ) → (i ≡ j → ⊥) → same i j ≡ 0
same_other i j ne = cond-false (eqb i j) 1 0 (ne_eqb i j ne)

pub count_append : (i : ℕ) (xs ys : List ℕ) → count i (xs ++ ys) ≡ count i xs + count i ys
count_append i [] ys = sym (zero-add (count i ys))
count_append i (x ∷ xs) ys = omega (arith, count_append i xs ys)

-- a task that stands in a list cuts it in two
pub record Cut (i : ℕ) (xs : List ℕ) : Type 0 where
  pub front : List ℕ
  pub back : List ℕ
  pub is : xs ≡ front ++ (i ∷ back)

pub cut : (i : ℕ) (xs : List ℕ) → 0 < count i xs → Cut i xs
cut i [] h = absurd (omega arith)
cut i (x ∷ xs) h = elim (cases_eq i x) [ inl e ↦ here e | inr ne ↦ there (cut i xs (omega (arith, same_other i x ne))) ]
  where
    here : i ≡ x → Cut i (x ∷ xs)
    here e = record { front = []; back = xs; is = ap (λ y. y ∷ xs) (sym e) }

    there : Cut i xs → Cut i (x ∷ xs)
    there k = record { front = x ∷ k.front; back = k.back; is = ap (λ ys. x ∷ ys) k.is }

-- ---- what is joined over lists that count alike is the same
module _ {V : Type 0} (none : V) (join : V → V → V) where
  abbrev pub joined : (ℕ → V) → List ℕ → V
  joined f [] = none
  joined f (i ∷ is) = join (f i) (joined f is)

module _ {V : Type 0} (none : V) (join : V → V → V)
    (assoc : (x y z : V) → join (join x y) z ≡ join x (join y z)) (comm : (x y : V) → join x y ≡ join y x) (f : ℕ → V) where
  swapped : (x y z : V) → join x (join y z) ≡ join y (join x z)
  swapped x y z = sym (assoc x y z) ∙ ap (λ w. join w z) (comm x y) ∙ assoc y x z

  joined_mid : (i : ℕ) (front back : List ℕ)
      → joined none join f (front ++ (i ∷ back)) ≡ join (f i) (joined none join f (front ++ back))
  joined_mid i [] back = refl
  joined_mid i (x ∷ front) back =
      ap (join (f x)) (joined_mid i front back) ∙ swapped (f x) (f i) (joined none join f (front ++ back))

  pub joined_alike : (xs ys : List ℕ) → ((i : ℕ) → count i xs ≡ count i ys) → joined none join f xs ≡ joined none join f ys
  joined_alike [] [] h = refl
  joined_alike [] (y ∷ ys) h = absurd (omega (arith, h y, same_self y))
  joined_alike (x ∷ xs) ys h = go (cut x ys (omega (arith, h x, same_self x))) (joined_alike xs)
    where
      go : (k : Cut x ys) → ((zs : List ℕ) → ((i : ℕ) → count i xs ≡ count i zs) → joined none join f xs ≡ joined none join f zs)
          → joined none join f (x ∷ xs) ≡ joined none join f ys
      go k rest =
          ap (join (f x)) (rest (k.front ++ k.back) (λ i. omega (arith, h i, ap (count i) k.is, count_append i k.front (x ∷ k.back), count_append i k.front k.back)))
          ∙ sym (joined_mid x k.front k.back) ∙ ap (joined none join f) (sym k.is)

length_joined : (xs : List ℕ) → joined 0 ◌+◌ (λ i. 1) xs ≡ length xs
length_joined [] = refl
length_joined (x ∷ xs) = omega (arith, length_joined xs)

pub length_alike : (xs ys : List ℕ) → ((i : ℕ) → count i xs ≡ count i ys) → length xs ≡ length ys
length_alike xs ys h =
    sym (length_joined xs) ∙ joined_alike 0 ◌+◌ add_assoc add_comm (λ i. 1) xs ys h ∙ length_joined ys

-- ---- the tasks of a plan

pub count_upto_else : (n i : ℕ) → n ≤ i → count i (upto n) ≡ 0
count_upto_else zero i h = refl
count_upto_else (suc n) i h = omega (arith, count_append i (upto n) (n ∷ []), same_other i n (λ e. omega arith), count_upto_else n i (omega arith))

pub count_upto : (n i : ℕ) → i < n → count i (upto n) ≡ 1
count_upto zero i h = absurd (omega arith)
count_upto (suc n) i h =
    elim (cases_eq i n) [
      | inl e ↦ omega (arith, count_append i (upto n) (n ∷ []), same_is i n e, count_upto_else n i (omega arith))
      | inr ne ↦ omega (arith, count_append i (upto n) (n ∷ []), same_other i n ne, count_upto n i (omega arith))
    ]

pub length_upto : (n : ℕ) → length (upto n) ≡ n
length_upto zero = refl
length_upto (suc n) = omega (arith, length-append (upto n) (n ∷ []), length_upto n)

-- a list is part of an order if it has no task twice, and none but those of the plan
pub record Front (n : ℕ) (v : List ℕ) : Type 0 where
  pub once : (i : ℕ) → count i v ≤ 1
  pub else_none : (i : ℕ) → n ≤ i → count i v ≡ 0

pub front_nothing : (n : ℕ) → Front n []
front_nothing n = record { once = λ i. omega arith; else_none = λ i g. refl }

pub front_of_order : (n : ℕ) (v rest : List ℕ) → Order n (v ++ rest) → Front n v
front_of_order n v rest o = record {
  once = λ i. elim (cases_lt i n) [
    | inl l ↦ omega (arith, o.once i l, count_append i v rest)
    | inr g ↦ omega (arith, o.else_none i g, count_append i v rest)
  ];
  else_none = λ i g. omega (arith, o.else_none i g, count_append i v rest);
}

pub count_kept : (p : ℕ → Bool) (i : ℕ) (xs : List ℕ) → p i ≡ true → count i (filter p xs) ≡ count i xs
count_kept p i [] e = refl
count_kept p i (x ∷ xs) e = go (p x) refl (count_kept p i xs e)
  where
    go : (b : Bool) → p x ≡ b → count i (filter p xs) ≡ count i xs → count i (cond b (x ∷ filter p xs) (filter p xs)) ≡ count i (x ∷ xs)
    go true f ih = omega arith
    go false f ih = omega (arith, same_other i x (λ q. true≢false (sym e ∙ ap p q ∙ f)))

pub count_dropped : (p : ℕ → Bool) (i : ℕ) (xs : List ℕ) → p i ≡ false → count i (filter p xs) ≡ 0
count_dropped p i [] e = refl
count_dropped p i (x ∷ xs) e = go (p x) refl (count_dropped p i xs e)
  where
    go : (b : Bool) → p x ≡ b → count i (filter p xs) ≡ 0 → count i (cond b (x ∷ filter p xs) (filter p xs)) ≡ 0
    go true f ih = omega (arith, same_other i x (λ q. false≢true (sym e ∙ ap p q ∙ f)))
    go false f ih = ih

pub count_kept_le : (p : ℕ → Bool) (i : ℕ) (xs : List ℕ) → count i (filter p xs) ≤ count i xs
count_kept_le p i xs = elim (cases_Bool (p i)) [ inl e ↦ omega (arith, count_kept p i xs e) | inr e ↦ omega (arith, count_dropped p i xs e) ]

lacks : List ℕ → ℕ → Bool
lacks v i = eqb (count i v) 0

pub count_unplaced : (n i : ℕ) (v : List ℕ) → count i v ≡ 0 → count i (unplaced n v) ≡ count i (upto n)
unfolding lacks
count_unplaced n i v h = count_kept (lacks v) i (upto n) (eq-eqb (count i v) 0 h)

pub count_placed : (n i : ℕ) (v : List ℕ) → 0 < count i v → count i (unplaced n v) ≡ 0
unfolding lacks
count_placed n i v h = count_dropped (lacks v) i (upto n) (ne_eqb (count i v) 0 (λ e. omega arith))

-- a task of the unplaced ones is one of the plan, and not placed
pub record Free (n : ℕ) (v : List ℕ) (i : ℕ) : Type 0 where
  pub below : i < n
  pub not_placed : count i v ≡ 0

pub unplaced_free : (n i : ℕ) (v : List ℕ) → 0 < count i (unplaced n v) → Free n v i
unplaced_free n i v h = record { below = elim (cases_lt i n) [ inl l ↦ l | inr g ↦ absurd (omega (arith, count_upto_else n i g, all)) ]; not_placed = not_placed }
  where
    not_placed : count i v ≡ 0
    not_placed = elim (cases_lt 0 (count i v)) [ inl l ↦ absurd (omega (arith, count_placed n i v l)) | inr g ↦ omega arith ]

    all : count i (unplaced n v) ≡ count i (upto n)
    all = count_unplaced n i v not_placed

module _ (n : ℕ) (v : List ℕ) (f : Front n v) where
  -- placed and unplaced tasks together are all
  pub all_counted : (i : ℕ) → count i v + count i (unplaced n v) ≡ count i (upto n)
  all_counted i = elim (cases_lt 0 (count i v)) [
    | inl l ↦ elim (cases_lt i n) [
      | inl m ↦ omega (arith, count_placed n i v l, count_upto n i m, f.once i)
      | inr g ↦ absurd (omega (arith, f.else_none i g))
    ]
    | inr g ↦ omega (arith, count_unplaced n i v (omega arith))
  ]

  pub length_unplaced : length v + length (unplaced n v) ≡ n
  length_unplaced =
      omega (
        arith,
        length-append v (unplaced n v),
        length_upto n,
        length_alike (v ++ unplaced n v) (upto n) (λ i. count_append i v (unplaced n v) ∙ all_counted i),
      )

  pub front_push : (i : ℕ) → Free n v i → Front n (v ++ (i ∷ []))
  front_push i h = record {
    once = λ j. elim (cases_eq j i) [
      | inl e ↦ omega (arith, count_append j v (i ∷ []), same_is j i e, ap (λ k. count k v) e, h.not_placed)
      | inr ne ↦ omega (arith, count_append j v (i ∷ []), same_other j i ne, f.once j)
    ];
    else_none = λ j g. omega (arith, count_append j v (i ∷ []), same_other j i (λ e. omega (arith, h.below)), f.else_none j g);
  }

  pub front_cons : (i : ℕ) → Free n v i → Front n (i ∷ v)
  front_cons i h = record {
    once = λ j. elim (cases_eq j i) [
      | inl e ↦ omega (arith, same_is j i e, ap (λ k. count k v) e, h.not_placed)
      | inr ne ↦ omega (arith, same_other j i ne, f.once j)
    ];
    else_none = λ j g. omega (arith, same_other j i (λ e. omega (arith, h.below)), f.else_none j g);
  }

  -- a full front is an order
  pub order_from_front : length v ≡ n → Order n v
  order_from_front e = record {
    once = λ i l. omega (arith, none_left i, all_counted i, count_upto n i l);
    else_none = λ i g. f.else_none i g;
  }
    where
      empty : (xs : List ℕ) (i : ℕ) → length xs ≡ 0 → count i xs ≡ 0
      empty [] i h = refl
      empty (x ∷ xs) i h = absurd (omega arith)

      none_left : (i : ℕ) → count i (unplaced n v) ≡ 0
      none_left i = empty (unplaced n v) i (omega (arith, length_unplaced))

pub order_alike : (n : ℕ) (o : List ℕ) → Order n o → (i : ℕ) → count i o ≡ count i (upto n)
order_alike n o h i = elim (cases_lt i n) [
  | inl l ↦ h.once i l ∙ sym (count_upto n i l)
  | inr g ↦ h.else_none i g ∙ sym (count_upto_else n i g)
]

pub length_order : (n : ℕ) (o : List ℕ) → Order n o → length o ≡ n
length_order n o h = length_alike o (upto n) (order_alike n o h) ∙ length_upto n

-- one of the tasks of a list that has some
pub some_task : (xs : List ℕ) → 0 < length xs → (i : ℕ) × (0 < count i xs)
some_task [] h = absurd (omega arith)
some_task (x ∷ xs) h = (x, omega (arith, same_self x))
