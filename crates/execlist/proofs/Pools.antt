-- Numbers of a pool that are given to items, and are free again.
use Rattle.std.proofs.Common.{◌≡◌, ◌≢◌, ℕ, zero, suc, ◌+◌, ◌<◌, ◌≤◌, Bool, true, false, cond, not, eqb, List, [], ◌∷◌, ◌++◌, length, refl, sym, ◌∙◌, ap, subst, arith, inl, inr, Option, Some, None, is_some, replicate, length-append, drop, slice_set, take, ◌-◌, ◌⊎◌, nat_lt, ◌&&◌, IsSome, IfSome, slice_get, eq-eqb, ne_eqb, lt-ltb, le-ltb, get_or-set_same, get_or-set_other, length-set, take-append-drop, length-drop, option_to_list}
use Rattle.std.proofs.{Math.Bool.and-true, Math.Bool.and-false, Math.Seq.take-append_seam}
use Rattle.std.specs.List.{range_with_len}
use Rattle.std.proofs.lemmas.{List.FromFn.length-range_with_len, Bool.cond-true, Bool.cond-false, Bool.cases_eq, Bool.cases_lt, List.length-replicate, List.take-append-le}
use Rattle.execlist.specs.{Lists.last, Lists.times, Pool.Pooled, Pool.IsStocked, Pool.next_number, Pool.slot, Pool.taken, Pool.is_free, Pool.IsPool, Pool.IsFresh}
use Rattle.execlist.specs.Pool as pool
use Rattle.execlist.proofs.PlainLemmas.{times-append, last-push, last_none}

-- The item of a number.

-- a number that holds an item is one of the pool's
pub slot_known : {A : Type 0} (xs : List (Option A)) (n : ℕ) (a : A) → slot xs n ≡ Some a → n < length xs
slot_known [] n a e = let bad : false ≡ true = ap is_some e in cc
slot_known (x ∷ xs) zero a e = omega arith
slot_known (x ∷ xs) (suc n) a e = omega (arith, slot_known xs n a e)

pub slot_same : {A : Type 0} (xs : List (Option A)) (n : ℕ) (o : Option A) → n < length xs → slot (slice_set xs n o) n ≡ o
slot_same xs n o l = get_or-set_same xs n o None l

pub slot_other : {A : Type 0} (xs : List (Option A)) (n m : ℕ) (o : Option A) → m ≢ n → slot (slice_set xs n o) m ≡ slot xs m
slot_other xs n m o ne = get_or-set_other xs n m o None ne

-- that many free numbers
abbrev vacant_all : (A : Type 0) → ℕ → List (Option A)
vacant_all A count = replicate count None

-- in a new pool each number is free
pub slot_new : (A : Type 0) (count n : ℕ) → slot (vacant_all A count) n ≡ None
slot_new A zero n = refl
slot_new A (suc count) zero = refl
slot_new A (suc count) (suc n) = slot_new A count n

pub item_of : {A : Type 0} (o : Option A) → IsSome o → (a : A) × (o ≡ Some a)
item_of None s = absurd cc
item_of (Some a) s = (a, refl)

-- How many numbers hold an item.

pub taken_new : (A : Type 0) (count : ℕ) → taken (vacant_all A count) ≡ 0
taken_new A zero = refl
taken_new A (suc count) = taken_new A count

-- a free number is given: one more
pub taken_given : {A : Type 0} (xs : List (Option A)) (n : ℕ) (a : A) → slot xs n ≡ None → n < length xs → taken (slice_set xs n (Some a)) ≡ suc (taken xs)
taken_given [] n a e l = absurd (omega arith)
taken_given (None ∷ xs) zero a e l = refl
taken_given (Some b ∷ xs) zero a e l = let bad : true ≡ false = ap is_some e in cc
taken_given (None ∷ xs) (suc n) a e l = taken_given xs n a e (omega arith)
taken_given (Some b ∷ xs) (suc n) a e l = ap suc (taken_given xs n a e (omega arith))

pub taken_at_most : {A : Type 0} (xs : List (Option A)) → taken xs ≤ length xs
taken_at_most [] = omega arith
taken_at_most (None ∷ xs) = omega (arith, taken_at_most xs)
taken_at_most (Some a ∷ xs) = omega (arith, taken_at_most xs)

-- if a number is free, not all hold an item
pub taken_below : {A : Type 0} (xs : List (Option A)) (n : ℕ) → slot xs n ≡ None → n < length xs → taken xs < length xs
taken_below [] n e l = absurd (omega arith)
taken_below (None ∷ xs) n e l = omega (arith, taken_at_most xs)
taken_below (Some a ∷ xs) zero e l = let bad : true ≡ false = ap is_some e in cc
taken_below (Some a ∷ xs) (suc n) e l = omega (arith, taken_below xs n e (omega arith))

-- a number that holds an item is free again: one less
pub taken_released : {A : Type 0} (xs : List (Option A)) (n : ℕ) (a : A) → slot xs n ≡ Some a → suc (taken (slice_set xs n None)) ≡ taken xs
taken_released [] n a e = let bad : false ≡ true = ap is_some e in cc
taken_released (None ∷ xs) zero a e = let bad : false ≡ true = ap is_some e in cc
taken_released (Some b ∷ xs) zero a e = refl
taken_released (None ∷ xs) (suc n) a e = taken_released xs n a e
taken_released (Some b ∷ xs) (suc n) a e = ap suc (taken_released xs n a e)

-- a number holds another item: as many
taken_written : {A : Type 0} (xs : List (Option A)) (n : ℕ) (a b : A) → slot xs n ≡ Some a → taken (slice_set xs n (Some b)) ≡ taken xs
taken_written [] n a b e = refl
taken_written (None ∷ xs) zero a b e = let bad : false ≡ true = ap is_some e in cc
taken_written (Some c ∷ xs) zero a b e = refl
taken_written (None ∷ xs) (suc n) a b e = taken_written xs n a b e
taken_written (Some c ∷ xs) (suc n) a b e = ap suc (taken_written xs n a b e)

-- How often a number is.

-- the number on top of the stack
pub times_top : (n : ℕ) (rest : List ℕ) → times n (rest ++ n ∷ []) ≡ suc (times n rest)
times_top n rest = omega (arith, times-append n rest (n ∷ []), one) where
  one : times n (n ∷ []) ≡ 1
  one = cond-true _ _ _ (eq-eqb n n refl)

-- a number below it
pub times_below : (n m : ℕ) (rest : List ℕ) → m ≢ n → times m (rest ++ n ∷ []) ≡ times m rest
times_below n m rest ne = omega (arith, times-append m rest (n ∷ []), none) where
  none : times m (n ∷ []) ≡ 0
  none = cond-false _ _ _ (ne_eqb n m (λ e. ne (sym e)))

-- Which numbers are free.

free_same : {A : Type 0} (xs : List (Option A)) (n : ℕ) (o : Option A) → n < length xs → is_free (slice_set xs n o) n ≡ not (is_some o)
free_same xs n o l =
    ap (λ b. b && not (is_some (slot (slice_set xs n o) n))) (lt-ltb n (length (slice_set xs n o)) (omega (arith, length-set xs n o)))
    ∙ ap (λ p. not (is_some p)) (slot_same xs n o l)

free_other : {A : Type 0} (xs : List (Option A)) (n m : ℕ) (o : Option A) → m ≢ n → is_free (slice_set xs n o) m ≡ is_free xs m
free_other xs n m o ne =
    ap (λ k. nat_lt m k && not (is_some (slot (slice_set xs n o) m))) (length-set xs n o)
    ∙ ap (λ p. nat_lt m (length xs) && not (is_some p)) (slot_other xs n m o ne)

vacant : {A : Type 0} (o : Option A) → 0 < cond (not (is_some o)) 1 0 → o ≡ None
vacant None l = refl
vacant (Some a) l = absurd (omega arith)

pub free_known : {A : Type 0} (xs : List (Option A)) (n : ℕ) → 0 < cond (is_free xs n) 1 0 → (n < length xs) × (slot xs n ≡ None)
free_known xs n l = elim (cases_lt n (length xs)) [
  | inl known ↦ (known, vacant (slot xs n) (rw (lt-ltb n (length xs) known) at l))
  | inr past ↦ absurd (let none = rw (le-ltb n (length xs) past) at l in omega arith)
]

-- What a pool keeps.

-- each number of a range is once in it, and no other
range_below : (n from count : ℕ) → n < from → times n (range_with_len from count) ≡ 0
range_below n from zero l = refl
range_below n from (suc count) l = cond-false _ _ _ (ne_eqb from n (λ e. omega (arith, l, e))) ∙ range_below n (from + 1) count (omega arith)

range_past : (n from count : ℕ) → from + count ≤ n → times n (range_with_len from count) ≡ 0
range_past n from zero l = refl
range_past n from (suc count) l = cond-false _ _ _ (ne_eqb from n (λ e. omega (arith, l, e))) ∙ range_past n (from + 1) count (omega arith)

range_in : (n from count : ℕ) → from ≤ n → n < from + count → times n (range_with_len from count) ≡ 1
range_in n from zero l h = absurd (omega arith)
range_in n from (suc count) l h = by_case (cases_eq from n) (λ ne. range_in n (from + 1) count (omega (arith, ne, l)) (omega arith)) where
  by_case : (from ≡ n) ⊎ (from ≡ n → ⊥) → ((from ≡ n → ⊥) → times n (range_with_len (from + 1) count) ≡ 1) → cond (eqb from n) (suc (times n (range_with_len (from + 1) count))) (times n (range_with_len (from + 1) count)) ≡ 1
  by_case (inl e) later = cond-true _ _ _ (eq-eqb from n e) ∙ ap suc (range_below n (from + 1) count (omega arith))
  by_case (inr ne) later = cond-false _ _ _ (ne_eqb from n ne) ∙ later ne

pub times_range : (n count : ℕ) → times n (range_with_len 0 count) ≡ cond (nat_lt n count) 1 0
times_range n count = by_case (cases_lt n count) where
  by_case : (n < count) ⊎ (count ≤ n) → times n (range_with_len 0 count) ≡ cond (nat_lt n count) 1 0
  by_case (inl l) = range_in n 0 count (omega arith) (omega arith) ∙ sym (cond-true _ _ _ (lt-ltb n count l))
  by_case (inr past) = range_past n 0 count (omega arith) ∙ sym (cond-false _ _ _ (le-ltb n count past))

length_all : (A : Type 0) (count : ℕ) → length (vacant_all A count) ≡ count
length_all A count = length-replicate count None

free_new : (A : Type 0) (count n : ℕ) → is_free (vacant_all A count) n ≡ nat_lt n count
free_new A count n =
    ap (λ o. nat_lt n (length (vacant_all A count)) && not (is_some o)) (slot_new A count n)
    ∙ and-true (nat_lt n (length (vacant_all A count))) ∙ ap (nat_lt n) (length_all A count)

pub new_pool : (A : Type 0) (count capacity : ℕ) → count ≤ capacity → IsPool (vacant_all A count) (range_with_len 0 count) capacity
new_pool A count capacity l = record {
  counted = omega (arith, length-range_with_len 0 count, length_all A count, taken_new A count);
  stands = λ n. times_range n count ∙ ap (λ b. cond b 1 0) (sym (free_new A count n));
  room = omega (arith, l, length_all A count);
}

pub popped : {A : Type 0} (xs : List (Option A)) (free rest : List ℕ) (capacity n : ℕ) (o : Option ℕ) → IsPool xs free capacity → free ≡ rest ++ option_to_list o → o ≡ Some n → IsPool xs (rest ++ n ∷ []) capacity
popped xs free rest capacity n o p split e = rw (sym (split ∙ ap (λ q. rest ++ option_to_list q) e)) p

module _ {A : Type 0} (xs : List (Option A)) (rest : List ℕ) (capacity n : ℕ) (p : IsPool xs (rest ++ n ∷ []) capacity) where
  pub top_free : (n < length xs) × (slot xs n ≡ None)
  top_free = free_known xs n (omega (arith, times_top n rest, p.stands n))

  top_once : times n rest ≡ 0
  top_once = at_most_once (is_free xs n) (sym (times_top n rest) ∙ p.stands n) where
    at_most_once : {t : ℕ} (b : Bool) → suc t ≡ cond b 1 0 → t ≡ 0
    at_most_once true e = omega arith
    at_most_once false e = absurd (omega arith)

  pub given : (a : A) → IsPool (slice_set xs n (Some a)) rest capacity
  given a = record {
    counted = omega (arith, p.counted, length-append rest (n ∷ []), length-set xs n (Some a), taken_given xs n a top_free.1 top_free.0);
    stands = λ m. stands m (cases_eq m n);
    room = omega (arith, p.room, length-set xs n (Some a));
  } where
    stands : (m : ℕ) → (m ≡ n) ⊎ (m ≡ n → ⊥) → times m rest ≡ cond (is_free (slice_set xs n (Some a)) m) 1 0
    stands m (inl e) = rw (e, free_same xs n (Some a) top_free.0) top_once
    stands m (inr ne) = sym (times_below n m rest ne) ∙ p.stands m ∙ ap (λ b. cond b 1 0) (sym (free_other xs n m (Some a) ne))

module _ {A : Type 0} (xs : List (Option A)) (free : List ℕ) (capacity n : ℕ) (a : A) (p : IsPool xs free capacity) (held : slot xs n ≡ Some a) where
  pub room_for : length free < capacity
  room_for = omega (arith, p.counted, p.room, taken_released xs n a held)

  none : times n free ≡ 0
  none = p.stands n ∙ ap (λ o. cond (nat_lt n (length xs) && not (is_some o)) 1 0) held ∙ ap (λ b. cond b 1 0) (and-false (nat_lt n (length xs)))

  pub released : (more : ℕ) → capacity ≤ more → IsPool (slice_set xs n None) (free ++ n ∷ []) more
  released more l = record {
    counted = omega (arith, p.counted, length-append free (n ∷ []), length-set xs n None, taken_released xs n a held);
    stands = λ m. stands m (cases_eq m n);
    room = omega (arith, l, p.room, length-set xs n None);
  } where
    stands : (m : ℕ) → (m ≡ n) ⊎ (m ≡ n → ⊥) → times m (free ++ n ∷ []) ≡ cond (is_free (slice_set xs n None) m) 1 0
    stands m (inl e) = rw (e, free_same xs n None (slot_known xs n a held)) (times_top n free ∙ ap suc none)
    stands m (inr ne) = times_below n m free ne ∙ p.stands m ∙ ap (λ b. cond b 1 0) (sym (free_other xs n m None ne))

  pub written : (b : A) → IsPool (slice_set xs n (Some b)) free capacity
  written b = record {
    counted = omega (arith, p.counted, length-set xs n (Some b), taken_written xs n a b held);
    stands = λ m. stands m (cases_eq m n);
    room = omega (arith, p.room, length-set xs n (Some b));
  } where
    stands : (m : ℕ) → (m ≡ n) ⊎ (m ≡ n → ⊥) → times m free ≡ cond (is_free (slice_set xs n (Some b)) m) 1 0
    stands m (inl e) = rw (e, free_same xs n (Some b) (slot_known xs n a held)) none
    stands m (inr ne) = p.stands m ∙ ap (λ c. cond c 1 0) (sym (free_other xs n m (Some b) ne))

-- The number that is given next.

-- if the next number is given to an item, it holds that item
pub given_slots : {A : Type 0} (a : A) (n : ℕ) (p : Pooled A) → next_number p ≡ Some n → (pool.given a p).slots ≡ slice_set p.slots n (Some a)
given_slots a n p next = ap (λ o. (pool.given_at o a p).slots) next

take_rest : (n : ℕ) (rest : List ℕ) → take (length (rest ++ n ∷ []) - 1) (rest ++ n ∷ []) ≡ rest
take_rest n rest =
    ap (λ k. take k (rest ++ n ∷ [])) (let less : length (rest ++ n ∷ []) - 1 ≡ length rest = omega (arith, length-append rest (n ∷ [])) in less)
    ∙ take-append_seam rest (n ∷ [])

abbrev pub pooled : {A : Type 0} → List (Option A) → List ℕ → Pooled A
pooled xs free = record { slots = xs; free = free }

-- the stack without its top is that of the pool with one number more given
pub given_by : {A : Type 0} (xs : List (Option A)) (free rest : List ℕ) (a : A) (n : ℕ) (o : Option ℕ)
    → free ≡ rest ++ option_to_list o → o ≡ Some n
    → pooled (slice_set xs n (Some a)) rest ≡ pool.given a (pooled xs free)
given_by xs free rest a n o split top =
    let is : free ≡ rest ++ n ∷ [] = split ∙ ap (λ p. rest ++ option_to_list p) top in
    sym (ap (λ f. pool.given a (pooled xs f)) is
    ∙ ap (λ p. pool.given_at p a (pooled xs (rest ++ n ∷ []))) (last-push rest n)
    ∙ ap (λ f. pooled (slice_set xs n (Some a)) f) (take_rest n rest))

last_split : (n : ℕ) (xs : List ℕ) → last xs ≡ Some n → (rest : List ℕ) × (xs ≡ rest ++ n ∷ [])
last_split n [] e = let bad : false ≡ true = ap is_some e in cc
last_split n (x ∷ []) e = ([], ap (λ y. y ∷ []) (let same : x ≡ n = cc in same))
last_split n (x ∷ y ∷ xs) e = let more = last_split n (y ∷ xs) e in (x ∷ more.0, ap (λ ys. x ∷ ys) more.1)

-- the last item is that of the greatest index
pub last_read : (xs : List ℕ) → slice_get xs (length xs - 1) ≡ last xs
last_read [] = refl
last_read (x ∷ []) = refl
last_read (x ∷ y ∷ xs) =
    ap (λ k. slice_get (x ∷ y ∷ xs) k) (let less : length (x ∷ y ∷ xs) - 1 ≡ suc (length (y ∷ xs) - 1) = omega arith in less)
    ∙ last_read (y ∷ xs)

module _ {A : Type 0} (xs : List (Option A)) (free : List ℕ) (capacity : ℕ) (p : IsPool xs free capacity) where
  -- the number that is next is there, and holds no item
  next_free : (n : ℕ) → last free ≡ Some n → (n < length xs) × (slot xs n ≡ None)
  next_free n next =
      let split = last_split n free next in
      top_free xs split.0 capacity n (subst (λ f. IsPool xs f capacity) split.1 p)

  pub next_known : (o : Option ℕ) → o ≡ last free → IfSome o (λ n. n < length xs)
  next_known None is = tt
  next_known (Some n) is = (next_free n (sym is)).0

  pub next_vacant : (o : Option ℕ) → o ≡ last free → IfSome o (λ n. slot xs n ≡ None)
  next_vacant None is = tt
  next_vacant (Some n) is = (next_free n (sym is)).1

  -- what is known of the number that is next
  pub stocked : IsStocked (record { slots = xs; free = free })
  stocked = record {
    full = λ none. omega (arith, p.counted, ap length (last_none free none));
    free = next_vacant (last free) refl;
    known = next_known (last free) refl;
  }

-- ---- the lowest places of a pool's stack, and a pool whose numbers are free again

-- The lowest places of the stack.

take_range : (k n from : ℕ) → k ≤ n → take k (range_with_len from n) ≡ range_with_len from k
take_range zero n from l = refl
take_range (suc k) zero from l = absurd (omega arith)
take_range (suc k) (suc n) from l = ap (λ xs. from ∷ xs) (take_range k n (from + 1) (omega arith))

take_less : {A : Type 0} (k n : ℕ) (xs : List A) → k ≤ n → take k (take n xs) ≡ take k xs
take_less zero n xs l = refl
take_less (suc k) zero xs l = absurd (omega arith)
take_less (suc k) (suc n) [] l = refl
take_less (suc k) (suc n) (x ∷ xs) l = ap (λ ys. x ∷ ys) (take_less k n xs (omega arith))

pub fresh_new : (count : ℕ) → IsFresh count (range_with_len 0 count)
fresh_new count = record { inside = omega (arith, length-range_with_len 0 count); rising = take_range count count 0 (omega arith) }

pub fresh_lower : (low k : ℕ) (free : List ℕ) → k ≤ low → IsFresh low free → IsFresh k free
fresh_lower low k free l fresh = record {
  inside = omega (arith, fresh.inside, l);
  rising = sym (take_less k low free l) ∙ ap (take k) fresh.rising ∙ take_range k low 0 l;
}

-- a number is put on the stack
pub fresh_pushed : (low : ℕ) (free more : List ℕ) → IsFresh low free → IsFresh low (free ++ more)
fresh_pushed low free more fresh = record {
  inside = omega (arith, fresh.inside, length-append free more);
  rising = take-append-le low free more fresh.inside ∙ fresh.rising;
}

-- numbers are taken from the top of the stack
pub fresh_popped : (low k : ℕ) (free rest more : List ℕ) → free ≡ rest ++ more → k ≤ low → k ≤ length rest → IsFresh low free → IsFresh k rest
fresh_popped low k free rest more split l inside fresh = record {
  inside = inside;
  rising = sym (take-append-le k rest more inside) ∙ ap (take k) (sym split) ∙ (fresh_lower low k free l fresh).rising;
}

-- The numbers in those places are free.

module _ {A : Type 0} (xs : List (Option A)) (free : List ℕ) (capacity : ℕ) (p : IsPool xs free capacity) (low : ℕ) (fresh : IsFresh low free) where
  low_free : (n : ℕ) → n < low → slot xs n ≡ None
  low_free n l =
      let one : times n (range_with_len 0 low) ≡ 1 = times_range n low ∙ cond-true _ _ _ (lt-ltb n low l) in
      let parts : times n free ≡ times n (take low free) + times n (drop low free) =
      ap (times n) (sym (take-append-drop low free)) ∙ times-append n (take low free) (drop low free) in
      (free_known xs n (omega (arith, p.stands n, parts, ap (times n) fresh.rising, one))).1

  pub low_inside : low ≤ length xs
  low_inside = omega (arith, fresh.inside, p.counted)

  pub low_empty : (k : ℕ) → k ≤ low → xs ≡ replicate k None ++ drop k xs
  low_empty k l = all_empty xs k (omega (arith, low_inside, l)) (λ n h. low_free n (omega (arith, h, l))) where
    all_empty : (ys : List (Option A)) (k : ℕ) → k ≤ length ys → ((n : ℕ) → n < k → slot ys n ≡ None) → ys ≡ replicate k None ++ drop k ys
    all_empty ys zero l none = refl
    all_empty [] (suc k) l none = absurd (omega arith)
    all_empty (y ∷ ys) (suc k) l none = ap (λ z. z ∷ ys) (none 0 (omega arith)) ∙ ap (λ zs. None ∷ zs) (all_empty ys k (omega arith) (λ n h. none (suc n) (omega arith)))

-- one number more is free
pub emptied : {A : Type 0} (n : ℕ) (xs : List (Option A)) → n < length xs → slice_set (replicate n None ++ drop n xs) n None ≡ replicate (n + 1) None ++ drop (n + 1) xs
emptied zero [] l = absurd (omega arith)
emptied zero (x ∷ xs) l = refl
emptied (suc n) [] l = absurd (omega arith)
emptied (suc n) (x ∷ xs) l =
    ap (λ ys. None ∷ ys) (emptied n xs (omega arith))
    ∙ ap (λ k. replicate k None ++ drop k (x ∷ xs)) (let same : suc (n + 1) ≡ suc n + 1 = omega arith in same)

pub range_pushed : (from n : ℕ) → range_with_len from n ++ (from + n) ∷ [] ≡ range_with_len from (n + 1)
range_pushed from zero = ap (λ k. k ∷ []) (let same : from + 0 ≡ from = omega arith in same)
range_pushed from (suc n) =
    ap (λ k. from ∷ (range_with_len (from + 1) n ++ k ∷ [])) (let same : from + suc n ≡ (from + 1) + n = omega arith in same)
    ∙ ap (λ ks. from ∷ ks) (range_pushed (from + 1) n) ∙ ap (range_with_len from) (let same : suc (n + 1) ≡ suc n + 1 = omega arith in same)

-- The numbers below a count are free, and the others hold an item.

abbrev pub IsTakenFrom : {A : Type 0} → ℕ → List (Option A) → Type 0
IsTakenFrom count xs = (n : ℕ) → count ≤ n → n < length xs → IsSome (slot xs n)

abbrev vacated : {A : Type 0} → ℕ → List (Option A) → List (Option A)
vacated count ys = replicate count None ++ ys

taken_vacated : {A : Type 0} (count : ℕ) (ys : List (Option A)) → taken (vacated count ys) ≡ taken ys
taken_vacated zero ys = refl
taken_vacated (suc count) ys = taken_vacated count ys

taken_all : {A : Type 0} (ys : List (Option A)) → ((n : ℕ) → n < length ys → IsSome (slot ys n)) → taken ys ≡ length ys
taken_all [] all = refl
taken_all (None ∷ ys) all = absurd (let bad = all 0 (omega arith) in cc)
taken_all (Some a ∷ ys) all = ap suc (taken_all ys (λ n l. all (suc n) (omega arith)))

slot_drop : {A : Type 0} (count n : ℕ) (xs : List (Option A)) → slot (drop count xs) n ≡ slot xs (count + n)
slot_drop zero n xs = ap (slot xs) (let same : n ≡ 0 + n = omega arith in same)
slot_drop (suc count) n [] = refl
slot_drop (suc count) n (x ∷ xs) = slot_drop count n xs ∙ ap (slot (x ∷ xs)) (let same : suc (count + n) ≡ suc count + n = omega arith in same)

length_vacated : {A : Type 0} (count : ℕ) (ys : List (Option A)) → length (vacated count ys) ≡ count + length ys
length_vacated zero ys = omega arith
length_vacated (suc count) ys = omega (arith, length_vacated count ys)

slot_below : {A : Type 0} (count n : ℕ) (ys : List (Option A)) → n < count → slot (vacated count ys) n ≡ None
slot_below zero n ys l = absurd (omega arith)
slot_below (suc count) zero ys l = refl
slot_below (suc count) (suc n) ys l = slot_below count n ys (omega arith)

slot_past : {A : Type 0} (count n : ℕ) (ys : List (Option A)) → slot (vacated count ys) (count + n) ≡ slot ys n
slot_past zero n ys = ap (slot ys) (let same : 0 + n ≡ n = omega arith in same)
slot_past (suc count) n ys = ap (slot (vacated (suc count) ys)) (let same : suc count + n ≡ suc (count + n) = omega arith in same) ∙ slot_past count n ys

is_some_held : {A : Type 0} (o : Option A) → IsSome o → is_some o ≡ true
is_some_held None h = cc
is_some_held (Some a) h = refl

free_vacated : {A : Type 0} (count : ℕ) (ys : List (Option A)) → ((n : ℕ) → n < length ys → IsSome (slot ys n)) → (n : ℕ) → is_free (vacated count ys) n ≡ nat_lt n count
free_vacated count ys all n = elim (cases_lt n count) [
  | inl below ↦
      ap (λ o. nat_lt n (length (vacated count ys)) && not (is_some o)) (slot_below count n ys below)
      ∙ and-true (nat_lt n (length (vacated count ys))) ∙ lt-ltb n (length (vacated count ys)) (omega (arith, length_vacated count ys, below))
      ∙ sym (lt-ltb n count below)
  | inr past ↦ by_case n past (cases_lt n (length (vacated count ys))) ∙ sym (le-ltb n count past)
] where
  by_case : (n : ℕ) → count ≤ n → (n < length (vacated count ys)) ⊎ (length (vacated count ys) ≤ n) → is_free (vacated count ys) n ≡ false
  by_case n past (inl inside) =
      let at : n ≡ count + (n - count) = omega arith in
      let held = all (n - count) (omega (arith, inside, past, length_vacated count ys)) in
      ap (λ o. nat_lt n (length (vacated count ys)) && not (is_some o)) (ap (slot (vacated count ys)) at ∙ slot_past count (n - count) ys)
      ∙ ap (λ b. nat_lt n (length (vacated count ys)) && not b) (is_some_held (slot ys (n - count)) held)
      ∙ and-false (nat_lt n (length (vacated count ys)))
  by_case n past (inr beyond) = ap (λ b. b && not (is_some (slot (vacated count ys) n))) (le-ltb n (length (vacated count ys)) beyond)

pub reset_pool : {A : Type 0} (xs : List (Option A)) (count capacity more : ℕ) → count ≤ length xs → IsTakenFrom count xs → length xs ≤ capacity → capacity ≤ more
    → IsPool (replicate count None ++ drop count xs) (range_with_len 0 count) more
reset_pool xs count capacity more known held room grown =
    let all : (n : ℕ) → n < length (drop count xs) → IsSome (slot (drop count xs) n) =
    λ n l. subst IsSome (sym (slot_drop count n xs)) (held (count + n) (omega arith) (omega (arith, l, length-drop count xs))) in
    record {
      counted = omega (arith, length-range_with_len 0 count, length_vacated count (drop count xs), taken_vacated count (drop count xs), taken_all (drop count xs) all);
      stands = λ n. times_range n count ∙ ap (λ b. cond b 1 0) (sym (free_vacated count (drop count xs) all n));
      room = omega (arith, length_vacated count (drop count xs), length-drop count xs, known, room, grown);
    }
