-- The list of all linked nodes, when a node is put in or taken out.
use Rattle.std.proofs.Common.{◌≡◌, ◌≢◌, ℕ, zero, suc, ◌+◌, ◌-◌, ◌<◌, ◌≤◌, Bool, true, false, cond, not, eqb, List, [], ◌∷◌, ◌++◌, length, get_or, take, drop, map, refl, sym, ◌∙◌, ap, arith, inl, inr, Option, Some, None, is_some, append_assoc, replicate, length-append, length-take, length-drop, add-one, slice_set, insert, remove, All, ◌⊎◌, slice_index, IfSome, eqb-true, eq-eqb, ne_eqb, get_or-set_same, get_or-set_other, length-set, take-append-drop, append-nil}
use Rattle.std.specs.List.{range_with_len}
use Rattle.std.proofs.lemmas.{Bool.cond-true, Bool.cond-false, Bool.eqb-false, Bool.cases_eq, Bool.cases_lt, List.same_lists, List.get_or_past, List.set-get_or, List.get_or_read, List.Elements.filter-append, List.Elements.filter_more, List.FromFn.length-map-range_with_len, List.FromFn.get_or-map-range_with_len}
use Rattle.execlist.specs.{Order.first, Order.without_item, Lists.home, Lists.is_at, Lists.times, Lists.sequence, Lists.part_before, Lists.part_after, Lists.put_after, Lists.last, Plain.nodes_of, Plain.sequences_of, Plain.linked_count, Plain.IsSpace}

-- Homes.

pub home_known : (homes : List (Option ℕ)) (n h : ℕ) → home homes n ≡ Some h → n < length homes
home_known [] n h e = cc
home_known (x ∷ xs) zero h e = omega arith
home_known (x ∷ xs) (suc n) h e = omega (arith, home_known xs n h e)

linked_set_some : (homes : List (Option ℕ)) (n h : ℕ) → home homes n ≡ None → n < length homes → linked_count (slice_set homes n (Some h)) ≡ suc (linked_count homes)
linked_set_some [] n h e l = absurd (omega arith)
linked_set_some (None ∷ xs) zero h e l = refl
linked_set_some (Some k ∷ xs) zero h e l = cc
linked_set_some (None ∷ xs) (suc n) h e l = linked_set_some xs n h e (omega arith)
linked_set_some (Some k ∷ xs) (suc n) h e l = ap suc (linked_set_some xs n h e (omega arith))

linked_set_none : (homes : List (Option ℕ)) (n h : ℕ) → home homes n ≡ Some h → suc (linked_count (slice_set homes n None)) ≡ linked_count homes
linked_set_none [] n h e = cc
linked_set_none (None ∷ xs) zero h e = cc
linked_set_none (Some k ∷ xs) zero h e = refl
linked_set_none (None ∷ xs) (suc n) h e = linked_set_none xs n h e
linked_set_none (Some k ∷ xs) (suc n) h e = ap suc (linked_set_none xs n h e)

linked_le : (homes : List (Option ℕ)) → linked_count homes ≤ length homes
linked_le [] = omega arith
linked_le (None ∷ xs) = omega (arith, linked_le xs)
linked_le (Some k ∷ xs) = omega (arith, linked_le xs)

pub linked_room : (homes : List (Option ℕ)) (n : ℕ) → home homes n ≡ None → n < length homes → linked_count homes < length homes
linked_room [] n e l = absurd (omega arith)
linked_room (None ∷ xs) zero e l = omega (arith, linked_le xs)
linked_room (Some k ∷ xs) zero e l = cc
linked_room (None ∷ xs) (suc n) e l = omega (arith, linked_room xs n e (omega arith))
linked_room (Some k ∷ xs) (suc n) e l = omega (arith, linked_room xs n e (omega arith))

home_same : (homes : List (Option ℕ)) (n : ℕ) (v : Option ℕ) → n < length homes → home (slice_set homes n v) n ≡ v
home_same homes n v l = get_or-set_same homes n v None l

home_other : (homes : List (Option ℕ)) (n m : ℕ) (v : Option ℕ) → m ≢ n → home (slice_set homes n v) m ≡ home homes m
home_other homes n m v ne = get_or-set_other homes n m v None ne

is_some_home : (o : Option ℕ) → 0 < cond (is_some o) 1 0 → (h : ℕ) × (o ≡ Some h)
is_some_home None l = absurd (omega arith)
is_some_home (Some h) l = (h, refl)

-- How often a node is.

pub times-append : (n : ℕ) (xs ys : List ℕ) → times n (xs ++ ys) ≡ times n xs + times n ys
times-append n [] ys = omega arith
times-append n (x ∷ xs) ys = by_case (eqb x n) (times-append n xs ys) where
  by_case : (b : Bool) → times n (xs ++ ys) ≡ times n xs + times n ys → cond b (suc (times n (xs ++ ys))) (times n (xs ++ ys)) ≡ cond b (suc (times n xs)) (times n xs) + times n ys
  by_case true ih = omega arith
  by_case false ih = ih

pub times_same : (n : ℕ) (xs : List ℕ) → times n (n ∷ xs) ≡ suc (times n xs)
times_same n xs = cond-true _ _ _ (eq-eqb n n refl)

pub times_later : (t x : ℕ) (xs : List ℕ) → times t xs ≤ times t (x ∷ xs)
times_later t x xs = by_case (eqb x t) where
  by_case : (b : Bool) → times t xs ≤ cond b (suc (times t xs)) (times t xs)
  by_case true = omega arith
  by_case false = omega arith

pub times_other : (n m : ℕ) (xs : List ℕ) → m ≢ n → times m (n ∷ xs) ≡ times m xs
times_other n m xs ne = cond-false _ _ _ (ne_eqb n m (λ e. ne (sym e)))

times_at : (xs : List ℕ) (k d : ℕ) → k < length xs → 0 < times (get_or xs k d) xs
times_at [] k d l = absurd (omega arith)
times_at (x ∷ xs) zero d l = rw times_same (omega arith)
times_at (x ∷ xs) (suc k) d l = by_case (eqb x (get_or xs k d)) (times_at xs k d (omega arith)) where
  by_case : (b : Bool) → 0 < times (get_or xs k d) xs → 0 < cond b (suc (times (get_or xs k d) xs)) (times (get_or xs k d) xs)
  by_case true ih = omega arith
  by_case false ih = ih

-- One more number.
pub range_more : (a n : ℕ) → range_with_len a (suc n) ≡ range_with_len a n ++ (a + n) ∷ []
range_more a zero = ap (λ k. k ∷ []) (omega arith)
range_more a (suc n) =
    let same : a + 1 + n ≡ a + suc n = omega arith in
    ap (λ l. a ∷ l) (range_more (a + 1) n ∙ ap (λ k. range_with_len (a + 1) n ++ k ∷ []) same)

pub one_more : (n : ℕ) → range_with_len 0 (n + 1) ≡ range_with_len 0 n ++ n ∷ []
one_more n =
    let more : n + 1 ≡ suc n = omega arith in
    let place : 0 + n ≡ n = omega arith in
    ap (range_with_len 0) more ∙ range_more 0 n ∙ ap (λ k. range_with_len 0 n ++ k ∷ []) place

-- The parts round a place.
split_at : (all : List ℕ) (i : ℕ) → take i all ++ drop i all ≡ all
split_at all i = take-append-drop i all

split_round : (all : List ℕ) (i n : ℕ) → i < length all → get_or all i 0 ≡ n → take i all ++ n ∷ drop (suc i) all ≡ all
split_round [] i n l e = absurd (omega arith)
split_round (x ∷ xs) zero n l e = ap (λ m. m ∷ xs) (sym e)
split_round (x ∷ xs) (suc i) n l e = ap (λ r. x ∷ r) (split_round xs i n (omega arith) e)

-- Every linked node is known.
pub known : (headers : ℕ) (all : List ℕ) (homes : List (Option ℕ)) → IsSpace headers all homes → All (λ m. m < length homes) all
known headers all homes s = λ k d l.
    let m = get_or all k d in
    let once : 0 < cond (is_some (home homes m)) 1 0 = rw (sym (s.stands m)) (times_at all k d l) in
    let h = is_some_home (home homes m) once in
    home_known homes m h.0 h.1

-- A node that has no header is not in the list, and one that has is there once.
pub not_there : (headers : ℕ) (all : List ℕ) (homes : List (Option ℕ)) (n : ℕ) → IsSpace headers all homes → home homes n ≡ None → times n all ≡ 0
not_there headers all homes n s e = s.stands n ∙ ap (λ o. cond (is_some o) 1 0) e

pub there_once : (headers : ℕ) (all : List ℕ) (homes : List (Option ℕ)) (n h : ℕ) → IsSpace headers all homes → home homes n ≡ Some h → times n all ≡ 1
there_once headers all homes n h s e = s.stands n ∙ ap (λ o. cond (is_some o) 1 0) e

-- A node is put in.
module _ (headers : ℕ) (all : List ℕ) (homes : List (Option ℕ)) (i h n : ℕ) (s : IsSpace headers all homes) (within : i ≤ length all) (header : h < headers) (node : n < length homes) (unlinked : home homes n ≡ None) where
  put_times : (m : ℕ) → (n ≡ m) ⊎ (n ≡ m → ⊥) → times m (insert all i n) ≡ cond (is_some (home (slice_set homes n (Some h)) m)) 1 0
  put_times m c =
      times-append m (take i all) (n ∷ drop i all) ∙ elim c [
        | inl e ↦ same e
        | inr ne ↦ other ne
      ] where
        total : times m (take i all) + times m (drop i all) ≡ times m all
        total = sym (times-append m (take i all) (drop i all)) ∙ ap (times m) (split_at all i)

        same : n ≡ m → times m (take i all) + times m (n ∷ drop i all) ≡ cond (is_some (home (slice_set homes n (Some h)) m)) 1 0
        same e =
            let none : times m all ≡ 0 = s.stands m ∙ ap (λ k. cond (is_some (home homes k)) 1 0) (sym e)
            ∙ ap (λ o. cond (is_some o) 1 0) unlinked in
            let one : times m (n ∷ drop i all) ≡ suc (times m (drop i all)) = cond-true _ _ _ (eq-eqb n m e) in
            let put : home (slice_set homes n (Some h)) m ≡ Some h = ap (home (slice_set homes n (Some h))) (sym e)
            ∙ home_same homes n (Some h) node in
            rw (put, one) (omega (arith, total, none))

        other : (n ≡ m → ⊥) → times m (take i all) + times m (n ∷ drop i all) ≡ cond (is_some (home (slice_set homes n (Some h)) m)) 1 0
        other ne =
            let m_ne : m ≢ n = λ e. ne (sym e) in
            let none : times m (n ∷ drop i all) ≡ times m (drop i all) = times_other n m (drop i all) m_ne in
            let same_home : home (slice_set homes n (Some h)) m ≡ home homes m = home_other homes n m (Some h) m_ne in
            rw (same_home, none) (total ∙ s.stands m)

  put_homed : (m k : ℕ) → home (slice_set homes n (Some h)) m ≡ Some k → (m ≡ n) ⊎ (m ≡ n → ⊥) → k < headers
  put_homed m k e (inl here) =
      let same : Some h ≡ Some k = sym (home_same homes n (Some h) node) ∙ ap (home (slice_set homes n (Some h))) (sym here)
      ∙ e in
      let eq : h ≡ k = cc in
      omega (arith, eq)
  put_homed m k e (inr ne) = s.homed m k (sym (home_other homes n m (Some h) ne) ∙ e)

  pub put_in : IsSpace headers (insert all i n) (slice_set homes n (Some h))
  put_in = record {
    counted = omega (arith, length-append (take i all) (n ∷ drop i all), length-take i all, length-drop i all, s.counted, linked_set_some homes n h unlinked node);
    stands = λ m. put_times m (cases_eq n m);
    homed = λ m k e. put_homed m k e (cases_eq m n);
  }

-- A node is taken out.
module _ (headers : ℕ) (all : List ℕ) (homes : List (Option ℕ)) (i n : ℕ) (s : IsSpace headers all homes) (within : i < length all) (there : get_or all i 0 ≡ n) where
  round_times : (m : ℕ) → times m (take i all) + times m (n ∷ drop (suc i) all) ≡ times m all
  round_times m = sym (times-append m (take i all) (n ∷ drop (suc i) all)) ∙ ap (times m) (split_round all i n within there)

  pub has_home : (h : ℕ) × (home homes n ≡ Some h)
  has_home =
      is_some_home (home homes n) (rw (sym (s.stands n)) (let t = round_times n in let one = times_same n (drop (suc i) all) in omega arith))

  taken_times : (m : ℕ) → (n ≡ m) ⊎ (n ≡ m → ⊥) → times m (remove all i) ≡ cond (is_some (home (slice_set homes n None) m)) 1 0
  taken_times m (inl e) =
      let t = round_times m in
      let one : times m (n ∷ drop (suc i) all) ≡ suc (times m (drop (suc i) all)) = cond-true _ _ _ (eq-eqb n m e) in
      let h = has_home in
      let once : times m all ≡ 1 = s.stands m ∙ ap (λ k. cond (is_some (home homes k)) 1 0) (sym e)
      ∙ ap (λ o. cond (is_some o) 1 0) h.1 in
      let put : home (slice_set homes n None) m ≡ None = ap (home (slice_set homes n None)) (sym e)
      ∙ home_same homes n None (home_known homes n h.0 h.1) in
      rw (put, times-append m (take i all) (drop (suc i) all)) (omega arith)
  taken_times m (inr ne) =
      let t = round_times m in
      let m_ne : m ≢ n = λ e. ne (sym e) in
      let none : times m (n ∷ drop (suc i) all) ≡ times m (drop (suc i) all) = times_other n m (drop (suc i) all) m_ne in
      let same_home : home (slice_set homes n None) m ≡ home homes m = home_other homes n m None m_ne in
      rw (same_home, times-append m (take i all) (drop (suc i) all)) (omega (arith, s.stands m))

  taken_homed : (m k : ℕ) → home (slice_set homes n None) m ≡ Some k → (m ≡ n) ⊎ (m ≡ n → ⊥) → k < headers
  taken_homed m k e (inl here) =
      let h = has_home in
      let same : None ≡ Some k = sym (home_same homes n None (home_known homes n h.0 h.1))
      ∙ ap (home (slice_set homes n None)) (sym here) ∙ e in
      cc
  taken_homed m k e (inr ne) = s.homed m k (sym (home_other homes n m None ne) ∙ e)

  pub taken_out : IsSpace headers (remove all i) (slice_set homes n None)
  taken_out = record {
    counted = let h = has_home in omega (arith, length-append (take i all) (drop (suc i) all), length-take i all, length-drop (suc i) all, s.counted, linked_set_none homes n h.0 h.1);
    stands = λ m. taken_times m (cases_eq n m);
    homed = λ m k e. taken_homed m k e (cases_eq m n);
  }

-- The nodes of a header.
held_fresh : (homes : List (Option ℕ)) (n k : ℕ) (v : Option ℕ) (xs : List ℕ) → times n xs ≡ 0 → nodes_of (slice_set homes n v) k xs ≡ nodes_of homes k xs
held_fresh homes n k v [] e = refl
held_fresh homes n k v (x ∷ xs) e = by_case (eqb x n) refl e (held_fresh homes n k v xs) where
  by_case : (b : Bool) → eqb x n ≡ b → cond b (suc (times n xs)) (times n xs) ≡ 0 → (times n xs ≡ 0 → nodes_of (slice_set homes n v) k xs ≡ nodes_of homes k xs) → nodes_of (slice_set homes n v) k (x ∷ xs) ≡ nodes_of homes k (x ∷ xs)
  by_case true t z ih = absurd (omega arith)
  by_case false t z ih =
      ap (λ o. cond (is_at o k) (x ∷ nodes_of (slice_set homes n v) k xs) (nodes_of (slice_set homes n v) k xs)) (home_other homes n x v (eqb-false x n t))
      ∙ ap (λ l. cond (is_at (home homes x) k) (x ∷ l) l) (ih z)

held_in : (homes : List (Option ℕ)) (n k : ℕ) (xs : List ℕ) → is_at (home homes n) k ≡ true → nodes_of homes k (n ∷ xs) ≡ n ∷ nodes_of homes k xs
held_in homes n k xs e = cond-true _ _ _ e

held_out : (homes : List (Option ℕ)) (n k : ℕ) (xs : List ℕ) → is_at (home homes n) k ≡ false → nodes_of homes k (n ∷ xs) ≡ nodes_of homes k xs
held_out homes n k xs e = cond-false _ _ _ e

held_parts : (homes : List (Option ℕ)) (k : ℕ) (all : List ℕ) (i : ℕ) → nodes_of homes k (take i all) ++ nodes_of homes k (drop i all) ≡ nodes_of homes k all
held_parts homes k all i = sym (filter-append (λ n. is_at (home homes n) k) (take i all) (drop i all))
    ∙ ap (nodes_of homes k) (split_at all i)

pub at_own : (homes : List (Option ℕ)) (n h : ℕ) → home homes n ≡ Some h → is_at (home homes n) h ≡ true
at_own homes n h e = ap (λ o. is_at o h) e ∙ eq-eqb h h refl

at_other : (homes : List (Option ℕ)) (n h k : ℕ) → home homes n ≡ Some h → k ≢ h → is_at (home homes n) k ≡ false
at_other homes n h k e ne = ap (λ o. is_at o k) e ∙ ne_eqb h k (λ q. ne (sym q))

-- The sequences as a list.
pub map_set : {A : Type 0} (f g : ℕ → A) (headers h : ℕ) (v : A) → h < headers → g h ≡ v → ((k : ℕ) → k ≢ h → g k ≡ f k) → map g (range_with_len 0 headers) ≡ slice_set (map f (range_with_len 0 headers)) h v
map_set {A} f g headers h v l here others =
    same_lists _ _ (length-map-range_with_len g 0 headers ∙ sym (length-set (map f (range_with_len 0 headers)) h v ∙ length-map-range_with_len f 0 headers)) (λ k d lk. at k d (omega (arith, length-map-range_with_len g 0 headers)) (cases_eq k h)) where
      long : h < length (map f (range_with_len 0 headers))
      long = omega (arith, length-map-range_with_len f 0 headers)

      at : (k : ℕ) (d : A) → k < headers → (k ≡ h) ⊎ (k ≡ h → ⊥) → get_or (map g (range_with_len 0 headers)) k d ≡ get_or (slice_set (map f (range_with_len 0 headers)) h v) k d
      at k d lk (inl e) =
          get_or-map-range_with_len g 0 headers k k d lk (omega arith) ∙ ap g e ∙ here
          ∙ sym (ap (λ j. get_or (slice_set (map f (range_with_len 0 headers)) h v) j d) e ∙ get_or-set_same (map f (range_with_len 0 headers)) h v d long)
      at k d lk (inr ne) =
          get_or-map-range_with_len g 0 headers k k d lk (omega arith) ∙ others k ne
          ∙ sym (get_or-set_other (map f (range_with_len 0 headers)) h k v d ne ∙ get_or-map-range_with_len f 0 headers k k d lk (omega arith))

pub sequence_is : (headers : ℕ) (all : List ℕ) (homes : List (Option ℕ)) (h : ℕ) → h < headers → sequence (sequences_of headers all homes) h ≡ nodes_of homes h all
sequence_is headers all homes h l = get_or-map-range_with_len (λ k. nodes_of homes k all) 0 headers h h [] l (omega arith)

-- The sequence of a header, round a node of it.
times_held : (homes : List (Option ℕ)) (n h : ℕ) (xs : List ℕ) → times n xs ≡ 0 → times n (nodes_of homes h xs) ≡ 0
times_held homes n h [] e = refl
times_held homes n h (x ∷ xs) e = by_case (eqb x n) (is_at (home homes x) h) refl e (times_held homes n h xs) where
  by_case : (b c : Bool) → eqb x n ≡ b → cond b (suc (times n xs)) (times n xs) ≡ 0 → (times n xs ≡ 0 → times n (nodes_of homes h xs) ≡ 0) → times n (cond c (x ∷ nodes_of homes h xs) (nodes_of homes h xs)) ≡ 0
  by_case true c t z ih = absurd (omega arith)
  by_case false true t z ih = cond-false _ _ _ t ∙ ih z
  by_case false false t z ih = ih z

times_held_own : (homes : List (Option ℕ)) (n h : ℕ) (xs : List ℕ) → is_at (home homes n) h ≡ true → times n (nodes_of homes h xs) ≡ times n xs
times_held_own homes n h [] own = refl
times_held_own homes n h (x ∷ xs) own = by_case (eqb x n) (is_at (home homes x) h) refl refl (times_held_own homes n h xs own) where
  by_case : (b c : Bool) → eqb x n ≡ b → is_at (home homes x) h ≡ c → times n (nodes_of homes h xs) ≡ times n xs → times n (cond c (x ∷ nodes_of homes h xs) (nodes_of homes h xs)) ≡ cond b (suc (times n xs)) (times n xs)
  by_case true true t a ih = cond-true _ _ _ t ∙ ap suc ih
  by_case true false t a ih =
      let e : x ≡ n = eqb-true x n t in
      let yes : is_at (home homes x) h ≡ true = ap (λ m. is_at (home homes m) h) e ∙ own in
      cc
  by_case false true t a ih = cond-false _ _ _ t ∙ ih
  by_case false false t a ih = ih

times_held_other : (homes : List (Option ℕ)) (n h : ℕ) (xs : List ℕ) → is_at (home homes n) h ≡ false → times n (nodes_of homes h xs) ≡ 0
times_held_other homes n h [] own = refl
times_held_other homes n h (x ∷ xs) own = by_case (eqb x n) (is_at (home homes x) h) refl refl (times_held_other homes n h xs own) where
  by_case : (b c : Bool) → eqb x n ≡ b → is_at (home homes x) h ≡ c → times n (nodes_of homes h xs) ≡ 0 → times n (cond c (x ∷ nodes_of homes h xs) (nodes_of homes h xs)) ≡ 0
  by_case true true t a ih =
      let e : x ≡ n = eqb-true x n t in
      let no : is_at (home homes x) h ≡ false = ap (λ m. is_at (home homes m) h) e ∙ own in
      cc
  by_case true false t a ih = ih
  by_case false true t a ih = cond-false _ _ _ t ∙ ih
  by_case false false t a ih = ih

parts_fresh : (all : List ℕ) (i n : ℕ) → i < length all → get_or all i 0 ≡ n → times n all ≡ 1 → (times n (take i all) ≡ 0) × (times n (drop (suc i) all) ≡ 0)
parts_fresh all i n l e once =
    let t = times-append n (take i all) (n ∷ drop (suc i) all) in let r = ap (times n) (split_round all i n l e) in let o = times_same n (drop (suc i) all) in
    (omega arith, omega arith)

pub without_fresh : (n : ℕ) (xs : List ℕ) → times n xs ≡ 0 → without_item n xs ≡ xs
without_fresh n [] e = refl
without_fresh n (x ∷ xs) e = by_case (eqb x n) e (without_fresh n xs) where
  by_case : (b : Bool) → cond b (suc (times n xs)) (times n xs) ≡ 0 → (times n xs ≡ 0 → without_item n xs ≡ xs) → cond (not b) (x ∷ without_item n xs) (without_item n xs) ≡ x ∷ xs
  by_case true z ih = absurd (omega arith)
  by_case false z ih = ap (λ l. x ∷ l) (ih z)

pub times_without : (n : ℕ) (xs : List ℕ) → times n (without_item n xs) ≡ 0
times_without n [] = refl
times_without n (x ∷ xs) = by_case (eqb x n) refl (times_without n xs) where
  by_case : (b : Bool) → eqb x n ≡ b → times n (without_item n xs) ≡ 0 → times n (cond (not b) (x ∷ without_item n xs) (without_item n xs)) ≡ 0
  by_case true e ih = ih
  by_case false e ih = cond-false _ _ _ e ∙ ih

pub times_without_other : (n t : ℕ) (xs : List ℕ) → (t ≡ n → ⊥) → times t (without_item n xs) ≡ times t xs
times_without_other n t [] other = refl
times_without_other n t (x ∷ xs) other = by_case (cases_eq x n) (times_without_other n t xs other) where
  by_case : (x ≡ n) ⊎ (x ≡ n → ⊥) → times t (without_item n xs) ≡ times t xs → times t (without_item n (x ∷ xs)) ≡ times t (x ∷ xs)
  by_case (inl same) ih =
      ap (times t) (cond-false _ _ _ (ap not (eq-eqb x n same))) ∙ ih
      ∙ sym (cond-false _ _ _ (ne_eqb x t (λ e. other (sym e ∙ same))))
  by_case (inr differs) ih =
      ap (times t) (cond-true _ _ _ (ap not (ne_eqb x n differs))) ∙ ap (λ k. cond (eqb x t) (suc k) k) ih

pub without_round : (n : ℕ) (xs ys : List ℕ) → times n xs ≡ 0 → times n ys ≡ 0 → without_item n (xs ++ n ∷ ys) ≡ xs ++ ys
without_round n xs ys a b =
    filter-append (λ x. not (eqb x n)) xs (n ∷ ys) ∙ ap (λ l. l ++ without_item n (n ∷ ys)) (without_fresh n xs a)
    ∙ ap (λ l. xs ++ l) (cond-false _ _ _ (ap not (eq-eqb n n refl)) ∙ without_fresh n ys b)

pub before_round : (n : ℕ) (xs ys : List ℕ) → times n xs ≡ 0 → part_before n (xs ++ n ∷ ys) ≡ xs
before_round n [] ys a = cond-true _ _ _ (eq-eqb n n refl)
before_round n (x ∷ xs) ys a = by_case (eqb x n) a (before_round n xs ys) where
  by_case : (b : Bool) → cond b (suc (times n xs)) (times n xs) ≡ 0 → (times n xs ≡ 0 → part_before n (xs ++ n ∷ ys) ≡ xs) → cond b [] (x ∷ part_before n (xs ++ n ∷ ys)) ≡ x ∷ xs
  by_case true z ih = absurd (omega arith)
  by_case false z ih = ap (λ l. x ∷ l) (ih z)

pub after_round : (n : ℕ) (xs ys : List ℕ) → times n xs ≡ 0 → part_after n (xs ++ n ∷ ys) ≡ ys
after_round n [] ys a = cond-true _ _ _ (eq-eqb n n refl)
after_round n (x ∷ xs) ys a = by_case (eqb x n) a (after_round n xs ys) where
  by_case : (b : Bool) → cond b (suc (times n xs)) (times n xs) ≡ 0 → (times n xs ≡ 0 → part_after n (xs ++ n ∷ ys) ≡ ys) → cond b (xs ++ n ∷ ys) (part_after n (xs ++ n ∷ ys)) ≡ ys
  by_case true z ih = absurd (omega arith)
  by_case false z ih = ih z

split_held : (homes : List (Option ℕ)) (all : List ℕ) (i h n : ℕ) → i < length all → get_or all i 0 ≡ n → home homes n ≡ Some h → times n all ≡ 1 → (part_before n (nodes_of homes h all) ≡ nodes_of homes h (take i all)) × (part_after n (nodes_of homes h all) ≡ nodes_of homes h (drop (suc i) all))
split_held homes all i h n l e own once =
    let was : nodes_of homes h all ≡ nodes_of homes h (take i all) ++ n ∷ nodes_of homes h (drop (suc i) all) = ap (nodes_of homes h) (sym (split_round all i n l e))
    ∙ filter-append (λ m. is_at (home homes m) h) (take i all) (n ∷ drop (suc i) all)
    ∙ ap (λ l. nodes_of homes h (take i all) ++ l) (held_in homes n h (drop (suc i) all) (at_own homes n h own)) in
    let gone = times_held homes n h (take i all) (parts_fresh all i n l e once).0 in
    (ap (part_before n) was ∙ before_round n (nodes_of homes h (take i all)) (nodes_of homes h (drop (suc i) all)) gone, ap (part_after n) was ∙ after_round n (nodes_of homes h (take i all)) (nodes_of homes h (drop (suc i) all)) gone)

held_more : (homes : List (Option ℕ)) (all : List ℕ) (i h n : ℕ) → i < length all → get_or all i 0 ≡ n → home homes n ≡ Some h → nodes_of homes h (take (suc i) all) ≡ nodes_of homes h (take i all) ++ n ∷ []
held_more homes [] i h n l e own = absurd (omega arith)
held_more homes (x ∷ xs) zero h n l e own =
    ap (λ m. nodes_of homes h (m ∷ [])) e ∙ held_in homes n h [] (at_own homes n h own)
held_more homes (x ∷ xs) (suc i) h n l e own = by_case (is_at (home homes x) h) (held_more homes xs i h n (omega arith) e own) where
  by_case : (b : Bool) → nodes_of homes h (take (suc i) xs) ≡ nodes_of homes h (take i xs) ++ n ∷ [] → cond b (x ∷ nodes_of homes h (take (suc i) xs)) (nodes_of homes h (take (suc i) xs)) ≡ cond b (x ∷ nodes_of homes h (take i xs)) (nodes_of homes h (take i xs)) ++ n ∷ []
  by_case true ih = ap (λ l. x ∷ l) ih
  by_case false ih = ih

-- What the sequences are after a node is put in at a place.
module _ (headers : ℕ) (all : List ℕ) (homes : List (Option ℕ)) (i h n : ℕ) (s : IsSpace headers all homes) (header : h < headers) (node : n < length homes) (unlinked : home homes n ≡ None) where
  put_fresh : times n all ≡ 0
  put_fresh = not_there headers all homes n s unlinked

  put_fresh_parts : (times n (take i all) ≡ 0) × (times n (drop i all) ≡ 0)
  put_fresh_parts =
      let t = times-append n (take i all) (drop i all) in let e = ap (times n) (split_at all i) in let z = put_fresh in
      (omega arith, omega arith)

  put_held : (k : ℕ) → nodes_of (slice_set homes n (Some h)) k (insert all i n) ≡ nodes_of homes k (take i all) ++ nodes_of (slice_set homes n (Some h)) k (n ∷ drop i all)
  put_held k =
      filter-append (λ m. is_at (home (slice_set homes n (Some h)) m) k) (take i all) (n ∷ drop i all)
      ∙ ap (λ l. l ++ nodes_of (slice_set homes n (Some h)) k (n ∷ drop i all)) (held_fresh homes n k (Some h) (take i all) put_fresh_parts.0)

  put_home : home (slice_set homes n (Some h)) n ≡ Some h
  put_home = home_same homes n (Some h) node

  pub put_sequences : (v : List ℕ) → nodes_of homes h (take i all) ++ n ∷ nodes_of homes h (drop i all) ≡ v → sequences_of headers (insert all i n) (slice_set homes n (Some h)) ≡ slice_set (sequences_of headers all homes) h v
  put_sequences v e =
      map_set (λ k. nodes_of homes k all) (λ k. nodes_of (slice_set homes n (Some h)) k (insert all i n)) headers h v header (put_held h ∙ ap (λ l. nodes_of homes h (take i all) ++ l) (held_in (slice_set homes n (Some h)) n h (drop i all) (at_own (slice_set homes n (Some h)) n h put_home) ∙ ap (λ l. n ∷ l) (held_fresh homes n h (Some h) (drop i all) put_fresh_parts.1)) ∙ e) (λ k ne. put_held k ∙ ap (λ l. nodes_of homes k (take i all) ++ l) (held_out (slice_set homes n (Some h)) n k (drop i all) (at_other (slice_set homes n (Some h)) n h k put_home ne) ∙ held_fresh homes n k (Some h) (drop i all) put_fresh_parts.1) ∙ held_parts homes k all i)

  pub put_first : i ≡ 0 → sequences_of headers (insert all i n) (slice_set homes n (Some h)) ≡ slice_set (sequences_of headers all homes) h (n ∷ sequence (sequences_of headers all homes) h)
  put_first e =
      put_sequences (n ∷ sequence (sequences_of headers all homes) h) (ap (λ j. nodes_of homes h (take j all) ++ n ∷ nodes_of homes h (drop j all)) e ∙ ap (λ l. n ∷ l) (sym (sequence_is headers all homes h header)))

-- A node after another.
put_after_held : (homes : List (Option ℕ)) (all : List ℕ) (i h n p : ℕ) → i < length all → get_or all i 0 ≡ p → home homes p ≡ Some h → times p all ≡ 1 → nodes_of homes h (take (suc i) all) ++ n ∷ nodes_of homes h (drop (suc i) all) ≡ put_after (Some p) n (nodes_of homes h all)
put_after_held homes all i h n p l e own once =
    let s = split_held homes all i h p l e own once in
    ap (λ x. x ++ n ∷ nodes_of homes h (drop (suc i) all)) (held_more homes all i h p l e own)
    ∙ append_assoc (nodes_of homes h (take i all)) (p ∷ []) (n ∷ nodes_of homes h (drop (suc i) all))
    ∙ ap (λ x. x ++ p ∷ n ∷ nodes_of homes h (drop (suc i) all)) (sym s.0)
    ∙ ap (λ x. part_before p (nodes_of homes h all) ++ p ∷ n ∷ x) (sym s.1)

-- What the sequences are after a node is taken out.
module _ (headers : ℕ) (all : List ℕ) (homes : List (Option ℕ)) (i h n : ℕ) (s : IsSpace headers all homes) (within : i < length all) (there : get_or all i 0 ≡ n) (own : home homes n ≡ Some h) where
  pub take_sequences : sequences_of headers (remove all i) (slice_set homes n None) ≡ slice_set (sequences_of headers all homes) h (without_item n (sequence (sequences_of headers all homes) h))
  take_sequences =
      let node = home_known homes n h own in
      let free : home (slice_set homes n None) n ≡ None = home_same homes n None node in
      let gone = parts_fresh all i n within there (there_once headers all homes n h s own) in
      let left : (k : ℕ) → nodes_of (slice_set homes n None) k (remove all i) ≡ nodes_of homes k (take i all) ++ nodes_of homes k (drop (suc i) all) = λ k. filter-append (λ m. is_at (home (slice_set homes n None) m) k) (take i all) (drop (suc i) all)
      ∙ ap (λ l. l ++ nodes_of (slice_set homes n None) k (drop (suc i) all)) (held_fresh homes n k None (take i all) gone.0)
      ∙ ap (λ l. nodes_of homes k (take i all) ++ l) (held_fresh homes n k None (drop (suc i) all) gone.1) in
      let was : (k : ℕ) → nodes_of homes k all ≡ nodes_of homes k (take i all) ++ nodes_of homes k (n ∷ drop (suc i) all) = λ k. ap (nodes_of homes k) (sym (split_round all i n within there))
      ∙ filter-append (λ m. is_at (home homes m) k) (take i all) (n ∷ drop (suc i) all) in
      let own_part : without_item n (nodes_of homes h all) ≡ nodes_of homes h (take i all) ++ nodes_of homes h (drop (suc i) all) = ap (without_item n) (was h ∙ ap (λ l. nodes_of homes h (take i all) ++ l) (held_in homes n h (drop (suc i) all) (at_own homes n h own)))
      ∙ without_round n (nodes_of homes h (take i all)) (nodes_of homes h (drop (suc i) all)) (times_held homes n h (take i all) gone.0) (times_held homes n h (drop (suc i) all) gone.1) in
      map_set (λ k. nodes_of homes k all) (λ k. nodes_of (slice_set homes n None) k (remove all i)) headers h (without_item n (sequence (sequences_of headers all homes) h)) (s.homed n h own) (left h ∙ sym own_part ∙ ap (without_item n) (sym (sequence_is headers all homes h (s.homed n h own)))) (λ k ne. left k ∙ sym (was k ∙ ap (λ l. nodes_of homes k (take i all) ++ l) (held_out homes n k (drop (suc i) all) (at_other homes n h k own ne))))

  pub after_held : part_after n (sequence (sequences_of headers all homes) h) ≡ nodes_of homes h (drop (suc i) all)
  after_held = ap (part_after n) (sequence_is headers all homes h (s.homed n h own))
      ∙ (split_held homes all i h n within there own (there_once headers all homes n h s own)).1

  pub before_held : part_before n (sequence (sequences_of headers all homes) h) ≡ nodes_of homes h (take i all)
  before_held = ap (part_before n) (sequence_is headers all homes h (s.homed n h own))
      ∙ (split_held homes all i h n within there own (there_once headers all homes n h s own)).0

-- A node is once in the sequence of its header.
pub stands_once : (headers : ℕ) (all : List ℕ) (homes : List (Option ℕ)) → IsSpace headers all homes → (h n : ℕ) → times n (sequence (sequences_of headers all homes) h) ≡ cond (is_at (home homes n) h) 1 0
stands_once headers all homes s h n = by_case (cases_lt h headers) where
  inside : (o : Option ℕ) → home homes n ≡ o → times n (nodes_of homes h all) ≡ cond (is_at o h) 1 0
  inside None e = times_held homes n h all (not_there headers all homes n s e)
  inside (Some k) e = with_home (eqb k h) refl where
    with_home : (b : Bool) → eqb k h ≡ b → times n (nodes_of homes h all) ≡ cond b 1 0
    with_home true t = times_held_own homes n h all (ap (λ o. is_at o h) e ∙ t) ∙ there_once headers all homes n k s e
    with_home false t = times_held_other homes n h all (ap (λ o. is_at o h) e ∙ t)

  outside : headers ≤ h → (o : Option ℕ) → home homes n ≡ o → times n [] ≡ cond (is_at o h) 1 0
  outside l None e = refl
  outside l (Some k) e = sym (cond-false _ _ _ (ne_eqb k h (λ q. omega (arith, s.homed n k e))))

  by_case : (h < headers) ⊎ (headers ≤ h) → times n (sequence (sequences_of headers all homes) h) ≡ cond (is_at (home homes n) h) 1 0
  by_case (inl l) = ap (times n) (sequence_is headers all homes h l) ∙ inside (home homes n) refl
  by_case (inr l) =
      ap (times n) (get_or_past (sequences_of headers all homes) h [] (omega (arith, length-map-range_with_len (λ k. nodes_of homes k all) 0 headers)))
      ∙ outside l (home homes n) refl

-- The ends.
pub without_first : (n : ℕ) (xs : List ℕ) → first xs ≡ Some n → times n xs ≡ 1 → without_item n xs ≡ drop 1 xs
without_first n [] e t = cc
without_first n (x ∷ xs) e t =
    let here : x ≡ n = cc in
    let one : times n (x ∷ xs) ≡ suc (times n xs) = cond-true _ _ _ (eq-eqb x n here) in
    cond-false _ _ _ (ap not (eq-eqb x n here)) ∙ without_fresh n xs (omega arith)

pub last_times : (n : ℕ) (xs : List ℕ) → last xs ≡ Some n → 0 < times n xs
last_times n [] e = cc
last_times n (x ∷ []) e =
    let here : x ≡ n = cc in
    rw (cond-true (eqb x n) (suc zero) zero (eq-eqb x n here)) (omega arith)
last_times n (x ∷ y ∷ xs) e = by_case (eqb x n) (last_times n (y ∷ xs) e) where
  by_case : (b : Bool) → 0 < times n (y ∷ xs) → 0 < cond b (suc (times n (y ∷ xs))) (times n (y ∷ xs))
  by_case true ih = omega arith
  by_case false ih = ih

take_less : (x y : ℕ) (xs : List ℕ) → take (length (x ∷ y ∷ xs) - 1) (x ∷ y ∷ xs) ≡ x ∷ take (length (y ∷ xs) - 1) (y ∷ xs)
take_less x y xs =
    let a : length (x ∷ y ∷ xs) - 1 ≡ suc (length xs) = omega arith in
    let b : length (y ∷ xs) - 1 ≡ length xs = omega arith in
    ap (λ k. take k (x ∷ y ∷ xs)) a ∙ ap (λ k. x ∷ take k (y ∷ xs)) (sym b)

pub without_last : (n : ℕ) (xs : List ℕ) → last xs ≡ Some n → times n xs ≡ 1 → without_item n xs ≡ take (length xs - 1) xs
without_last n [] e t = cc
without_last n (x ∷ []) e t =
    let here : x ≡ n = cc in
    cond-false _ _ _ (ap not (eq-eqb x n here))
without_last n (x ∷ y ∷ xs) e t =
    by_case (eqb x n) t (last_times n (y ∷ xs) e) (without_last n (y ∷ xs) e) ∙ sym (take_less x y xs) where
      by_case : (b : Bool) → cond b (suc (times n (y ∷ xs))) (times n (y ∷ xs)) ≡ 1 → 0 < times n (y ∷ xs) → (times n (y ∷ xs) ≡ 1 → without_item n (y ∷ xs) ≡ take (length (y ∷ xs) - 1) (y ∷ xs)) → cond (not b) (x ∷ without_item n (y ∷ xs)) (without_item n (y ∷ xs)) ≡ x ∷ take (length (y ∷ xs) - 1) (y ∷ xs)
      by_case true z l ih = absurd (omega arith)
      by_case false z l ih = ap (λ m. x ∷ m) (ih z)

pub last-push : (xs : List ℕ) (n : ℕ) → last (xs ++ n ∷ []) ≡ Some n
last-push [] n = refl
last-push (x ∷ []) n = refl
last-push (x ∷ y ∷ xs) n = last-push (y ∷ xs) n

pub held_step : (homes : List (Option ℕ)) (h : ℕ) (all : List ℕ) (i : ℕ) → i < length all → nodes_of homes h (take (i + 1) all) ≡ nodes_of homes h (take i all) ++ cond (is_at (home homes (slice_index all i)) h) (slice_index all i ∷ []) []
held_step homes h all i l = filter_more (λ n. is_at (home homes n) h) all i 0 l

pub last_is : (homes : List (Option ℕ)) (h : ℕ) (all : List ℕ) (i : ℕ) → i < length all → is_at (home homes (slice_index all i)) h ≡ true → last (nodes_of homes h (take (i + 1) all)) ≡ Some (slice_index all i)
last_is homes h all i l e =
    ap last (held_step homes h all i l ∙ ap (λ m. nodes_of homes h (take i all) ++ m) (cond-true _ _ _ e))
    ∙ last-push (nodes_of homes h (take i all)) (slice_index all i)

pub last_before : (homes : List (Option ℕ)) (h : ℕ) (all : List ℕ) (i : ℕ) → i < length all → is_at (home homes (slice_index all i)) h ≡ false → last (nodes_of homes h (take (i + 1) all)) ≡ last (nodes_of homes h (take i all))
last_before homes h all i l e =
    ap last (held_step homes h all i l ∙ ap (λ m. nodes_of homes h (take i all) ++ m) (cond-false _ _ _ e) ∙ append-nil (nodes_of homes h (take i all)))

pub header_in : (headers : ℕ) (all : List ℕ) (homes : List (Option ℕ)) (h : ℕ) → h < length (sequences_of headers all homes) → h < headers
header_in headers all homes h l = omega (arith, length-map-range_with_len (λ k. nodes_of homes k all) 0 headers)

-- A node after another is put in.
pub put_after_in : (headers : ℕ) (all : List ℕ) (homes : List (Option ℕ)) (i j h n p : ℕ) → IsSpace headers all homes → h < headers → n < length homes → home homes n ≡ None → home homes p ≡ Some h → i < length all → slice_index all i ≡ p → j ≡ i + 1 → sequences_of headers (insert all j n) (slice_set homes n (Some h)) ≡ slice_set (sequences_of headers all homes) h (put_after (Some p) n (sequence (sequences_of headers all homes) h))
put_after_in headers all homes i j h n p s header node unlinked own l e next =
    ap (λ k. sequences_of headers (insert all k n) (slice_set homes n (Some h))) (next ∙ add-one i)
    ∙ put_sequences headers all homes (suc i) h n s header node unlinked (put_after (Some p) n (sequence (sequences_of headers all homes) h)) (put_after_held homes all i h n p l e own (there_once headers all homes p h s own) ∙ ap (put_after (Some p) n) (sym (sequence_is headers all homes h header)))

-- No node is linked.
homes_none : (nodes n : ℕ) → home (replicate nodes None) n ≡ None
homes_none zero n = refl
homes_none (suc nodes) zero = refl
homes_none (suc nodes) (suc n) = homes_none nodes n

linked_none : (nodes : ℕ) → linked_count (replicate nodes None) ≡ 0
linked_none zero = refl
linked_none (suc nodes) = linked_none nodes

pub empty_space : (headers nodes : ℕ) → IsSpace headers [] (replicate nodes None)
empty_space headers nodes = record {
  counted = sym (linked_none nodes);
  stands = λ n. sym (ap (λ o. cond (is_some o) 1 0) (homes_none nodes n));
  homed = λ n h e. let none = homes_none nodes n in cc;
}

empty_from : (homes : List (Option ℕ)) (a headers : ℕ) → map (λ h. nodes_of homes h []) (range_with_len a headers) ≡ replicate headers []
empty_from homes a zero = refl
empty_from homes a (suc headers) = ap (λ l. [] ∷ l) (empty_from homes (a + 1) headers)

pub empty_sequences : (homes : List (Option ℕ)) (headers : ℕ) → sequences_of headers [] homes ≡ replicate headers []
empty_sequences homes headers = empty_from homes 0 headers

pub same_sequences : {h k : ℕ} {xs ys : List ℕ} {os ps : List (Option ℕ)} → h ≡ k → xs ≡ ys → os ≡ ps → sequences_of h xs os ≡ sequences_of k ys ps
same_sequences {h} {k} {xs} {ys} {os} {ps} a b c =
    ap (λ i. sequences_of i xs os) a ∙ ap (λ l. sequences_of k l os) b ∙ ap (λ l. sequences_of k ys l) c

pub same_held : {h k : ℕ} {xs ys : List ℕ} {os ps : List (Option ℕ)} → h ≡ k → xs ≡ ys → os ≡ ps → nodes_of os h xs ≡ nodes_of ps k ys
same_held {h} {k} {xs} {ys} {os} {ps} a b c =
    ap (λ i. nodes_of os i xs) a ∙ ap (λ l. nodes_of os k l) b ∙ ap (λ l. nodes_of l k ys) c

-- The same of slices of the two lists.
pub known_in : (headers : ℕ) (all : List ℕ) (homes : List (Option ℕ)) → IsSpace headers all homes → (xs : List ℕ) (ys : List (Option ℕ)) → xs ≡ all → ys ≡ homes → (k d : ℕ) → k < length xs → get_or xs k d < length ys
known_in headers all homes s xs ys e f k d l =
    omega (arith, ap length e, ap length f, ap (λ m. get_or m k d) e, known headers all homes s k d (omega (arith, ap length e)))

pub last_none : (xs : List ℕ) → last xs ≡ None → xs ≡ []
last_none [] e = refl
last_none (x ∷ []) e = cc
last_none (x ∷ y ∷ xs) e = let n = last_none (y ∷ xs) e in cc

pub same_home : (o : Option ℕ) (h k : ℕ) → o ≡ Some h → o ≡ Some k → h ≡ k
same_home o h k a b = cc

pub mapped_replicate : {A B : Type 0} (f : A → B) (n : ℕ) (a : A) (b : B) → f a ≡ b → map f (replicate n a) ≡ replicate n b
mapped_replicate f zero a b e = refl
mapped_replicate f (suc n) a b e = ap (λ x. x ∷ map f (replicate n a)) e ∙ ap (λ l. b ∷ l) (mapped_replicate f n a b e)

pub taken_none : (all : List (List ℕ)) (h : ℕ) → last (sequence all h) ≡ None → all ≡ slice_set all h (take (length (sequence all h) - 1) (sequence all h))
taken_none all h e =
    let none = last_none (sequence all h) e in
    sym (ap (λ q. slice_set all h (take (length q - 1) q)) none ∙ ap (λ q. slice_set all h q) (sym none) ∙ set-get_or all h [])

pub read_home : (homes : List (Option ℕ)) (n : ℕ) (o : Option ℕ) → o ≡ get_or homes n o → n < length homes → o ≡ home homes n
read_home homes n o e l = get_or_read homes n o l e None

pub if_some_from : {P : ℕ → Type 0} (o : Option ℕ) → ((h : ℕ) → o ≡ Some h → P h) → IfSome o P
if_some_from None p = tt
if_some_from (Some h) p = p h refl

-- The header of a linked node is one of the space's.
pub home_header : (all : List (List ℕ)) (homes : List (Option ℕ)) (n h : ℕ) → times n (sequence all h) ≡ cond (is_at (home homes n) h) 1 0 → home homes n ≡ Some h → h < length all
home_header all homes n h law own = by_case (cases_lt h (length all)) where
  once : times n (sequence all h) ≡ 1
  once = law ∙ ap (λ b. cond b 1 0) (at_own homes n h own)

  by_case : (h < length all) ⊎ (length all ≤ h) → h < length all
  by_case (inl l) = l
  by_case (inr l) = let none = ap (times n) (get_or_past all h [] l) in absurd (omega (arith, once))
