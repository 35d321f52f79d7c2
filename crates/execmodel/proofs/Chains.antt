-- The servers of a source run in the order of their priorities, however that is kept.
use Rattle.std.proofs.Common.{◌≡◌, ℕ, zero, suc, ◌+◌, ◌<◌, ◌≤◌, Bool, true, false, cond, not, eqb, List, [], ◌∷◌, length, refl, sym, ap, ◌∙◌, arith, Option, Some, None, ℤ, filter, fold, slice_index_or, eq-eqb, ne_eqb}
use Rattle.std.specs.List.{range_with_len}
use Rattle.std.proofs.lemmas.{Bool.cond-true, Bool.cond-false, List.FromFn.length-range_with_len}
use Rattle.execlist.specs.Order.{enqueue, order, first, without_item, is_lower}
use Rattle.execlist.proofs.OrderLaws.{first_of_order, order_leaves_out}
use Rattle.softint.specs.{Sources.is_source, declared.source.Source.Source}
use Rattle.script.specs.File.{ServerData}
use Rattle.execmodel.specs.{Interrupts.server_pri, Interrupts.servers_for, Interrupts.no_server, Interrupts.by_choice, Interrupts.chain_of}
use Rattle.execmodel.proofs.Heaps.{true_is_not_false}

-- ---- numbers that are apart

-- number k is not among these
abbrev Lacks : ℕ → List ℕ → Type 0
Lacks k [] = Unit {0}
Lacks k (x ∷ xs) = (eqb x k ≡ false) × Lacks k xs

-- no two of these are the same
abbrev Distinct : List ℕ → Type 0
Distinct [] = Unit {0}
Distinct (x ∷ xs) = Lacks x xs × Distinct xs

-- none of the first is among the second
abbrev Apart : List ℕ → List ℕ → Type 0
Apart [] ys = Unit {0}
Apart (x ∷ xs) ys = Lacks x ys × Apart xs ys

apart_back : (x y : ℕ) → eqb x y ≡ false → eqb y x ≡ false
apart_back x y e = ne_eqb y x (λ same. true_is_not_false (sym (eq-eqb x y (sym same)) ∙ e))

left_alone : (k : ℕ) (xs : List ℕ) → Lacks k xs → without_item k xs ≡ xs
left_alone k [] h = refl
left_alone k (x ∷ xs) h = cond-true _ _ _ (ap not h.0) ∙ ap (λ l. x ∷ l) (left_alone k xs h.1)

first_left : (k : ℕ) (xs : List ℕ) → Lacks k xs → without_item k (k ∷ xs) ≡ xs
first_left k xs h = cond-false _ _ _ (ap not (eq-eqb k k refl)) ∙ left_alone k xs h

-- ---- in order they stay apart, and as many

module _ (key : ℕ → ℤ) where
  lacks_enqueue : (k x : ℕ) (xs : List ℕ) → eqb x k ≡ false → Lacks k xs → Lacks k (enqueue key xs x)
  lacks_enqueue k x [] e h = (e, tt)
  lacks_enqueue k x (y ∷ ys) e h = by_case (is_lower key y x) (lacks_enqueue k x ys e h.1)
    where
      by_case : (b : Bool) → Lacks k (enqueue key ys x) → Lacks k (cond b (x ∷ y ∷ ys) (y ∷ enqueue key ys x))
      by_case true ih = (e, h)
      by_case false ih = (h.0, ih)

  distinct_enqueue : (x : ℕ) (xs : List ℕ) → Lacks x xs → Distinct xs → Distinct (enqueue key xs x)
  distinct_enqueue x [] h d = (tt, tt)
  distinct_enqueue x (y ∷ ys) h d = by_case (is_lower key y x) (distinct_enqueue x ys h.1 d.1)
    where
      by_case : (b : Bool) → Distinct (enqueue key ys x) → Distinct (cond b (x ∷ y ∷ ys) (y ∷ enqueue key ys x))
      by_case true ih = (h, d)
      by_case false ih = (lacks_enqueue y x ys (apart_back y x h.0) d.0, ih)

  apart_enqueue : (x : ℕ) (xs ys : List ℕ) → Lacks x xs → Apart xs ys → Apart xs (enqueue key ys x)
  apart_enqueue x [] ys h a = tt
  apart_enqueue x (z ∷ xs) ys h a = (lacks_enqueue z x ys (apart_back z x h.0) a.0, apart_enqueue x xs ys h.1 a.1)

  distinct_fold : (xs ys : List ℕ) → Distinct xs → Distinct ys → Apart xs ys → Distinct (fold (enqueue key) ys xs)
  distinct_fold [] ys d e a = e
  distinct_fold (x ∷ xs) ys d e a =
      distinct_fold xs (enqueue key ys x) d.1 (distinct_enqueue x ys a.0 e) (apart_enqueue x xs ys d.0 a.1)

  length-enqueue : (x : ℕ) (xs : List ℕ) → length (enqueue key xs x) ≡ suc (length xs)
  length-enqueue x [] = refl
  length-enqueue x (y ∷ ys) = by_case (is_lower key y x) (length-enqueue x ys)
    where
      by_case : (b : Bool) → length (enqueue key ys x) ≡ suc (length ys)
          → length (cond b (x ∷ y ∷ ys) (y ∷ enqueue key ys x)) ≡ suc (suc (length ys))
      by_case true ih = refl
      by_case false ih = ap suc ih

  length-fold : (xs ys : List ℕ) → length (fold (enqueue key) ys xs) ≡ length ys + length xs
  length-fold [] ys = omega arith
  length-fold (x ∷ xs) ys = let more = length-fold xs (enqueue key ys x) in let one = length-enqueue x ys in omega (arith, more, one)

  -- the chosen one, and then that many others
  abbrev with_choice : ℕ → List ℕ → Option ℕ → List ℕ
  with_choice n xs choice = elim choice as (λ (x : Option ℕ). List ℕ) [ None ↦ [] | Some k ↦ k ∷ by_choice n key (without_item k xs) ]

  -- what is chosen, one after another from those that are left, is all of them in order
  chosen_in_order : (l : List ℕ) (n : ℕ) (xs : List ℕ) → order key xs ≡ l → Distinct l → length l ≤ n → by_choice n key xs ≡ l
  unfolding by_choice
  chosen_in_order [] zero xs e d most = refl
  chosen_in_order [] (suc n) xs e d most = ap (with_choice n xs) (sym (first_of_order ℕ key xs) ∙ ap first e)
  chosen_in_order (k ∷ l) zero xs e d most = absurd (omega (arith, most))
  chosen_in_order (k ∷ l) (suc n) xs e d most =
      ap (with_choice n xs) (sym (first_of_order ℕ key xs) ∙ ap first e)
      ∙ ap (λ others. k ∷ others)
      (chosen_in_order l n (without_item k xs)
      (order_leaves_out ℕ key (λ x. not (eqb x k)) xs ∙ ap (without_item k) e ∙ first_left k l d.0) d.1 (omega (arith, most)))

-- ---- the numbers of servers

-- those of some numbers from a on that pass lack each number below a
lacks_below : (test : ℕ → Bool) (k a n : ℕ) → k < a → Lacks k (filter test (range_with_len a n))
lacks_below test k a zero below = tt
lacks_below test k a (suc n) below = by_case (test a) (lacks_below test k (a + 1) n (omega (arith, below)))
  where
    by_case : (b : Bool) → Lacks k (filter test (range_with_len (a + 1) n))
        → Lacks k (cond b (a ∷ filter test (range_with_len (a + 1) n)) (filter test (range_with_len (a + 1) n)))
    by_case true ih = (ne_eqb a k (λ same. omega (arith, same, below)), ih)
    by_case false ih = ih

distinct_range : (test : ℕ → Bool) (a n : ℕ) → Distinct (filter test (range_with_len a n))
distinct_range test a zero = tt
distinct_range test a (suc n) = by_case (test a) (distinct_range test (a + 1) n)
  where
    by_case : (b : Bool) → Distinct (filter test (range_with_len (a + 1) n))
        → Distinct (cond b (a ∷ filter test (range_with_len (a + 1) n)) (filter test (range_with_len (a + 1) n)))
    by_case true ih = (lacks_below test a (a + 1) n (omega arith), ih)
    by_case false ih = ih

length-filter : (test : ℕ → Bool) (xs : List ℕ) → length (filter test xs) ≤ length xs
length-filter test [] = omega arith
length-filter test (x ∷ xs) = by_case (test x) (length-filter test xs)
  where
    by_case : (b : Bool) → length (filter test xs) ≤ length xs → length (cond b (x ∷ filter test xs) (filter test xs)) ≤ suc (length xs)
    by_case true ih = omega (arith, ih)
    by_case false ih = omega (arith, ih)

apart_from_none : (xs : List ℕ) → Apart xs []
apart_from_none [] = tt
apart_from_none (x ∷ xs) = (tt, apart_from_none xs)

-- the servers of a source run by priority, and those of one priority in the order of the file
pub chain_is_order : (asks : Source) (servers : List ServerData) → chain_of asks servers ≡ order (server_pri servers) (servers_for asks servers)
unfolding chain_of order
chain_is_order asks servers =
    let all = servers_for asks servers in
    let distinct = distinct_range (λ k. is_source (slice_index_or servers k no_server).source asks) 0 (length servers) in
    let some = length-filter (λ k. is_source (slice_index_or servers k no_server).source asks) (range_with_len 0 (length servers)) in
    chosen_in_order (server_pri servers) (order (server_pri servers) all) (length servers) all refl
    (distinct_fold (server_pri servers) all [] distinct tt (apart_from_none all))
    (omega (arith, some, length-fold (server_pri servers) all [], length-range_with_len 0 (length servers)))
