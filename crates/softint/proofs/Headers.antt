-- The caused interrupts, kept in a header for each priority, are one sequence by priority.
use Rattle.std.proofs.Common.{◌≡◌, ◌≢◌, ℕ, zero, suc, ◌+◌, ◌<◌, ◌≤◌, Bool, true, false, cond, not, eqb, List, [], ◌∷◌, ◌++◌, length, slice_set, refl, sym, ap, ◌∙◌, subst, arith, inl, inr, Option, Some, None, IfSome, map, append_assoc, ◌⊎◌, ℤ, drop, int_lt, is_none, is_some, IsSome, eq-eqb, ne_eqb, get_or-set_other, get_or-set_same, length-set}
use Rattle.std.proofs.lemmas.{Bool.cond-true, Bool.cond-false, Bool.cases_eq, Int.ints, List.get_or_past, List.Elements.filter-append}
use Rattle.execlist.specs.{Order.enqueue, Order.first, Order.without_item, Order.is_lower, Lists.sequence, Lists.home, Lists.part_after, Lists.times, Lists.is_at, Disciplines.pri_at}
use Rattle.softint.specs.{declared.interrupt.Soft.Soft, Interrupts.Interrupts, Interrupts.KeepsInterrupts, Interrupts.joined, Interrupts.header_pri, Interrupts.causes, Interrupts.taken_off}
use Rattle.execlist.proofs.{Walks.absent_after, PlainLemmas.times_later, PlainLemmas.times-append, PlainLemmas.without_fresh}

-- ---- how often a number is

-- where a number is, it is there at least once
stands_here : (x : ℕ) (xs : List ℕ) → 1 ≤ times x (x ∷ xs)
stands_here x xs = omega (arith, cond-true (eqb x x) (suc (times x xs)) (times x xs) (eq-eqb x x refl))

-- what is in no header is nowhere
pub nowhere : (t : ℕ) (all : List (List ℕ)) → ((k : ℕ) → times t (sequence all k) ≡ 0) → times t (joined all) ≡ 0
nowhere t [] none = refl
nowhere t (xs ∷ rest) none = omega (arith, times-append t xs (joined rest), none 0, nowhere t rest (λ k. none (suc k)))

pub somewhere : (t h : ℕ) (all : List (List ℕ)) → times t (sequence all h) ≤ times t (joined all)
somewhere t h [] = omega arith
somewhere t zero (xs ∷ rest) = omega (arith, times-append t xs (joined rest))
somewhere t (suc h) (xs ∷ rest) = omega (arith, times-append t xs (joined rest), somewhere t h rest)

-- ---- an arrival

module _ (key : ℕ → ℤ) (x : ℕ) where
  -- those that are not of lower key are passed
  passed : (xs ys : List ℕ) → ((t : ℕ) → 1 ≤ times t xs → is_lower key t x ≡ false) → enqueue key (xs ++ ys) x ≡ xs ++ enqueue key ys x
  passed [] ys high = refl
  passed (y ∷ xs) ys high =
      cond-false _ _ _ (high y (stands_here y xs))
      ∙ ap (λ l. y ∷ l) (passed xs ys (λ t here. high t (omega (arith, here, times_later t y xs))))

  -- it goes before those of lower key
  goes_first : (all : List (List ℕ)) → ((k t : ℕ) → 1 ≤ times t (sequence all k) → is_lower key t x ≡ true) → enqueue key (joined all) x ≡ x ∷ joined all
  goes_first [] low = refl
  goes_first ([] ∷ rest) low = goes_first rest (λ k. low (suc k))
  goes_first ((y ∷ ys) ∷ rest) low = cond-true _ _ _ (low 0 y (stands_here y ys))

  -- what is last in the header of its key, below those of higher key and above those of lower key, is in its place
  pub arrives : (all : List (List ℕ)) (h : ℕ) → h < length all
      → ((k t : ℕ) → k ≤ h → 1 ≤ times t (sequence all k) → is_lower key t x ≡ false)
      → ((k t : ℕ) → h < k → 1 ≤ times t (sequence all k) → is_lower key t x ≡ true)
      → joined (slice_set all h (sequence all h ++ x ∷ [])) ≡ enqueue key (joined all) x
  arrives [] h within high low = absurd (omega (arith, within))
  arrives (xs ∷ rest) zero within high low =
      append_assoc xs (x ∷ []) (joined rest)
      ∙ ap (λ l. xs ++ l) (sym (goes_first rest (λ k t here. low (suc k) t (omega arith) here)))
      ∙ sym (passed xs (joined rest) (λ t here. high 0 t (omega arith) here))
  arrives (xs ∷ rest) (suc h) within high low =
      ap (λ l. xs ++ l) (arrives rest h (omega (arith, within)) (λ k t at here. high (suc k) t (omega (arith, at)) here) (λ k t at here. low (suc k) t (omega (arith, at)) here))
      ∙ sym (passed xs (joined rest) (λ t here. high 0 t (omega arith) here))

-- if one arrives, there is a first
pub first_arrived : (key : ℕ → ℤ) (xs : List ℕ) (x : ℕ) → is_some (first (enqueue key xs x)) ≡ true
first_arrived key [] x = refl
first_arrived key (y ∷ ys) x = by_case (is_lower key y x) where
  by_case : (b : Bool) → is_some (first (cond b (x ∷ y ∷ ys) (y ∷ enqueue key ys x))) ≡ true
  by_case true = refl
  by_case false = refl

-- ---- a departure

without-joins : (t : ℕ) (xs ys : List ℕ) → without_item t (xs ++ ys) ≡ without_item t xs ++ without_item t ys
without-joins t xs ys = filter-append (λ x. not (eqb x t)) xs ys

pub departs : (t : ℕ) (all : List (List ℕ)) (h : ℕ) → ((k : ℕ) → k ≢ h → times t (sequence all k) ≡ 0)
    → joined (slice_set all h (without_item t (sequence all h))) ≡ without_item t (joined all)
departs t [] h other = refl
departs t (xs ∷ rest) zero other =
    ap (λ l. without_item t xs ++ l) (sym (without_fresh t (joined rest) (nowhere t rest (λ k. other (suc k) (λ e. omega (arith, e))))))
    ∙ sym (without-joins t xs (joined rest))
departs t (xs ∷ rest) (suc h) other =
    ap (λ l. xs ++ l) (departs t rest h (λ k ne. other (suc k) (λ e. ne (omega (arith, e)))))
    ∙ ap (λ l. l ++ without_item t (joined rest)) (sym (without_fresh t xs (other 0 (λ e. omega (arith, e)))))
    ∙ sym (without-joins t xs (joined rest))

-- ---- the first

pub first_found : (all : List (List ℕ)) (h : ℕ) (i : ℕ) → ((k : ℕ) → k < h → first (sequence all k) ≡ None) → first (sequence all h) ≡ Some i → first (joined all) ≡ Some i
first_found [] h i none found = cc
first_found ([] ∷ rest) zero i none found = cc
first_found ((x ∷ xs) ∷ rest) zero i none found = found
first_found ([] ∷ rest) (suc h) i none found = first_found rest h i (λ k before. none (suc k) (omega (arith, before))) found
first_found ((x ∷ xs) ∷ rest) (suc h) i none found = let bad = none 0 (omega arith) in cc

-- the first of the first header that has one
pub first_of_some : (all : List (List ℕ)) (h : ℕ) (o : Option ℕ) → ((k : ℕ) → k < h → first (sequence all k) ≡ None) → o ≡ first (sequence all h) → is_some o ≡ true → o ≡ first (joined all)
first_of_some all h None none e some = cc
first_of_some all h (Some i) none e some = sym (first_found all h i none (sym e))

pub none_found : (all : List (List ℕ)) → ((k : ℕ) → k < length all → first (sequence all k) ≡ None) → first (joined all) ≡ None
none_found [] none = refl
none_found ([] ∷ rest) none = none_found rest (λ k before. none (suc k) (omega (arith, before)))
none_found ((x ∷ xs) ∷ rest) none = none 0 (omega arith)

-- ---- what comes after one

after_here : (i : ℕ) (xs ys : List ℕ) → 1 ≤ times i xs → part_after i (xs ++ ys) ≡ part_after i xs ++ ys
after_here i [] ys here = absurd (omega (arith, here))
after_here i (x ∷ xs) ys here = by_case (eqb x i) here (after_here i xs ys) where
  by_case : (b : Bool) → 1 ≤ cond b (suc (times i xs)) (times i xs) → (1 ≤ times i xs → part_after i (xs ++ ys) ≡ part_after i xs ++ ys)
      → cond b (xs ++ ys) (part_after i (xs ++ ys)) ≡ cond b xs (part_after i xs) ++ ys
  by_case true l ih = refl
  by_case false l ih = ih l

after_there : (i : ℕ) (xs ys : List ℕ) → times i xs ≡ 0 → part_after i (xs ++ ys) ≡ part_after i ys
after_there i [] ys none = refl
after_there i (x ∷ xs) ys none = by_case (eqb x i) none (after_there i xs ys) where
  by_case : (b : Bool) → cond b (suc (times i xs)) (times i xs) ≡ 0 → (times i xs ≡ 0 → part_after i (xs ++ ys) ≡ part_after i ys)
      → cond b (xs ++ ys) (part_after i (xs ++ ys)) ≡ part_after i ys
  by_case true z ih = absurd (omega (arith, z))
  by_case false z ih = ih z

-- the first of two parts
abbrev pub first_or_below : Option ℕ → Option ℕ → Option ℕ
first_or_below None below = below
first_or_below (Some n) below = Some n

first_joins : (xs ys : List ℕ) → first (xs ++ ys) ≡ first_or_below (first xs) (first ys)
first_joins [] ys = refl
first_joins (x ∷ xs) ys = refl

-- after one come the rest of its header and the headers below
behind_in : (i : ℕ) (all : List (List ℕ)) (h : ℕ) → 1 ≤ times i (sequence all h) → ((k : ℕ) → k ≢ h → times i (sequence all k) ≡ 0)
    → part_after i (joined all) ≡ part_after i (sequence all h) ++ joined (drop (suc h) all)
behind_in i [] h here other = absurd (omega (arith, here))
behind_in i (xs ∷ rest) zero here other = after_here i xs (joined rest) here
behind_in i (xs ∷ rest) (suc h) here other =
    after_there i xs (joined rest) (other 0 (λ e. omega (arith, e)))
    ∙ behind_in i rest h here (λ k ne. other (suc k) (λ e. ne (omega (arith, e))))

-- the first of the first header below that has one
pub below_found : (all : List (List ℕ)) (h k : ℕ) (o : Option ℕ) → h < k → ((j : ℕ) → h + 1 ≤ j → j < k → first (sequence all j) ≡ None)
    → o ≡ first (sequence all k) → is_some o ≡ true → o ≡ first (joined (drop (suc h) all))
below_found [] h k None l none e some = cc
below_found [] h k (Some i) l none e some = cc
below_found (xs ∷ rest) zero zero o l none e some = absurd (omega (arith, l))
below_found (xs ∷ rest) zero (suc k) o l none e some = first_of_some rest k o (λ j before. none (suc j) (omega arith) (omega (arith, before))) e some
below_found (xs ∷ rest) (suc h) zero o l none e some = absurd (omega (arith, l))
below_found (xs ∷ rest) (suc h) (suc k) o l none e some = below_found rest h k o (omega (arith, l)) (λ j a b. none (suc j) (omega (arith, a)) (omega (arith, b))) e some

pub below_none : (all : List (List ℕ)) (h : ℕ) → ((j : ℕ) → h + 1 ≤ j → j < length all → first (sequence all j) ≡ None) → None ≡ first (joined (drop (suc h) all))
below_none [] h none = refl
below_none (xs ∷ rest) zero none = sym (none_found rest (λ j b. none (suc j) (omega arith) (omega (arith, b))))
below_none (xs ∷ rest) (suc h) none = below_none rest h (λ j a b. none (suc j) (omega (arith, a)) (omega (arith, b)))

-- ---- homes

some_is : {h k : ℕ} → Some h ≡ Some k → h ≡ k
some_is e = cc

-- what is in a header has it for its home
pub at_home : (o : Option ℕ) (h n : ℕ) → n ≡ cond (is_at o h) 1 0 → 1 ≤ n → o ≡ Some h
at_home None h n e here = absurd (omega (arith, e, here))
at_home (Some k) h n e here = by_case (cases_eq k h) where
  by_case : (k ≡ h) ⊎ (k ≡ h → ⊥) → Some k ≡ Some h
  by_case (inl same) = ap Some same
  by_case (inr other) = absurd (omega (arith, here, e, cond-false {A = ℕ} (eqb k h) 1 0 (ne_eqb k h other)))

pub not_there : (o : Option ℕ) (h n : ℕ) → n ≡ cond (is_at o h) 1 0 → (o ≡ Some h → ⊥) → n ≡ 0
not_there None h n e other = e
not_there (Some k) h n e other = e ∙ cond-false {A = ℕ} (eqb k h) 1 0 (ne_eqb k h (λ same. other (ap Some same)))

pub there : (o : Option ℕ) (h n : ℕ) → n ≡ cond (is_at o h) 1 0 → o ≡ Some h → 1 ≤ n
there o h n e at = omega (arith, e, ap {B = ℕ} (λ k. cond (is_at k h) 1 0) at, cond-true {A = ℕ} (eqb h h) 1 0 (eq-eqb h h refl))

-- a header written for one number keeps what is said of each number's header
pub said_of : (P : ℕ → ℕ → Type 0) (homes : List (Option ℕ)) (i : ℕ) (o : Option ℕ) → i < length homes
    → ((t h : ℕ) → home homes t ≡ Some h → P t h) → ((h : ℕ) → o ≡ Some h → P i h)
    → (t h : ℕ) → home (slice_set homes i o) t ≡ Some h → P t h
said_of P homes i o within before new t h e = by_case (cases_eq i t) where
  by_case : (i ≡ t) ⊎ (i ≡ t → ⊥) → P t h
  by_case (inl same) = subst (λ k. P k h) same (new h (sym (get_or-set_same homes i o None within) ∙ ap (home (slice_set homes i o)) same ∙ e))
  by_case (inr other) = before t h (sym (get_or-set_other homes i t o None (λ e. other (sym e))) ∙ e)

-- ---- priorities of headers

pub not_lower : (k h : ℕ) → k ≤ h → int_lt (header_pri k) (header_pri h) ≡ false
not_lower k h le = grind (arith, ints)

pub lower : (k h : ℕ) → h < k → int_lt (header_pri k) (header_pri h) ≡ true
lower k h lt = grind (arith, ints)

-- ---- the calls

abbrev Stands : List (List ℕ) → List (Option ℕ) → Type 0
Stands all homes = (k t : ℕ) → times t (sequence all k) ≡ cond (is_at (home homes t) k) 1 0

-- what is in no header is not caused
pub loose : (all : List (List ℕ)) (homes : List (Option ℕ)) (i : ℕ) → Stands all homes → home homes i ≡ None → times i (joined all) ≡ 0
loose all homes i stands none = nowhere i all (λ k. not_there (home homes i) k _ (stands k i) (λ e. let bad = sym none ∙ e in cc))

-- what is in a header is caused
pub present : (all : List (List ℕ)) (homes : List (Option ℕ)) (i : ℕ) → Stands all homes → is_none (home homes i) ≡ false → 1 ≤ times i (joined all)
present all homes i stands some = by_case (home homes i) refl some where
  by_case : (o : Option ℕ) → home homes i ≡ o → is_none o ≡ false → 1 ≤ times i (joined all)
  by_case None e never = cc
  by_case (Some h) e there_is = omega (arith, somewhere i h all, there (home homes i) h _ (stands h i) e)

pub arrival : (all : List (List ℕ)) (homes : List (Option ℕ)) (softs : List Soft) (i h : ℕ) → KeepsInterrupts (length all) homes softs → Stands all homes
    → h < 5 → pri_at (map (λ (s : Soft). s.pri) softs) i ≡ header_pri h
    → joined (slice_set all h (sequence all h ++ i ∷ [])) ≡ enqueue (pri_at (map (λ (s : Soft). s.pri) softs)) (joined all) i
arrival all homes softs i h held stands few same =
    arrives (pri_at pris) i all h (omega (arith, held.five, few))
    (λ k t le here. rw (pri_of k t here, same) (not_lower k h le))
    (λ k t lt here. rw (pri_of k t here, same) (lower k h lt))
  where
    pris : List ℤ
    pris = map (λ (s : Soft). s.pri) softs

    pri_of : (k t : ℕ) → 1 ≤ times t (sequence all k) → pri_at pris t ≡ header_pri k
    pri_of k t here = held.stands t k (at_home (home homes t) k _ (stands k t) here)

-- what is said of the headers holds of those in which one more is
pub arrival_held : (all new : List (List ℕ)) (homes placed : List (Option ℕ)) (softs : List Soft) (i h : ℕ) → KeepsInterrupts (length all) homes softs
    → i < length homes → pri_at (map (λ (s : Soft). s.pri) softs) i ≡ header_pri h
    → new ≡ slice_set all h (sequence all h ++ i ∷ []) → placed ≡ slice_set homes i (Some h) → KeepsInterrupts (length new) placed softs
arrival_held all new homes placed softs i h held within same is put = record {
  five = ap length is ∙ length-set all h (sequence all h ++ i ∷ []) ∙ held.five;
  each_soft = ap length put ∙ length-set homes i (Some h) ∙ held.each_soft;
  priorities = held.priorities;
  stands = λ t k e. said_of (λ t k. pri_at (map (λ (s : Soft). s.pri) softs) t ≡ header_pri k) homes i (Some h) within held.stands
      (λ k at. same ∙ ap header_pri (some_is at)) t k (sym (ap (λ o. home o t) put) ∙ e);
}

pub departure : (all new : List (List ℕ)) (homes : List (Option ℕ)) (i : ℕ) → Stands all homes → IsSome (home homes i)
    → IfSome (home homes i) (λ h. new ≡ slice_set all h (without_item i (sequence all h))) → joined new ≡ without_item i (joined all)
departure all new homes i stands some taken = by_case (home homes i) refl some taken where
  by_case : (o : Option ℕ) → home homes i ≡ o → IsSome o → IfSome o (λ h. new ≡ slice_set all h (without_item i (sequence all h))) → joined new ≡ without_item i (joined all)
  by_case None e never taken = cc
  by_case (Some h) e some taken =
      ap joined taken ∙ departs i all h (λ k ne. not_there (home homes i) k _ (stands k i) (λ at. let same : h ≡ k = some_is (sym e ∙ at) in ne (sym same)))

pub soft_known : (homes : List (Option ℕ)) (i : ℕ) → IsSome (home homes i) → i < length homes
soft_known [] i some = cc
soft_known (x ∷ homes) zero some = omega arith
soft_known (x ∷ homes) (suc i) some = omega (arith, soft_known homes i some)

module _ {m now : Interrupts} (is : m ≡ now) (i : ℕ) (l : List ℕ) where
  pub caused_more : times i m.caused ≡ 0 → l ≡ enqueue (pri_at m.priorities) m.caused i → record m { caused = l } ≡ causes i now
  caused_more none e =
      ap (λ x. record m { caused = x }) e
      ∙ sym (cond-false _ _ _ (ap not (eq-eqb (times i m.caused) 0 none)))
      ∙ ap (causes i) is

  pub caused_less : first m.caused ≡ Some i → l ≡ without_item i m.caused → record m { caused = l } ≡ taken_off (first now.caused) now
  caused_less e d =
      ap (λ x. record m { caused = x }) d
      ∙ ap (λ o. taken_off o m) (sym e)
      ∙ ap (λ (n : Interrupts). taken_off (first n.caused) n) is

pub caused_still : {m now : Interrupts} → m ≡ now → (i : ℕ) → 1 ≤ times i m.caused → now ≡ causes i now
caused_still {m} {now} is i here =
    sym (sym (ap (causes i) is) ∙ cond-true _ _ _ (ap not (ne_eqb (times i m.caused) 0 (λ e. omega (arith, e, here)))) ∙ is)

-- ---- what comes after one, by its header

-- nothing comes after one that is not caused
pub none_behind : (all : List (List ℕ)) (homes : List (Option ℕ)) (i : ℕ) → Stands all homes → home homes i ≡ None → None ≡ first (part_after i (joined all))
none_behind all homes i stands none = sym (ap first (absent_after i (joined all) (loose all homes i stands none)))

-- after one comes what its header has next, or else the first of those below
pub next_behind : (all : List (List ℕ)) (homes : List (Option ℕ)) (i h : ℕ) (next : Option ℕ) → Stands all homes → home homes i ≡ Some h
    → next ≡ first (part_after i (sequence all h)) → first (part_after i (joined all)) ≡ first_or_below next (first (joined (drop (suc h) all)))
next_behind all homes i h next stands own e =
    let here = there (home homes i) h _ (stands h i) own in
    let rest = behind_in i all h here (λ k ne. not_there (home homes i) k _ (stands k i) (λ at. let same : h ≡ k = some_is (sym own ∙ at) in ne (sym same))) in
    ap first rest ∙ first_joins (part_after i (sequence all h)) (joined (drop (suc h) all)) ∙ ap (λ o. first_or_below o (first (joined (drop (suc h) all)))) (sym e)

pub home_beyond : (homes : List (Option ℕ)) (i : ℕ) → length homes ≤ i → home homes i ≡ None
home_beyond homes i far = get_or_past homes i None far
