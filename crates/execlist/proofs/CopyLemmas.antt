-- How sequences are copied to a space with one more node.
use Rattle.std.proofs.Common.{inl, inr, ◌⊎◌, ◌≡◌, ◌≢◌, ℕ, zero, suc, ◌+◌, ◌<◌, ◌≤◌, cond, List, [], ◌∷◌, ◌++◌, length, Option, Some, None, refl, sym, ap, ap₂, ◌∙◌, arith, slice_index_or, slice_set, replicate, append_assoc, append-nil, get_or-set_same, get_or-set_other, set-set, length-set, eq-eqb, eqb-true, eqb, Bool, true, false}
use Rattle.std.proofs.lemmas.Bool.{cond-true, cases_eq, cases_lt}
use Rattle.execlist.specs.{Order.first, Lists.sequence, Lists.home, Lists.is_at, Lists.times, Lists.ahead, Lists.part_after}
use Rattle.execlist.proofs.{PlainLemmas.times-append, PlainLemmas.times_same, Walks.Once, Walks.ahead_after, Walks.ahead_first, Walks.in_sequence}

-- what a list space reports of sequences and homes
abbrev pub Stands : List (List ℕ) → List (Option ℕ) → Type 0
Stands all homes = (h n : ℕ) → times n (sequence all h) ≡ cond (is_at (home homes n) h) 1 0

-- ---- one sequence

-- no part of it is copied yet
pub none_copied : (old : List (List ℕ)) (h : ℕ) (next : Option ℕ) (seq : List ℕ) → sequence old h ≡ [] → next ≡ first seq → sequence old h ++ ahead next seq ≡ seq
none_copied old h next seq empty is = ap (λ xs. xs ++ ahead next seq) empty ∙ ap (λ o. ahead o seq) is ∙ ahead_first seq

-- a node that is to be copied is in no header yet
pub free : (all old : List (List ℕ)) (homes homes_before : List (Option ℕ)) (h n : ℕ) (rest seq : List ℕ) → Stands all homes → Stands old homes_before
    → all ≡ slice_set old h (sequence all h) → sequence all h ++ n ∷ rest ≡ seq → Once seq → home homes_before n ≡ None → home homes n ≡ None
free all old homes homes_before h n rest seq stands stood placed split once none = by_home (home homes n) refl
  where
    here : times n (sequence all h) ≡ 0
    here =
        let parts = times-append n (sequence all h) (n ∷ rest) in
        let one = times_same n rest in
        let whole = ap (times n) split in
        let most = once n in
        omega arith

    there : (k : ℕ) → k ≢ h → times n (sequence all k) ≡ 0
    there k apart =
        ap (λ (xs : List (List ℕ)). times n (sequence xs k)) placed ∙ ap (times n) (get_or-set_other old h k (sequence all h) [] apart)
        ∙ stood k n ∙ ap {B = ℕ} (λ o. cond (is_at o k) 1 0) none

    nowhere : (k : ℕ) → times n (sequence all k) ≡ 0
    nowhere k = by_place (cases_eq k h) where
      by_place : (k ≡ h) ⊎ (k ≡ h → ⊥) → times n (sequence all k) ≡ 0
      by_place (inl same) = ap (λ j. times n (sequence all j)) same ∙ here
      by_place (inr apart) = there k apart

    by_home : (o : Option ℕ) → home homes n ≡ o → home homes n ≡ None
    by_home None e = e
    by_home (Some k) e = absurd (omega (arith, nowhere k, in_sequence (times n (sequence all k)) (home homes n) k (stands k n) e))

-- one more node is copied
pub last_is : (all new : List (List ℕ)) (h n : ℕ) → h < length all → new ≡ slice_set all h (sequence all h ++ n ∷ []) → sequence new h ≡ sequence all h ++ n ∷ []
last_is all new h n less is = ap (λ (xs : List (List ℕ)). sequence xs h) is ∙ get_or-set_same all h (sequence all h ++ n ∷ []) [] less

pub placed_more : (all new old : List (List ℕ)) (h n : ℕ) → h < length all → all ≡ slice_set old h (sequence all h)
    → new ≡ slice_set all h (sequence all h ++ n ∷ []) → new ≡ slice_set old h (sequence new h)
placed_more all new old h n less placed is =
    is ∙ ap (λ (xs : List (List ℕ)). slice_set xs h (sequence all h ++ n ∷ [])) placed
    ∙ set-set old h (sequence all h) (sequence all h ++ n ∷ [])
    ∙ ap (slice_set old h) (sym (last_is all new h n less is))

pub split_more : (all new : List (List ℕ)) (h n : ℕ) (next : Option ℕ) (seq : List ℕ) → h < length all → Once seq
    → new ≡ slice_set all h (sequence all h ++ n ∷ []) → next ≡ first (part_after n seq) → sequence all h ++ ahead (Some n) seq ≡ seq
    → sequence new h ++ ahead next seq ≡ seq
split_more all new h n next seq less once is after split =
    ap (λ xs. xs ++ ahead next seq) (last_is all new h n less is)
    ∙ ap (λ xs. (sequence all h ++ n ∷ []) ++ xs) (ap (λ o. ahead o seq) after ∙ ahead_after n seq once)
    ∙ append_assoc (sequence all h) (n ∷ []) (part_after n seq) ∙ split

-- all of it is copied
pub all_copied : (all old : List (List ℕ)) (h : ℕ) (seq : List ℕ) → all ≡ slice_set old h (sequence all h) → sequence all h ++ [] ≡ seq → all ≡ slice_set old h seq
all_copied all old h seq placed split = placed ∙ ap (slice_set old h) (sym (append-nil (sequence all h)) ∙ split)

-- no node is next
pub none_next : (o : Option ℕ) → ((n : ℕ) → o ≡ Some n → ⊥) → o ≡ None
none_next None never = refl
none_next (Some n) never = absurd (never n refl)

-- ---- all sequences

-- a node of a header that is not copied yet is in no header of the other space
pub unlinked : (all from : List (List ℕ)) (homes homes_from : List (Option ℕ)) (h n : ℕ) → Stands all homes → Stands from homes_from
    → ((k : ℕ) → k < h → sequence all k ≡ sequence from k) → ((k : ℕ) → h ≤ k → sequence all k ≡ []) → home homes_from n ≡ Some h → home homes n ≡ None
unlinked all from homes homes_from h n stands stood front rest own = by_home (home homes n) refl
  where
    other : (k : ℕ) → k < h → times n (sequence from k) ≡ 0
    other k less = stood k n ∙ ap {B = ℕ} (λ o. cond (is_at o k) 1 0) own ∙ by_test (eqb h k) refl where
      by_test : (b : Bool) → eqb h k ≡ b → cond {A = ℕ} b 1 0 ≡ 0
      by_test true e = absurd (omega (arith, less, eqb-true h k e))
      by_test false e = refl

    nowhere : (k : ℕ) → times n (sequence all k) ≡ 0
    nowhere k = elim (cases_lt k h) [
      | inl less ↦ ap (times n) (front k less) ∙ other k less
      | inr not ↦ ap (times n) (rest k (let least : h ≤ k = omega (arith, not) in least))
    ]

    by_home : (o : Option ℕ) → home homes n ≡ o → home homes n ≡ None
    by_home None e = e
    by_home (Some k) e = absurd (omega (arith, nowhere k, in_sequence (times n (sequence all k)) (home homes n) k (stands k n) e))

-- one more header is copied
pub front_more : (all new from : List (List ℕ)) (h : ℕ) → h < length all → new ≡ slice_set all h (sequence from h)
    → ((k : ℕ) → k < h → sequence all k ≡ sequence from k) → (k : ℕ) → k < h + 1 → sequence new k ≡ sequence from k
front_more all new from h less is front k most = ap (λ (xs : List (List ℕ)). sequence xs k) is ∙ by_place (cases_eq k h) where
  by_place : (k ≡ h) ⊎ (k ≡ h → ⊥) → sequence (slice_set all h (sequence from h)) k ≡ sequence from k
  by_place (inl same) = ap (sequence (slice_set all h (sequence from h))) same ∙ get_or-set_same all h (sequence from h) [] less ∙ ap (sequence from) (sym same)
  by_place (inr apart) = get_or-set_other all h k (sequence from h) [] apart ∙ front k (before apart) where
    before : (k ≡ h → ⊥) → k < h
    before other = elim (cases_lt k h) [ inl less ↦ less | inr not ↦ absurd (other (let e : k ≡ h = omega (arith, not, most) in e)) ]

pub rest_more : (all new : List (List ℕ)) (h : ℕ) (seq : List ℕ) → new ≡ slice_set all h seq → ((k : ℕ) → h ≤ k → sequence all k ≡ [])
    → (k : ℕ) → h + 1 ≤ k → sequence new k ≡ []
rest_more all new h seq is rest k most =
    let apart : k ≢ h = λ e. absurd (omega (arith, e, most)) in
    let least : h ≤ k = omega (arith, most) in
    ap (λ (xs : List (List ℕ)). sequence xs k) is ∙ get_or-set_other all h k seq [] apart ∙ rest k least

-- lists whose items are the same
pub same_lists : {A : Type 0} (d : A) (xs ys : List A) → length xs ≡ length ys → ((k : ℕ) → k < length ys → slice_index_or xs k d ≡ slice_index_or ys k d) → xs ≡ ys
same_lists d [] [] count same = refl
same_lists d [] (y ∷ ys) count same = absurd (omega (arith, count))
same_lists d (x ∷ xs) [] count same = absurd (omega (arith, count))
same_lists d (x ∷ xs) (y ∷ ys) count same =
    ap₂ (λ z zs. z ∷ zs) (same 0 (omega arith)) (same_lists d xs ys (omega (arith, count)) (λ k less. same (suc k) (omega (arith, less))))

-- a node is in the same header, if it is as often in each
same_home : (o p : Option ℕ) → ((k : ℕ) → cond {A = ℕ} (is_at o k) 1 0 ≡ cond (is_at p k) 1 0) → o ≡ p
same_home None None same = refl
same_home None (Some k) same = absurd (omega (arith, same k, cond-true {A = ℕ} (eqb k k) 1 0 (eq-eqb k k refl)))
same_home (Some j) None same = absurd (omega (arith, same j, cond-true {A = ℕ} (eqb j j) 1 0 (eq-eqb j j refl)))
same_home (Some j) (Some k) same = by_test (eqb j k) refl
  where
    by_test : (b : Bool) → eqb j k ≡ b → Some j ≡ Some k
    by_test true e = ap Some (eqb-true j k e)
    by_test false e = absurd (omega (arith, same k, ap {B = ℕ} (λ b. cond b 1 0) e, cond-true {A = ℕ} (eqb k k) 1 0 (eq-eqb k k refl)))

-- one more that is none
none_more : (xs ys : List (Option ℕ)) → length xs ≡ length ys + 1 → ((n : ℕ) → home xs n ≡ home ys n) → xs ≡ ys ++ None ∷ []
none_more [] ys count same = absurd (omega (arith, count))
none_more (x ∷ []) [] count same = ap (λ o. o ∷ []) (same 0)
none_more (x ∷ z ∷ xs) [] count same = absurd (omega (arith, count))
none_more (x ∷ xs) (y ∷ ys) count same = ap₂ (λ o os. o ∷ os) (same 0) (none_more xs ys (omega (arith, count)) (λ n. same (suc n)))

-- the homes of the space to which all is copied
pub homes_copied : (all from : List (List ℕ)) (homes homes_from : List (Option ℕ)) → Stands all homes → Stands from homes_from → all ≡ from
    → length homes ≡ length homes_from + 1 → homes ≡ homes_from ++ None ∷ []
homes_copied all from homes homes_from stands stood is count =
    none_more homes homes_from count
    (λ n. same_home (home homes n) (home homes_from n)
    (λ k. sym (stands k n) ∙ ap (λ (xs : List (List ℕ)). times n (sequence xs k)) is ∙ stood k n))

-- an empty header
pub empty_at : (n k : ℕ) → sequence (replicate n []) k ≡ []
empty_at zero k = refl
empty_at (suc n) zero = refl
empty_at (suc n) (suc k) = empty_at n k
