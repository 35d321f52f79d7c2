-- Sequences that are kept by a key, as Exec keeps its lists by priority: what an arrival does, which item is chosen,
-- and the laws that tie the two. The key of an item is any integer.
use Rattle.std.specs.Prelude.{◌≡◌, ◌≢◌, ℕ, ℤ, ◌≤ℤ◌, ◌<ℤ◌, ◌<◌, ◌==◌, List, [], ◌∷◌, ◌++◌, length, Option, Some, None, Bool, not, if◌then◌else◌, fold, filter, int_lt, slice_index_or, MatchOption, All, find}

-- y has a lower key than x
abbrev pub is_lower : {A : Type 0} → (A → ℤ) → A → A → Bool
is_lower key y x = int_lt (key y) (key x)

-- x put before the first item of lower key, or last if there is none (autodoc exec.library/Enqueue)
abbrev pub enqueue : {A : Type 0} → (A → ℤ) → List A → A → List A
enqueue key [] x = x ∷ []
enqueue key (y ∷ ys) x = if is_lower key y x then x ∷ y ∷ ys else y ∷ enqueue key ys x

-- what `enqueue` makes of the items of a list, one after another, from the empty sequence
unfoldable pub order : {A : Type 0} → (A → ℤ) → List A → List A
order key xs = fold (enqueue key) [] xs

-- the first item, if there is one
abbrev pub first : {A : Type 0} → List A → Option A
first [] = None
first (x ∷ xs) = Some x

-- the sequence with item n left out
abbrev pub without_item : ℕ → List ℕ → List ℕ
without_item n xs = filter (λ x. not (x == n)) xs

-- x, unless the item that is chosen from those after it has a greater key
abbrev pub chosen_or : {A : Type 0} → (A → ℤ) → A → Option A → Option A
chosen_or key x None = Some x
chosen_or key x (Some y) = if is_lower key x y then Some y else Some x

-- the earliest among the items of greatest key, if there are items (RKM Libraries, Exec Tasks: scheduling)
abbrev pub chosen : {A : Type 0} → (A → ℤ) → List A → Option A
chosen key [] = None
chosen key (x ∷ xs) = chosen_or key x (chosen key xs)

-- x is at a place of the list; no item has a greater key, and those before that place have lower ones
pub record IsEarliestGreatest {A : Type 0} (key : A → ℤ) (xs : List A) (x : A) : Type 0 where
  pub place : ℕ
  pub within : place < length xs
  pub there : (d : A) → slice_index_or xs place d ≡ x
  pub greatest : (k : ℕ) (d : A) → k < length xs → key (slice_index_or xs k d) ≤ℤ key x
  pub earliest : (k : ℕ) (d : A) → k < place → key (slice_index_or xs k d) <ℤ key x

-- an arrival is one more `enqueue`
abbrev pub OrderTakesArrival : Type 0 → Type 0
OrderTakesArrival A = (key : A → ℤ) (xs : List A) (x : A) → order key (xs ++ x ∷ []) ≡ enqueue key (order key xs) x

-- leaving items out and putting in order may be done one before the other
abbrev pub OrderLeavesOut : Type 0 → Type 0
OrderLeavesOut A = (key : A → ℤ) (keep : A → Bool) (xs : List A) → order key (filter keep xs) ≡ filter keep (order key xs)

-- the first of the order is the chosen one
abbrev pub FirstOfOrderIsChosen : Type 0 → Type 0
FirstOfOrderIsChosen A = (key : A → ℤ) (xs : List A) → first (order key xs) ≡ chosen key xs

-- none is chosen from an empty list, and else the earliest of greatest key
abbrev pub ChosenIsEarliestGreatest : Type 0 → Type 0
ChosenIsEarliestGreatest A = (key : A → ℤ) (xs : List A) → MatchOption (chosen key xs) (xs ≡ []) (IsEarliestGreatest key xs)

-- the order rests on the keys of the items alone
abbrev pub OrderReadsMembersKeys : Type 0 → Type 0
OrderReadsMembersKeys A = (key other : A → ℤ) (xs : List A) → All (λ x. other x ≡ key x) xs → order other xs ≡ order key xs

-- the first of the order that passes a test is the chosen one of those that pass it
abbrev pub FoundInOrderIsChosen : Type 0 → Type 0
FoundInOrderIsChosen A = (key : A → ℤ) (wanted : A → Bool) (xs : List A) → find wanted (order key xs) ≡ chosen key (filter wanted xs)

-- an item that leaves, gets another key and arrives anew is put among the others by its new key
abbrev pub OrderRekeyed : Type 0
OrderRekeyed = (key other : ℕ → ℤ) (n : ℕ) (xs : List ℕ) → ((m : ℕ) → m ≢ n → other m ≡ key m) → order other (without_item n xs ++ n ∷ []) ≡ enqueue other (without_item n (order key xs)) n
