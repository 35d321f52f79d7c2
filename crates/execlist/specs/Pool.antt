-- How a pool represents its items: for each number the item that it holds, none if the number is free.
use Rattle.std.specs.Prelude.{◌≡◌, ℕ, suc, ◌+◌, ◌-◌, ◌<◌, ◌≤◌, nat_lt, IfSome, Bool, ◌&&◌, not, is_some, if◌then◌else◌, List, [], ◌∷◌, ◌++◌, length, replicate, slice_set, take, drop, Option, Some, None, slice_index_or}
use Rattle.std.specs.List.{range_with_len}
use Rattle.execlist.specs.Lists.{last, times}

-- the item of each number, and the free numbers, of which the last is given next
pub record Pooled (A : Type 0) : Type 0 where
  pub slots : List (Option A)
  pub free : List ℕ

-- the item of number n, none if the number is free or there is no such number
abbrev pub slot : {A : Type 0} → List (Option A) → ℕ → Option A
slot slots n = slice_index_or slots n None

-- how many numbers hold an item
abbrev pub taken : {A : Type 0} → List (Option A) → ℕ
taken [] = 0
taken (None ∷ slots) = taken slots
taken (Some a ∷ slots) = suc (taken slots)

-- number n is there, and holds no item
abbrev pub is_free : {A : Type 0} → List (Option A) → ℕ → Bool
is_free slots n = nat_lt n (length slots) && not (is_some (slot slots n))

-- the list holds each free number once and no other, and has room for all numbers
pub record IsPool {A : Type 0} (slots : List (Option A)) (free : List ℕ) (capacity : ℕ) : Type 0 where
  pub counted : length free + taken slots ≡ length slots
  pub stands : (n : ℕ) → times n free ≡ (if is_free slots n then 1 else 0)
  pub room : length slots ≤ capacity

-- the lowest places of the stack, that many, are as they were in a new pool
pub record IsFresh (low : ℕ) (free : List ℕ) : Type 0 where
  pub inside : low ≤ length free
  pub rising : take low free ≡ range_with_len 0 low

-- that many numbers, all of them free
abbrev pub all_free : {A : Type 0} → ℕ → Pooled A
all_free count = record { slots = replicate count None; free = range_with_len 0 count }

-- the number that is given next
abbrev pub next_number : {A : Type 0} → Pooled A → Option ℕ
next_number pool = last pool.free

-- the number that is next is there, and holds no item; if none is next, each number holds one
pub record IsStocked {A : Type 0} (pool : Pooled A) : Type 0 where
  pub full : next_number pool ≡ None → taken pool.slots ≡ length pool.slots
  pub free : IfSome (next_number pool) (λ n. slot pool.slots n ≡ None)
  pub known : IfSome (next_number pool) (λ n. n < length pool.slots)

-- the next number, if there is one, holds the item
abbrev pub given_at : {A : Type 0} → Option ℕ → A → Pooled A → Pooled A
given_at None item pool = pool
given_at (Some n) item pool = record { slots = slice_set pool.slots n (Some item); free = take (length pool.free - 1) pool.free }

abbrev pub given : {A : Type 0} → A → Pooled A → Pooled A
given item pool = given_at (next_number pool) item pool

-- number n is free again
abbrev pub released : {A : Type 0} → ℕ → Pooled A → Pooled A
released n pool = record { slots = slice_set pool.slots n None; free = pool.free ++ n ∷ [] }

-- number n holds another item
abbrev pub written : {A : Type 0} → ℕ → A → Pooled A → Pooled A
written n item pool = record { slots = slice_set pool.slots n (Some item); free = pool.free }

-- the numbers below count are free, in the order of a new pool, and the others hold what they held
abbrev pub free_below : {A : Type 0} → ℕ → Pooled A → Pooled A
free_below count pool = record { slots = replicate count None ++ drop count pool.slots; free = range_with_len 0 count }
