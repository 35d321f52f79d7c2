-- What is seen of some ways: an entry for each different text, by first sight.
use Rattle.std.specs.Prelude.{Bool, Option, None, Some, ℕ, ◌+◌, List, [], ◌∷◌, bytes_eq, if◌then◌else◌, fold}

-- a text that was seen, how many ways show it, and the first of them
pub record Entry (W : Type 0) : Type 0 where
  pub seen : List ℕ
  pub count : ℕ
  pub first : W

-- the table after one way more
abbrev pub noted : {W : Type 0} → List (Entry W) → List ℕ → W → List (Entry W)
noted [] text way = record { seen = text; count = 1; first = way } ∷ []
noted (e ∷ es) text way = if bytes_eq e.seen text then record { seen = e.seen; count = e.count + 1; first = e.first } ∷ es else e ∷ noted es text way

-- the table of some ways, by what is seen of each
abbrev pub table_of : {W : Type 0} → (W → List ℕ) → List (Entry W) → List W → List (Entry W)
table_of seen table ways = fold (λ t way. noted t (seen way) way) table ways

-- how many ways a table counts
abbrev pub total : {W : Type 0} → List (Entry W) → ℕ
total [] = 0
total (e ∷ es) = e.count + total es

-- the table with an entry of another table, which represents later ways
abbrev pub added : {W : Type 0} → List (Entry W) → Entry W → List (Entry W)
added [] e = e ∷ []
added (x ∷ xs) e = if bytes_eq x.seen e.seen then record { seen = x.seen; count = x.count + e.count; first = x.first } ∷ xs else x ∷ added xs e

-- two tables, that of the earlier ways first
abbrev pub merged : {W : Type 0} → List (Entry W) → List (Entry W) → List (Entry W)
merged t u = fold added t u

-- how many ways show a text, by the table
abbrev pub count_in : {W : Type 0} → List (Entry W) → List ℕ → ℕ
count_in [] text = 0
count_in (e ∷ es) text = if bytes_eq e.seen text then e.count else count_in es text

-- the first way that shows a text, by the table
abbrev pub first_in : {W : Type 0} → List (Entry W) → List ℕ → Option W
first_in [] text = None
first_in (e ∷ es) text = if bytes_eq e.seen text then Some e.first else first_in es text

-- 1, if it is so
abbrev pub one_if : Bool → ℕ
one_if is_so = if is_so then 1 else 0

-- the number of ways of which it is so
abbrev pub number_where : {W : Type 0} → (W → Bool) → List W → ℕ
number_where is_so [] = 0
number_where is_so (w ∷ ws) = one_if (is_so w) + number_where is_so ws

-- how many of some ways show a text
abbrev pub showing : {W : Type 0} → (W → List ℕ) → List ℕ → List W → ℕ
showing seen text [] = 0
showing seen text (w ∷ ws) = (if bytes_eq (seen w) text then 1 else 0) + showing seen text ws

-- the first of some ways that shows a text
abbrev pub first_showing : {W : Type 0} → (W → List ℕ) → List ℕ → List W → Option W
first_showing seen text [] = None
first_showing seen text (w ∷ ws) = if bytes_eq (seen w) text then Some w else first_showing seen text ws
