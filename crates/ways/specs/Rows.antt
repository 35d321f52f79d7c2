-- The numbers of ways, row by row: a row for each number of extras.
use Rattle.std.specs.Prelude.{◌≡◌, ℕ, ◌+◌, ◌*◌, ◌<◌, List, length, get_or, Option, None, Some}
use Rattle.ways.specs.Ways.{count}

-- the numbers for that many extras among 0, 1, 2 .. actions
abbrev pub IsRow : ℕ → ℕ → List ℕ → Type 0
IsRow kinds extras row = (n : ℕ) → n < length row → get_or row n 0 ≡ count kinds extras n

-- that many rows of this width, one after the other
abbrev pub AreRows : ℕ → ℕ → ℕ → List ℕ → Type 0
AreRows kinds width rows numbers = (j n : ℕ) → j < rows → n < width → get_or numbers (j * width + n) 0 ≡ count kinds j n

-- a number below `above` and after `before`
abbrev pub number_of : ℕ → ℕ → Option ℕ → ℕ
number_of kinds above None = kinds * above
number_of kinds above (Some before) = kinds * above + before
