-- Lists of numbers in the order of a dictionary.
use Rattle.std.specs.Prelude.{◌<◌, ℕ, List, [], ◌∷◌}

-- a list of numbers is before another: at the first place at which they differ it has the smaller number
pub data IsBefore : List ℕ → List ℕ → Type 0 where
  here : (x y : ℕ) (xs ys : List ℕ) → x < y → IsBefore (x ∷ xs) (y ∷ ys)
  later : (x : ℕ) (xs ys : List ℕ) → IsBefore xs ys → IsBefore (x ∷ xs) (x ∷ ys)

-- a list is before each of some lists
abbrev pub IsBeforeAll : List ℕ → List (List ℕ) → Type 0
IsBeforeAll xs [] = Unit {0}
IsBeforeAll xs (ys ∷ others) = IsBefore xs ys × IsBeforeAll xs others

-- each of some lists is before all after it
abbrev pub AreInOrder : List (List ℕ) → Type 0
AreInOrder [] = Unit {0}
AreInOrder (xs ∷ others) = IsBeforeAll xs others × AreInOrder others
