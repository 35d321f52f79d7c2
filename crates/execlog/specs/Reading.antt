-- What a reader gets of a row that is cut at its spaces.
use Rattle.std.specs.Prelude.{◌≡◌, ℕ, zero, suc, ◌/◌, ◌<◌, ◌^◌, if◌then◌else◌, nat_eq, decimal, List, [], ◌∷◌, ◌++◌, Option, IfSome}
use Rattle.execlog.specs.{Rows.digit, Rows.row_with, declared.moment.Moment.Moment}

-- the bytes after the spaces with which they begin
abbrev pub unspaced : List ℕ → List ℕ
unspaced [] = []
unspaced (c ∷ rest) = if nat_eq c 32 then unspaced rest else c ∷ rest

-- the bytes before the first space
abbrev pub word : List ℕ → List ℕ
word [] = []
word (c ∷ rest) = if nat_eq c 32 then [] else c ∷ word rest

-- the bytes from the first space on
abbrev pub after_word : List ℕ → List ℕ
after_word [] = []
after_word (c ∷ rest) = if nat_eq c 32 then c ∷ rest else after_word rest

-- the word of a number, from 0, of bytes that are cut at their spaces
abbrev pub word_at : ℕ → List ℕ → List ℕ
word_at zero bytes = word (unspaced bytes)
word_at (suc n) bytes = word_at n (after_word (unspaced bytes))

-- The first two words of a row are its number and its time, and the third is the line of its command, if that is known.
pub record IsReadBack (m : Moment) (line : Option ℕ) (row : List ℕ) : Type 0 where
  pub number : word_at 0 row ≡ decimal m.number
  pub time : word_at 1 row ≡ decimal (m.clock / 1000) ++ 46 ∷ digit (m.clock / 100) ∷ digit (m.clock / 10) ∷ digit m.clock ∷ []
  pub place : IfSome line (λ l. l < 2 ^ 64 → word_at 2 row ≡ 58 ∷ decimal l)

-- rows are cut at their spaces, however wide their numbers are
abbrev pub RowsAreCutAtSpaces : Type 0
RowsAreCutAtSpaces =
    (m : Moment) (line : Option ℕ) (text source : List ℕ) → m.number < 2 ^ 64 → m.clock < 2 ^ 64 → IsReadBack m line (row_with m line text source)
