-- Rows are cut at their spaces.
use Rattle.std.specs.Prelude.{⊤}
use Rattle.std.proofs.Common.{◌≡◌, ℕ, zero, suc, ◌+◌, ◌-◌, ◌/◌, ◌%◌, ◌<◌, ◌^◌, Bool, false, List, [], ◌∷◌, ◌++◌, Option, None, Some, length, map, replicate, refl, ap, sym, ◌∙◌, subst, append_assoc, arith, codes, decimal, eqb, length-append}
use Rattle.std.specs.Int.Digits.{digits_of}
use Rattle.std.proofs.lemmas.{Bool.ne_eqb, Fmt.decimal-digits_of, Fmt.decimal_digit, Fmt.decimal_nonempty}
use Rattle.execlog.proofs.Laying.{row_parts}
use Rattle.execlog.specs.Reading.{IsReadBack, RowsAreCutAtSpaces, after_word, unspaced, word, word_at}
use Rattle.execlog.specs.{Rows.digit, Rows.line_column, Rows.millis, Rows.padded, Rows.row_with, Rows.source_column, Rows.time_columns, declared.moment.Moment.Moment}

-- ---- words

-- the bytes have no space
abbrev IsWord : List ℕ → Type 0
IsWord [] = ⊤
IsWord (c ∷ rest) = (eqb c 32 ≡ false) × IsWord rest

word_join : (a b : List ℕ) → IsWord a → IsWord b → IsWord (a ++ b)
word_join [] b p q = q
word_join (c ∷ a) b p q = (p.0, word_join a b p.1 q)

-- a digit is not a space
no_space : (d : ℕ) → eqb (48 + d) 32 ≡ false
no_space d = ne_eqb (48 + d) 32 (λ e. omega (arith, e))

word_digits : (ds : List ℕ) → IsWord (map (λ d. 48 + d) ds)
word_digits [] = tt
word_digits (d ∷ ds) = (no_space d, word_digits ds)

word_decimal : (n : ℕ) → n < 2 ^ 64 → IsWord (decimal n)
word_decimal zero small = subst IsWord (sym (decimal_digit zero (omega arith))) (no_space zero, tt)
word_decimal (suc n) small = subst IsWord (sym (decimal-digits_of (suc n) (omega arith) small)) (word_digits (digits_of 10 (suc n)))

-- ---- cutting

unspaced_spaces : (n : ℕ) (rest : List ℕ) → unspaced (replicate {A = ℕ} n 32 ++ rest) ≡ unspaced rest
unspaced_spaces zero rest = refl
unspaced_spaces (suc n) rest = unspaced_spaces n rest

unspaced_word : (w rest : List ℕ) → 0 < length w → IsWord w → unspaced (w ++ rest) ≡ w ++ rest
unspaced_word [] rest some is = absurd (omega (arith, some))
unspaced_word (c ∷ w) rest some is = rw (is.0) refl

word_is : (w rest : List ℕ) → IsWord w → word (w ++ 32 ∷ rest) ≡ w
word_is [] rest is = refl
word_is (c ∷ w) rest is = rw (is.0) (ap (λ (l : List ℕ). c ∷ l) (word_is w rest is.1))

after_is : (w rest : List ℕ) → IsWord w → after_word (w ++ 32 ∷ rest) ≡ 32 ∷ rest
after_is [] rest is = refl
after_is (c ∷ w) rest is = rw (is.0) (after_is w rest is.1)

-- The bytes begin with spaces, or none, a word, and a space.
record BeginsWith (w rest bytes : List ℕ) : Type 0 where
  first : word (unspaced bytes) ≡ w
  then : after_word (unspaced bytes) ≡ 32 ∷ rest

begins_with : (k : ℕ) (w rest bytes : List ℕ) → 0 < length w → IsWord w → bytes ≡ replicate {A = ℕ} k 32 ++ (w ++ 32 ∷ rest) → BeginsWith w rest bytes
begins_with k w rest bytes some is whole =
    let e : unspaced bytes ≡ w ++ 32 ∷ rest = ap unspaced whole ∙ unspaced_spaces k (w ++ 32 ∷ rest) ∙ unspaced_word w (32 ∷ rest) some is in
    record { first = ap word e ∙ word_is w rest is; then = ap after_word e ∙ after_is w rest is }

-- the word after another
next_word : {w rest bytes : List ℕ} (n : ℕ) → BeginsWith w rest bytes → word_at (suc n) bytes ≡ word_at n rest
next_word zero begins = ap (λ (l : List ℕ). word (unspaced l)) begins.then
next_word (suc n) begins = ap (λ (l : List ℕ). word_at n (after_word (unspaced l))) begins.then

-- ---- a row

-- a word at the right of a column
at_right : (width : ℕ) (w rest : List ℕ) → padded width w ++ rest ≡ replicate {A = ℕ} (width - length w) 32 ++ (w ++ rest)
at_right width w rest = append_assoc (replicate {A = ℕ} (width - length w) 32) w rest

-- the three places after the point of a time
abbrev places : ℕ → List ℕ
places micros = 46 ∷ digit (micros / 100) ∷ digit (micros / 10) ∷ digit micros ∷ []

places_word : (micros : ℕ) → IsWord (places micros)
places_word micros = (refl, (no_space (micros / 100 % 10), (no_space (micros / 10 % 10), (no_space (micros % 10), tt))))

-- what is after the first space after a time
rest_of : Option ℕ → List ℕ → List ℕ
rest_of None said = (replicate {A = ℕ} 5 32 ++ codes "  ") ++ said
rest_of (Some line) said = ((replicate {A = ℕ} (4 - length (decimal line)) 32 ++ 58 ∷ decimal line) ++ codes "  ") ++ said

line_begins : (line : Option ℕ) (said : List ℕ) → (line_column line ++ codes "  ") ++ said ≡ 32 ∷ rest_of line said
unfolding rest_of
line_begins None said = refl
line_begins (Some line) said = refl

module _ (m : Moment) (line : Option ℕ) (text source : List ℕ) where
  said : List ℕ
  said = text ++ (source_column (length text) source ++ 10 ∷ [])

  time_word : List ℕ
  time_word = decimal (m.clock / 1000) ++ places m.clock

  after_number : List ℕ
  after_number = (padded 4 (decimal (m.clock / 1000)) ++ places m.clock) ++ ((line_column line ++ codes "  ") ++ said)

  row_whole : row_with m line text source ≡ padded 5 (decimal m.number) ++ 32 ∷ after_number
  unfolding said after_number
  row_whole =
      let q : List ℕ = (line_column line ++ codes "  ") ++ said in
      sym (row_parts (time_columns m) (line_column line) (codes "  ") text (source_column (length text) source) (10 ∷ []))
      ∙ append_assoc (padded 5 (decimal m.number)) (millis m.clock) q

  number_begins : m.number < 2 ^ 64 → BeginsWith (decimal m.number) after_number (row_with m line text source)
  number_begins small =
      begins_with (5 - length (decimal m.number)) (decimal m.number) after_number (row_with m line text source) (decimal_nonempty m.number small)
      (word_decimal m.number small) (row_whole ∙ at_right 5 (decimal m.number) (32 ∷ after_number))

  time_whole : after_number ≡ padded 4 (decimal (m.clock / 1000)) ++ (places m.clock ++ 32 ∷ rest_of line said)
  unfolding after_number
  time_whole =
      append_assoc (padded 4 (decimal (m.clock / 1000))) (places m.clock) ((line_column line ++ codes "  ") ++ said)
      ∙ ap (λ (l : List ℕ). padded 4 (decimal (m.clock / 1000)) ++ (places m.clock ++ l)) (line_begins line said)

  time_begins : m.clock < 2 ^ 64 → BeginsWith time_word (rest_of line said) after_number
  unfolding time_word
  time_begins small =
      let d : List ℕ = decimal (m.clock / 1000) in
      let less : m.clock / 1000 < 2 ^ 64 = omega (arith, small) in
      let rest : List ℕ = 32 ∷ rest_of line said in
      begins_with (4 - length d) (d ++ places m.clock) (rest_of line said) after_number (omega (arith, length-append d (places m.clock)))
      (word_join d (places m.clock) (word_decimal (m.clock / 1000) less) (places_word m.clock))
      (time_whole ∙ at_right 4 d (places m.clock ++ rest) ∙ ap (λ (l : List ℕ). replicate {A = ℕ} (4 - length d) 32 ++ l) (sym (append_assoc d (places m.clock) rest)))

line_word : (line : ℕ) (said : List ℕ) → line < 2 ^ 64 → word_at 0 (rest_of (Some line) said) ≡ 58 ∷ decimal line
unfolding rest_of
line_word line said small =
    let d : List ℕ = 58 ∷ decimal line in
    let spaces : List ℕ = replicate {A = ℕ} (4 - length (decimal line)) 32 in
    let begins : BeginsWith d (32 ∷ said) (rest_of (Some line) said) =
    begins_with (4 - length (decimal line)) d (32 ∷ said) (rest_of (Some line) said) (omega arith) (refl, word_decimal line small)
    (append_assoc (spaces ++ d) (codes "  ") said ∙ append_assoc spaces d (codes "  " ++ said)) in
    begins.first

line_read : (m : Moment) (text source : List ℕ) (line : ℕ) → m.number < 2 ^ 64 → m.clock < 2 ^ 64 → line < 2 ^ 64
    → word_at 2 (row_with m (Some line) text source) ≡ 58 ∷ decimal line
line_read m text source line small less few =
    next_word 1 (number_begins m (Some line) text source small)
    ∙ next_word 0 (time_begins m (Some line) text source less)
    ∙ line_word line (said m (Some line) text source) few

pub rows_are_cut_at_spaces : RowsAreCutAtSpaces
unfolding time_word
rows_are_cut_at_spaces m None text source small less = record {
  number = (number_begins m None text source small).first;
  time = next_word 0 (number_begins m None text source small) ∙ (time_begins m None text source less).first;
  place = tt;
}
rows_are_cut_at_spaces m (Some line) text source small less = record {
  number = (number_begins m (Some line) text source small).first;
  time = next_word 0 (number_begins m (Some line) text source small) ∙ (time_begins m (Some line) text source less).first;
  place = line_read m text source line small less;
}
