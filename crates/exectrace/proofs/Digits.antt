-- The digits of a printed value write that value.
use Rattle.std.proofs.Common.{◌≡◌, ℕ, Bool, true, ◌+◌, ◌*◌, ◌/◌, ◌%◌, ◌^◌, ◌<◌, List, [], ◌∷◌, refl, sym, ap, subst, ◌∙◌, zero-add, arith, drop, eqb-true, ◌==◌, codes, slice_index_or, div-one}
use Rattle.std.specs.{Char.digit_value, List.range_with_len, Str.Parse.digits_value}
use Rattle.std.proofs.lemmas.{List.FromFn.get_or-range_with_len, List.Sums.AllPass-from_list_all}
use Rattle.std.proofs.Math.Nat.{div-add-mod, div-div-eq-div-mul, div-eq_of_lt}
use Rattle.exectrace.specs.Trace.{digit_at, hex_digit, value_text}

-- whether the digit for a number represents that number
reads_back : ℕ → Bool
reads_back n = digit_value (hex_digit n) == n

-- the sixteen digits, tried one by one
digit_value-hex_digit : (n : ℕ) → n < 16 → digit_value (hex_digit n) ≡ n
unfolding reads_back
digit_value-hex_digit n below =
    let each = AllPass-from_list_all reads_back (range_with_len 0 16) refl in
    eqb-true _ _ (subst (λ m. reads_back m ≡ true) (get_or-range_with_len 0 16 n 0 below ∙ zero-add n) (each n 0 below))

-- one digit more: from the number above the digit of q to that of p
digit_step : (n p q above : ℕ) → q ≡ p * 16 → above ≡ n / q → above * 16 + digit_value (hex_digit (n / p % 16)) ≡ n / p
digit_step n p q above next is =
    let small : n / p % 16 < 16 = omega arith in
    let digit = digit_value-hex_digit (n / p % 16) small in
    let whole = div-add-mod (n / p) 16 in
    let quotient : n / p / 16 ≡ above = div-div-eq-div-mul n p 16 ∙ ap (λ m. n / m) (sym next) ∙ sym is in
    ap (λ d. above * 16 + d) digit ∙ omega (arith, whole, quotient)

-- the eight digits
pub digits_value-value_text : (n : ℕ) → n < 2 ^ 32 → digits_value 16 (drop 1 (value_text n)) ≡ n
digits_value-value_text n below =
    let none : 0 ≡ n / 16 ^ 8 = sym (div-eq_of_lt below) in
    let one = digit_step n (16 ^ 7) (16 ^ 8) _ refl none in
    let two = digit_step n (16 ^ 6) (16 ^ 7) _ refl one in
    let three = digit_step n (16 ^ 5) (16 ^ 6) _ refl two in
    let four = digit_step n (16 ^ 4) (16 ^ 5) _ refl three in
    let five = digit_step n (16 ^ 3) (16 ^ 4) _ refl four in
    let six = digit_step n (16 ^ 2) (16 ^ 3) _ refl five in
    let seven = digit_step n (16 ^ 1) (16 ^ 2) _ refl six in
    digit_step n (16 ^ 0) (16 ^ 1) _ refl seven ∙ div-one n

-- The digits of a byte in a table.

-- the two digits of each number below 256
abbrev pub pairs : List ℕ
pairs = codes "000102030405060708090A0B0C0D0E0F101112131415161718191A1B1C1D1E1F202122232425262728292A2B2C2D2E2F303132333435363738393A3B3C3D3E3F404142434445464748494A4B4C4D4E4F505152535455565758595A5B5C5D5E5F606162636465666768696A6B6C6D6E6F707172737475767778797A7B7C7D7E7F808182838485868788898A8B8C8D8E8F909192939495969798999A9B9C9D9E9FA0A1A2A3A4A5A6A7A8A9AAABACADAEAFB0B1B2B3B4B5B6B7B8B9BABBBCBDBEBFC0C1C2C3C4C5C6C7C8C9CACBCCCDCECFD0D1D2D3D4D5D6D7D8D9DADBDCDDDEDFE0E1E2E3E4E5E6E7E8E9EAEBECEDEEEFF0F1F2F3F4F5F6F7F8F9FAFBFCFDFEFF"

-- whether the table has the digits of a number
has_high : ℕ → Bool
has_high n = slice_index_or pairs (2 * n) 0 == hex_digit (n / 16)

has_low : ℕ → Bool
has_low n = slice_index_or pairs (2 * n + 1) 0 == hex_digit (n % 16)

-- the 256 pairs, tried one by one
pub high_of_pair : (n : ℕ) → n < 256 → slice_index_or pairs (2 * n) 0 ≡ hex_digit (n / 16)
unfolding has_high
high_of_pair n below =
    let each = AllPass-from_list_all has_high (range_with_len 0 256) refl in
    eqb-true _ _ (subst (λ m. has_high m ≡ true) (get_or-range_with_len 0 256 n 0 below ∙ zero-add n) (each n 0 below))

pub low_of_pair : (n : ℕ) → n < 256 → slice_index_or pairs (2 * n + 1) 0 ≡ hex_digit (n % 16)
unfolding has_low
low_of_pair n below =
    let each = AllPass-from_list_all has_low (range_with_len 0 256) refl in
    eqb-true _ _ (subst (λ m. has_low m ≡ true) (get_or-range_with_len 0 256 n 0 below ∙ zero-add n) (each n 0 below))

-- a byte of a number in halves
high_half : (q : ℕ) → q % 256 / 16 ≡ q / 16 % 16
high_half q = omega arith

low_half : (q : ℕ) → q % 256 % 16 ≡ q % 16
low_half q = omega arith

high_at : (n p : ℕ) → n / p % 256 / 16 ≡ n / (p * 16) % 16
high_at n p = high_half (n / p) ∙ ap (λ m. m % 16) (div-div-eq-div-mul n p 16)

abbrev text : ℕ → ℕ → ℕ → ℕ → ℕ → ℕ → ℕ → ℕ → List ℕ
text a b c d e f g h = 36 ∷ a ∷ b ∷ c ∷ d ∷ e ∷ f ∷ g ∷ h ∷ []

-- the digits of four bytes are those of their number
pub value_of_pairs : (n a b c d e f g h : ℕ) → n < 2 ^ 32 → a ≡ hex_digit (n / 0x1000000 / 16) → b ≡ hex_digit (n / 0x1000000 % 16)
    → c ≡ hex_digit (n / 0x10000 % 256 / 16) → d ≡ hex_digit (n / 0x10000 % 256 % 16) → e ≡ hex_digit (n / 0x100 % 256 / 16)
    → f ≡ hex_digit (n / 0x100 % 256 % 16) → g ≡ hex_digit (n % 256 / 16) → h ≡ hex_digit (n % 256 % 16) → text a b c d e f g h ≡ value_text n
value_of_pairs n a b c d e f g h below pa pb pc pd pe pf pg ph =
    let at : ℕ → ℕ = digit_at n in
    let first : n / 0x1000000 / 16 ≡ n / 16 ^ 7 % 16 = omega (arith, below) in
    ap (λ x. text x b c d e f g h) (pa ∙ ap hex_digit first)
    ∙ ap (λ x. text (at 7) x c d e f g h) pb
    ∙ ap (λ x. text (at 7) (at 6) x d e f g h) (pc ∙ ap hex_digit (high_at n 0x10000))
    ∙ ap (λ x. text (at 7) (at 6) (at 5) x e f g h) (pd ∙ ap hex_digit (low_half (n / 0x10000)))
    ∙ ap (λ x. text (at 7) (at 6) (at 5) (at 4) x f g h) (pe ∙ ap hex_digit (high_at n 0x100))
    ∙ ap (λ x. text (at 7) (at 6) (at 5) (at 4) (at 3) x g h) (pf ∙ ap hex_digit (low_half (n / 0x100)))
    ∙ ap (λ x. text (at 7) (at 6) (at 5) (at 4) (at 3) (at 2) x h) (pg ∙ ap hex_digit (high_half n))
    ∙ ap (λ x. text (at 7) (at 6) (at 5) (at 4) (at 3) (at 2) (at 1) x) (ph ∙ ap hex_digit (low_half n ∙ ap (λ m. m % 16) (sym (div-one n))))
