-- Numbers as a report has them, and the bytes that they lack.
use Rattle.std.proofs.Common.{◌≡◌, ◌∙◌, ℕ, zero, suc, ◌<◌, ◌^◌, ◌==◌, ◌/◌, ◌%◌, Bool, true, false, if◌then◌else◌, List, [], ◌∷◌, ◌++◌, codes, ap, refl, arith, subst}
use Rattle.std.specs.{Fmt.decimal, Str.Parse.AllDigits, Int.IsInRange, List.slice_index}
use Rattle.std.proofs.lemmas.{Bool.Decides.nat_tests, Fmt.decimal_is_IsNumeral, Str.Parse.digit_from_value}
use Rattle.hex.specs.Hex.{encode_with, lower_digits, encode_lower}
use Rattle.wayreport.specs.{Reports.ways_text, Reports.outcomes_text, Written.lacks}
use Rattle.wayreport.proofs.Cutting.{lacks-append}

-- a byte that is not a digit
abbrev pub IsOther : ℕ → Type 0
IsOther c = IsInRange 48 57 c → ⊥

lacks-digits : (c : ℕ) → IsOther c → (ds : List ℕ) → AllDigits 10 ds → lacks c ds ≡ true
lacks-digits c other [] h = refl
lacks-digits c other (d ∷ ds) h =
    let digit : IsInRange 48 57 d = digit_from_value d h.0 in
    let rest = lacks-digits c other ds h.1 in
    (elim (d == c) as (λ b. (d == c) ≡ b → (if b then false else lacks c ds) ≡ true)
    [ true ↦ λ e. let same : d ≡ c = grind (arith, nat_tests, e) in absurd (other (subst (λ n. IsInRange 48 57 n) same digit)) | false ↦ λ e. rest ]) refl

pub lacks-decimal : (c : ℕ) → IsOther c → (n : ℕ) → n < 2 ^ 64 → lacks c (decimal n) ≡ true
lacks-decimal c other n small = lacks-digits c other (decimal n) (decimal_is_IsNumeral n small).0.1

-- the end of a word that counts one, or several
abbrev pub plural : Bool → List ℕ
plural b = if b then [] else codes "s"

pub ways_parts : (n : ℕ) → ways_text n ≡ decimal n ++ (codes " way" ++ plural (n == 1))
ways_parts n = ap (λ t. decimal n ++ t) (elim (n == 1) as (λ b. (if b then codes " way" else codes " ways") ≡ codes " way" ++ plural b) [ true ↦ refl | false ↦ refl ])

pub lacks-ways : (c : ℕ) → IsOther c → lacks c (codes " way") ≡ true → lacks c (codes " ways") ≡ true → (n : ℕ) → n < 2 ^ 64 → lacks c (ways_text n) ≡ true
lacks-ways c other one more n small = lacks-append c (decimal n) (if n == 1 then codes " way" else codes " ways") (lacks-decimal c other n small)
    (elim (n == 1) as (λ b. lacks c (if b then codes " way" else codes " ways") ≡ true) [ true ↦ one | false ↦ more ])

pub lacks-outcomes : (c : ℕ) → IsOther c → lacks c (codes " outcome") ≡ true → lacks c (codes " outcomes") ≡ true → (n : ℕ) → n < 2 ^ 64 → lacks c (outcomes_text n) ≡ true
lacks-outcomes c other one more n small = lacks-append c (decimal n) (if n == 1 then codes " outcome" else codes " outcomes") (lacks-decimal c other n small)
    (elim (n == 1) as (λ b. lacks c (if b then codes " outcome" else codes " outcomes") ≡ true) [ true ↦ one | false ↦ more ])

-- ---- a digest in hexadecimal digits

-- what is looked up in a table that lacks a byte is not that byte
at-lacks : (c : ℕ) (t : List ℕ) (n : ℕ) → 0 < c → lacks c t ≡ true → (slice_index t n == c) ≡ false
at-lacks c [] n some h = grind (arith, nat_tests)
at-lacks c (x ∷ xs) zero some h = grind (arith, nat_tests, h)
at-lacks c (x ∷ xs) (suc n) some h =
    at-lacks c xs n some ((elim (x == c) as (λ b. (if b then false else lacks c xs) ≡ true → lacks c xs ≡ true) [ true ↦ λ e. absurd cc | false ↦ λ e. e ]) h)

lacks-encode : (c : ℕ) (t : List ℕ) → 0 < c → lacks c t ≡ true → (bytes : List ℕ) → lacks c (encode_with t bytes) ≡ true
unfolding encode_with
lacks-encode c t some h [] = refl
lacks-encode c t some h (b ∷ bs) =
    ap (λ x. if x then false else lacks c (slice_index t (b % 16) ∷ encode_with t bs)) (at-lacks c t (b / 16) some h)
    ∙ (ap (λ x. if x then false else lacks c (encode_with t bs)) (at-lacks c t (b % 16) some h) ∙ lacks-encode c t some h bs)

-- an l, with which the last line begins, is nowhere in a digest
pub lacks-hex : (bytes : List ℕ) → lacks 108 (encode_lower bytes) ≡ true
lacks-hex bytes = lacks-encode 108 lower_digits (omega arith) refl bytes

pub feed_other : IsOther 10
feed_other h = omega (arith, h.0)

pub space_other : IsOther 32
space_other h = omega (arith, h.0)

pub comma_other : IsOther 44
comma_other h = omega (arith, h.0)

pub colon_other : IsOther 58
colon_other h = omega (arith, h.1)
