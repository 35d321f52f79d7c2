-- The bytes of numbers report the numbers.
use Rattle.std.proofs.Common.{◌≡◌, ◌∙◌, ◌<◌, ◌≤◌, ◌+◌, ◌-◌, ◌/◌, ◌%◌, ℕ, zero, suc, Bool, true, false, List, [], ◌∷◌, ◌++◌, refl, sym, ap, ap₂, arith, nat_lt, if◌then◌else◌}
use Rattle.std.proofs.lemmas.Bool.Decides.{nat_tests}
use Rattle.statekeys.specs.Keys.{bytes_in, key_bytes}

head_of : {x y : ℕ} {xs ys : List ℕ} → x ∷ xs ≡ y ∷ ys → x ≡ y
head_of {x} {y} {xs} {ys} e = cc

tail_of : {x y : ℕ} {xs ys : List ℕ} → x ∷ xs ≡ y ∷ ys → xs ≡ ys
tail_of {x} {y} {xs} {ys} e = cc

under : (n : ℕ) → nat_lt n 128 ≡ true → n < 128
under n e = grind (arith, nat_tests)

whole : (n k : ℕ) → n / 128 ≡ k / 128 → n % 128 ≡ k % 128 → n ≡ k
whole n k quotient rest = omega (arith, quotient, rest)

-- a byte that is the last of a number is none before it
never : {A : Type 0} (n k : ℕ) → n < 128 → n ≡ 128 + k % 128 → A
never n k less e = let bad : 0 < 0 = omega (arith, less, e) in absurd (omega (arith, bad))

bytes_same : (more n k : ℕ) (r q : List ℕ) → bytes_in more n ++ r ≡ bytes_in more k ++ q → (n ≡ k) × (r ≡ q)
bytes_same zero n k r q e = (head_of e, tail_of e)
bytes_same (suc more) n k r q e = by_tests (bytes_same more (n / 128) (k / 128) r q) (nat_lt n 128) (nat_lt k 128) refl refl e
  where
    by_tests : (bytes_in more (n / 128) ++ r ≡ bytes_in more (k / 128) ++ q → (n / 128 ≡ k / 128) × (r ≡ q))
        → (a b : Bool) → nat_lt n 128 ≡ a → nat_lt k 128 ≡ b
        → (if a then n ∷ [] else (128 + n % 128) ∷ bytes_in more (n / 128)) ++ r ≡ (if b then k ∷ [] else (128 + k % 128) ∷ bytes_in more (k / 128)) ++ q
        → (n ≡ k) × (r ≡ q)
    by_tests others true true one other e = (head_of e, tail_of e)
    by_tests others true false one other e = never n k (under n one) (head_of e)
    by_tests others false true one other e = never k n (under k other) (sym (head_of e))
    by_tests others false false one other e =
        let low : 128 + n % 128 ≡ 128 + k % 128 = head_of e in
        let rest = others (tail_of e) in
        (whole n k rest.0 (omega (arith, low)), rest.1)

no_bytes : {A : Type 0} (more n : ℕ) (r : List ℕ) → bytes_in more n ++ r ≡ [] → A
no_bytes zero n r e = absurd cc
no_bytes {A} (suc more) n r e = by_test (nat_lt n 128) e
  where
    by_test : (a : Bool) → (if a then n ∷ [] else (128 + n % 128) ∷ bytes_in more (n / 128)) ++ r ≡ [] → A
    by_test true e = absurd cc
    by_test false e = absurd cc

pub bytes_tell : (xs ys : List ℕ) → key_bytes xs ≡ key_bytes ys → xs ≡ ys
bytes_tell [] [] e = refl
bytes_tell [] (y ∷ ys) e = no_bytes 9 y (key_bytes ys) (sym e)
bytes_tell (x ∷ xs) [] e = no_bytes 9 x (key_bytes xs) e
bytes_tell (x ∷ xs) (y ∷ ys) e =
    let here = bytes_same 9 x y (key_bytes xs) (key_bytes ys) e in
    ap₂ (λ (n : ℕ) (l : List ℕ). n ∷ l) here.0 (bytes_tell xs ys here.1)

-- ---- one byte after another

below : (n : ℕ) → n < 128 → nat_lt n 128 ≡ true
below n less = grind (arith, nat_tests)

above : (n : ℕ) → 128 ≤ n → nat_lt n 128 ≡ false
above n most = grind (arith, nat_tests)

-- the last byte
pub short : (i n : ℕ) → i < 9 → n < 128 → bytes_in (9 - i) n ≡ n ∷ []
short i n less small =
    let one : 9 - i ≡ suc (9 - (i + 1)) = omega (arith, less) in
    ap (λ k. bytes_in k n) one
    ∙ ap (λ (test : Bool). if test then n ∷ [] else (128 + n % 128) ∷ bytes_in (9 - (i + 1)) (n / 128)) (below n small)

-- another one
pub longer : (i n : ℕ) → i < 9 → 128 ≤ n → bytes_in (9 - i) n ≡ (128 + n % 128) ∷ bytes_in (9 - (i + 1)) (n / 128)
longer i n less large =
    let one : 9 - i ≡ suc (9 - (i + 1)) = omega (arith, less) in
    ap (λ k. bytes_in k n) one
    ∙ ap (λ (test : Bool). if test then n ∷ [] else (128 + n % 128) ∷ bytes_in (9 - (i + 1)) (n / 128)) (above n large)

-- what is left after nine
pub tenth : (i n : ℕ) → 9 ≤ i → bytes_in (9 - i) n ≡ n ∷ []
tenth i n most = let none : 9 - i ≡ 0 = omega (arith, most) in ap (λ k. bytes_in k n) none
