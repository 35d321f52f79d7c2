-- How many ways there are.
use Rattle.std.proofs.Common.{◌≡◌, ◌∙◌, ℕ, zero, suc, ◌+◌, ◌*◌, ◌^◌, ◌<◌, List, [], ◌∷◌, length, refl, ap, ap₂, sym, arith, pow-suc, length-append}
use Rattle.std.proofs.Math.Nat.{pow-zero}
use Rattle.std.proofs.lemmas.List.{length-map}
use Rattle.ways.specs.Ways.{exactly, with_before, with_each, ways, choose, count, count_all}

pub length-with_each : {E : Type 0} (kinds : List E) (ws : List (List E)) → length (with_each kinds ws) ≡ length kinds * length ws
length-with_each [] ws = omega arith
length-with_each (e ∷ es) ws =
    length-append (with_before e ws) (with_each es ws)
    ∙ (ap₂ (λ (a b : ℕ). a + b) (length-map ws (λ way. e ∷ way)) (length-with_each es ws) ∙ omega arith)

-- the number of ways with exactly that many extras
pub length-exactly : {E : Type 0} (kinds : List E) (j : ℕ) (acts : List E) → length (exactly kinds j acts) ≡ count (length kinds) j (length acts)
length-exactly kinds zero acts = refl
length-exactly kinds (suc j) [] = length-with_each kinds (exactly kinds j []) ∙ ap (λ n. length kinds * n) (length-exactly kinds j [])
length-exactly kinds (suc j) (a ∷ rest) =
    length-append (with_each kinds (exactly kinds j (a ∷ rest))) (with_before a (exactly kinds (suc j) rest))
    ∙ ap₂ (λ (x y : ℕ). x + y)
    (length-with_each kinds (exactly kinds j (a ∷ rest)) ∙ ap (λ n. length kinds * n) (length-exactly kinds j (a ∷ rest)))
    (length-map (exactly kinds (suc j) rest) (λ way. a ∷ way) ∙ length-exactly kinds (suc j) rest)

-- the number of ways with at most that many
pub length-ways : {E : Type 0} (kinds : List E) (k : ℕ) (acts : List E) → length (ways kinds k acts) ≡ count_all (length kinds) k (length acts)
length-ways kinds zero acts = refl
length-ways kinds (suc k) acts =
    length-append (ways kinds k acts) (exactly kinds (suc k) acts)
    ∙ ap₂ (λ (x y : ℕ). x + y) (length-ways kinds k acts) (length-exactly kinds (suc k) acts)

choose-more : (n k : ℕ) → n < k → choose n k ≡ 0
choose-more n zero lt = absurd (omega (arith, lt))
choose-more zero (suc k) lt = refl
choose-more (suc n) (suc k) lt =
    let a : choose n k ≡ 0 = choose-more n k (omega (arith, lt)) in
    let b : choose n (suc k) ≡ 0 = choose-more n (suc k) (omega (arith, lt)) in
    omega (arith, a, b)

choose-all : (n : ℕ) → choose n n ≡ 1
choose-all zero = refl
choose-all (suc n) =
    let a : choose n n ≡ 1 = choose-all n in
    let b : choose n (suc n) ≡ 0 = choose-more n (suc n) (omega arith) in
    omega (arith, a, b)

-- a sum of two products
both : (m p a b : ℕ) → m * (a * p) + b * (p * m) ≡ (a + b) * (p * m)
both m p a b = omega arith

one_kind_more : (m p a b x y : ℕ) → x ≡ a * p → y ≡ b * (p * m) → m * x + y ≡ (a + b) * (p * m)
one_kind_more m p a b x y e h = ap₂ (λ (s t : ℕ). m * s + t) e h ∙ both m p a b

one_row : (m p a x : ℕ) → x ≡ a * p → (a + 0) * (p * m) ≡ m * x
one_row m p a x e = sym (ap (λ y. m * y) e ∙ omega arith)

-- the formula
pub count-formula : (m j n : ℕ) → count m j n ≡ choose (n + j) j * m ^ j
count-formula m zero n = let e : m ^ 0 ≡ 1 = pow-zero m in omega (arith, e)
count-formula m (suc j) zero =
    let here : 0 + j ≡ j = omega arith in
    let more : 0 + suc j ≡ suc j = omega arith in
    let less : count m j 0 ≡ choose j j * m ^ j = count-formula m j 0 ∙ ap (λ (k : ℕ). choose k j * m ^ j) here in
    let none : choose j (suc j) ≡ 0 = choose-more j (suc j) (omega arith) in
    sym (ap (λ (k : ℕ). choose k (suc j) * m ^ suc j) more
    ∙ (ap₂ (λ (a b : ℕ). a * b) (ap (λ (k : ℕ). choose j j + k) none) (pow-suc m j) ∙ one_row m (m ^ j) (choose j j) (count m j 0) less))
count-formula m (suc j) (suc n) =
    let across : n + suc j ≡ suc n + j = omega arith in
    let more : suc n + suc j ≡ suc (suc n + j) = omega arith in
    let down : count m j (suc n) ≡ choose (suc n + j) j * m ^ j = count-formula m j (suc n) in
    let left : count m (suc j) n ≡ choose (suc n + j) (suc j) * (m ^ j * m) = count-formula m (suc j) n ∙ ap₂ (λ (a b : ℕ). choose a (suc j) * b) across (pow-suc m j) in
    one_kind_more m (m ^ j) (choose (suc n + j) j) (choose (suc n + j) (suc j)) (count m j (suc n)) (count m (suc j) n) down left
    ∙ sym (ap₂ (λ (a b : ℕ). choose a (suc j) * b) more (pow-suc m j))
