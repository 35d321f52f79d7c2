-- What tests on numbers answer, and if `put` and `find` go.
use Rattle.std.proofs.Common.{◌≡◌, ◌≢◌, ℕ, ◌<◌, ◌≤◌, true, false, cond, ◌∷◌, refl, sym, ◌∙◌, ap, subst, arith, nat_lt, nat_eq, Option, Some, nat_cmp, is_eq, Less, Equal, Greater}
use Rattle.std.specs.{Ordering.eq_by_cmp, FinMap.put, FinMap.Entries.by_order}
use Rattle.std.proofs.lemmas.Bool.Decides.{nat_tests}
use Rattle.memlist.specs.Blocks.{Blocks, block_at}

pub nat_lt-true : (a b : ℕ) → a < b → nat_lt a b ≡ true
nat_lt-true a b h = grind (arith, nat_tests)

pub nat_lt-false : (a b : ℕ) → b ≤ a → nat_lt a b ≡ false
nat_lt-false a b h = grind (arith, nat_tests)

pub nat_eq-same : (a : ℕ) → nat_eq a a ≡ true
nat_eq-same a = grind (arith, nat_tests)

pub nat_eq-other : (a b : ℕ) → a ≢ b → nat_eq a b ≡ false
nat_eq-other a b h = grind (arith, nat_tests)

pub cmp_less : (a b : ℕ) → a < b → nat_cmp a b ≡ Less
cmp_less a b h = rw (nat_lt-true a b h) refl

pub cmp_same : (a : ℕ) → nat_cmp a a ≡ Equal
cmp_same a = rw (nat_lt-false a a (omega arith), nat_eq-same a) refl

pub cmp_greater : (a b : ℕ) → b < a → nat_cmp a b ≡ Greater
cmp_greater a b h = let ne : a ≢ b = omega arith in rw (nat_lt-false a b (omega arith), nat_eq-other a b ne) refl

pub put_before : (a : ℕ) (v : ℕ × ℕ) (b : ℕ × (ℕ × ℕ)) (rest : Blocks) → a < b.0 → put nat_cmp a v (b ∷ rest) ≡ (a, v) ∷ b ∷ rest
put_before a v b rest h = ap (λ o. by_order o ((a, v) ∷ b ∷ rest) ((b.0, v) ∷ rest) (b ∷ put nat_cmp a v rest)) (cmp_less a b.0 h)

pub put_after : (a : ℕ) (v : ℕ × ℕ) (b : ℕ × (ℕ × ℕ)) (rest : Blocks) → b.0 < a → put nat_cmp a v (b ∷ rest) ≡ b ∷ put nat_cmp a v rest
put_after a v b rest h = ap (λ o. by_order o ((a, v) ∷ b ∷ rest) ((b.0, v) ∷ rest) (b ∷ put nat_cmp a v rest)) (cmp_greater a b.0 h)

pub put_at : (a : ℕ) (v w : ℕ × ℕ) (rest : Blocks) → put nat_cmp a v ((a, w) ∷ rest) ≡ (a, v) ∷ rest
put_at a v w rest = ap (λ o. by_order o ((a, v) ∷ (a, w) ∷ rest) ((a, v) ∷ rest) ((a, w) ∷ put nat_cmp a v rest)) (cmp_same a)

-- What `find` answers at the first entry

pub cases_eq : {C : Type 0} (a b : ℕ) → (a ≡ b → C) → (a ≢ b → C) → C
cases_eq {C = C} a b same other =
    elim (nat_eq a b) as (λ t. nat_eq a b ≡ t → C) [ true ↦ λ e. same (grind (arith, nat_tests, e)) | false ↦ λ e. other (λ is. grind (arith, nat_tests, e, is)) ] refl

pub key_same : (a : ℕ) → eq_by_cmp nat_cmp a a ≡ true
key_same a = ap is_eq (cmp_same a)

pub key_other : (a b : ℕ) → a ≢ b → eq_by_cmp nat_cmp a b ≡ false
key_other a b h = rw (nat_eq-other a b h) (elim (nat_lt a b) as (λ t. is_eq (cond t Less Greater) ≡ false) [ true ↦ refl | false ↦ refl ])

pub found_here : (address : ℕ) (block : ℕ × (ℕ × ℕ)) (value : ℕ × ℕ) (rest : Blocks) → block.0 ≡ address → block_at address (block ∷ rest) ≡ Some value → block.1 ≡ value
found_here address block value rest same found =
    let here : eq_by_cmp nat_cmp address block.0 ≡ true = subst (λ k. eq_by_cmp nat_cmp address k ≡ true) (sym same) (key_same address) in
    let is : Some block.1 ≡ Some value = sym (ap (λ t. cond t (Some block.1) (block_at address rest)) here) ∙ found in
    cc

pub found_later : (address : ℕ) (block : ℕ × (ℕ × ℕ)) (value : Option (ℕ × ℕ)) (rest : Blocks) → block.0 ≢ address → block_at address (block ∷ rest) ≡ value → block_at address rest ≡ value
found_later address block value rest other found =
    sym (ap (λ t. cond t (Some block.1) (block_at address rest)) (key_other address block.0 (λ e. other (sym e)))) ∙ found
