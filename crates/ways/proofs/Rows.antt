-- Rows of numbers of ways.
use Rattle.std.proofs.Common.{◌≡◌, ◌∙◌, ℕ, zero, suc, ◌+◌, ◌*◌, ◌-◌, ◌<◌, ◌⊎◌, inl, inr, List, [], ◌∷◌, ◌++◌, length, get_or, Option, None, Some, refl, ap, ap₂, sym, subst, arith, get_or-append-add}
use Rattle.std.proofs.lemmas.{List.get_or_append_left, List.get_or_push, List.length_push, Nat.mul-add-lt}
use Rattle.ways.specs.{Ways.count, Rows.IsRow, Rows.AreRows, Rows.number_of}

less_or_last : (j r : ℕ) → j < r + 1 → (j < r) ⊎ (j ≡ r)
less_or_last zero zero lt = inr refl
less_or_last zero (suc r) lt = inl (omega arith)
less_or_last (suc j) zero lt = absurd (omega (arith, lt))
less_or_last (suc j) (suc r) lt =
    elim (less_or_last j r (omega (arith, lt))) as (λ _. (suc j < suc r) ⊎ (suc j ≡ suc r)) [ inl h ↦ inl (omega (arith, h)) | inr e ↦ inr (ap suc e) ]

-- one number more
pub row_more : (kinds extras : ℕ) (row : List ℕ) (i x : ℕ) → length row ≡ i → IsRow kinds extras row → x ≡ count kinds extras i → IsRow kinds extras (row ++ x ∷ [])
row_more kinds extras row i x long right is n lt =
    elim (less_or_last n i (omega (arith, lt, length_push row x, long))) as (λ _. get_or (row ++ x ∷ []) n 0 ≡ count kinds extras n) [
      | inl here ↦ let within : n < length row = omega (arith, here, long) in get_or_append_left row (x ∷ []) 0 n within ∙ right n within
      | inr end ↦ ap (λ (k : ℕ). get_or (row ++ x ∷ []) k 0) end ∙ (get_or_push row x 0 i long ∙ (is ∙ ap (λ (k : ℕ). count kinds extras k) (sym end)))
    ]

-- one row more
pub rows_more : (kinds width rows : ℕ) (numbers row : List ℕ) → length numbers ≡ rows * width → length row ≡ width → AreRows kinds width rows numbers → IsRow kinds rows row → AreRows kinds width (rows + 1) (numbers ++ row)
rows_more kinds width rows numbers row long wide before right j n lt within =
    elim (less_or_last j rows lt) as (λ _. get_or (numbers ++ row) (j * width + n) 0 ≡ count kinds j n) [
      | inl here ↦
          let fits : j * width + n < width * rows = mul-add-lt j width n rows here within in
          get_or_append_left numbers row 0 (j * width + n) (omega (arith, fits, long)) ∙ before j n here within
      | inr end ↦
          let place : j * width + n ≡ length numbers + n = ap (λ (k : ℕ). k * width + n) end ∙ ap (λ (k : ℕ). k + n) (sym long) in
          ap (λ (k : ℕ). get_or (numbers ++ row) k 0) place
          ∙ (get_or-append-add numbers row n 0 ∙ (right n (subst (λ k. n < k) (sym wide) within) ∙ ap (λ (k : ℕ). count kinds k n) (sym end)))
    ]

-- the number before, by the row so far
pub before_is : (kinds extras i : ℕ) (row s : List ℕ) (b : Option ℕ) → s ≡ row → length row ≡ i → IsRow kinds (suc extras) row
    → (length s ≡ 0 → b ≡ None) → (0 < length s → b ≡ Some (get_or s (length s - 1) 0))
    → (i ≡ 0 → b ≡ None) × (0 < i → b ≡ Some (count kinds (suc extras) (i - 1)))
before_is kinds extras i row s b same long right none some =
    let count_is : length s ≡ i = ap length same ∙ long in (
      λ e. none (count_is ∙ e),
      λ lt. some (subst (λ k. 0 < k) (sym count_is) lt)
          ∙ ap Some (ap₂ (λ (l : List ℕ) (k : ℕ). get_or l k 0) same (ap (λ k. k - 1) count_is) ∙ right (i - 1) (omega (arith, lt, long))),
    )

-- what a number is by the one above it and the one before it
pub number_right : (kinds extras i above : ℕ) → above ≡ count kinds extras i → (before : Option ℕ)
    → (i ≡ 0 → before ≡ None) → (0 < i → before ≡ Some (count kinds (suc extras) (i - 1))) → number_of kinds above before ≡ count kinds (suc extras) i
number_right kinds extras zero above is before none some = ap (number_of kinds above) (none refl) ∙ ap (λ n. kinds * n) is
number_right kinds extras (suc i) above is before none some =
    let back : suc i - 1 ≡ i = omega arith in
    ap (number_of kinds above) (some (omega arith) ∙ ap (λ k. Some (count kinds (suc extras) k)) back) ∙ ap (λ n. kinds * n + count kinds (suc extras) i) is
