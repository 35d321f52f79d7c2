-- Lists with one more item at the end.
use Rattle.std.proofs.Common.{◌≡◌, ℕ, suc, ◌+◌, ◌<◌, List, [], ◌∷◌, ◌++◌, length, map, take, slice_index_or, refl, sym, ap, ap₂, ◌∙◌, arith}
use Rattle.std.proofs.Math.Seq.{take-suc}

pub map_last : {A B : Type 0} (f : A → B) (xs : List A) (x : A) → map f (xs ++ x ∷ []) ≡ map f xs ++ f x ∷ []
map_last f [] x = refl
map_last f (y ∷ xs) x = ap (λ ys. f y ∷ ys) (map_last f xs x)

pub one_longer : {A : Type 0} (x : A) (xs : List A) → length (xs ++ x ∷ []) ≡ length xs + 1
one_longer x [] = refl
one_longer x (y ∷ xs) = omega (arith, one_longer x xs)

-- one item more of a list is read, and is put at the end of those that were read
pub read_more : {A B : Type 0} (f : A → B) (read more : List A) (x : A) (t : ℕ) (xs : List B) (d : B) → map f read ≡ take t xs → t < length xs
    → f x ≡ slice_index_or xs t d → more ≡ read ++ x ∷ [] → map f more ≡ take (t + 1) xs
read_more f read more x t xs d so_far within same put =
    let next : t + 1 ≡ suc t = omega arith in
    ap (map f) put ∙ map_last f read x ∙ ap₂ (λ ys y. ys ++ y ∷ []) so_far same ∙ sym (take-suc xs t d within) ∙ ap (λ n. take n xs) (sym next)
