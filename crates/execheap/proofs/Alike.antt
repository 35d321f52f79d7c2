-- Two lists that are the same as far as they were compared.
use Rattle.std.proofs.Common.{◌≡◌, ℕ, zero, suc, ◌+◌, List, [], ◌∷◌, Bool, true, false, not, length, take, drop, get_or, refl, ap, sym, ◌∙◌, subst, arith, Option, Some, None, is_some, unwrap_or, slice_get}

module _ {A : Type 0} where
  same_next : (xs ys : List A) (k : ℕ) → take k xs ≡ take k ys → slice_get xs k ≡ slice_get ys k → take (suc k) xs ≡ take (suc k) ys
  same_next [] [] k so_far next = refl
  same_next [] (y ∷ ys) zero so_far next = let bad : false ≡ true = ap is_some next in cc
  same_next [] (y ∷ ys) (suc k) so_far next = let bad : 0 ≡ suc (length (take k ys)) = ap length so_far in absurd (omega (arith, bad))
  same_next (x ∷ xs) [] zero so_far next = let bad : true ≡ false = ap is_some next in cc
  same_next (x ∷ xs) [] (suc k) so_far next = let bad : suc (length (take k xs)) ≡ 0 = ap length so_far in absurd (omega (arith, bad))
  same_next (x ∷ xs) (y ∷ ys) zero so_far next = ap (λ o. unwrap_or o x ∷ []) next
  same_next (x ∷ xs) (y ∷ ys) (suc k) so_far next = λ i. get_or (so_far i) 0 x ∷ same_next xs ys k (ap (λ l. drop 1 l) so_far) next i

  -- they are the same by one element more
  pub same_more : (xs ys : List A) (k : ℕ) → take k xs ≡ take k ys → slice_get xs k ≡ slice_get ys k → take (k + 1) xs ≡ take (k + 1) ys
  same_more xs ys k so_far next =
      subst (λ n. take n xs ≡ take n ys) (let same : suc k ≡ k + 1 = omega arith in same) (same_next xs ys k so_far next)

  -- they are the same, if the first ends there
  pub same_whole : (xs ys : List A) → take (length ys) xs ≡ take (length ys) ys → slice_get xs (length ys) ≡ None → xs ≡ ys
  same_whole [] [] all past = refl
  same_whole [] (y ∷ ys) all past = let bad : 0 ≡ suc (length (take (length ys) ys)) = ap length all in absurd (omega (arith, bad))
  same_whole (x ∷ xs) [] all past = let bad : true ≡ false = ap is_some past in cc
  same_whole (x ∷ xs) (y ∷ ys) all past = λ i. get_or (all i) 0 x ∷ same_whole xs ys (ap (λ l. drop 1 l) all) past i

  -- there is none
  pub none_of : (o : Option A) (none : Bool) → is_some o ≡ not none → none ≡ true → o ≡ None
  none_of None none is so = refl
  none_of (Some a) none is so = let bad : true ≡ false = is ∙ ap not so in cc

  -- past the last one there is none
  pub past_end : (xs : List A) → slice_get xs (length xs) ≡ None
  past_end [] = refl
  past_end (x ∷ xs) = past_end xs

  pub none_is : (o : Option A) (none : Bool) → is_some o ≡ not none → o ≡ None → none ≡ true
  none_is o true is so = refl
  none_is o false is so = let bad : true ≡ false = sym is ∙ ap is_some so in cc
