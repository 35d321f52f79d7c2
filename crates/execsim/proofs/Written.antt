-- An element of a list is written again.
use Rattle.std.proofs.Common.{◌≡◌, ℕ, ◌+◌, ◌<◌, ◌≤◌, List, [], ◌∷◌, ◌++◌, Bool, true, false, not, length, take, map, slice_set, slice_index_or, refl, ap, sym, ◌∙◌, arith}
use Rattle.std.proofs.Math.Seq.{map-set_same}
use Rattle.std.proofs.lemmas.{List.get_or-map, List.length-map, List.map-set, List.take_all, List.take_more, List.take_more_set, Simd.map-map}

-- the lists are the same by one element more
pub one_more : {B : Type 0} (xs ys : List B) (i : ℕ) (y d : B) → i < length xs → i < length ys → take i xs ≡ take i ys → y ≡ slice_index_or ys i d
    → take (i + 1) (slice_set xs i y) ≡ take (i + 1) ys
one_more xs ys i y d in_xs in_ys so_far is = take_more_set xs i y in_xs ∙ (λ j. so_far j ++ is j ∷ []) ∙ sym (take_more ys i d in_ys)

module _ {A X B : Type 0} (g : A → B) (f : X → B) where
  -- what is seen of the lists is the same by one element more
  pub one_more_seen : (xs : List A) (ys : List X) (i : ℕ) (y : A) (x : X) → i < length xs → i < length ys → x ≡ slice_index_or ys i x → g y ≡ f x
      → take i (map g xs) ≡ take i (map f ys) → take (i + 1) (map g (slice_set xs i y)) ≡ take (i + 1) (map f ys)
  one_more_seen xs ys i y x in_xs in_ys is same so_far = ap (take (i + 1)) (map-set g xs i y)
      ∙ one_more (map g xs) (map f ys) i (g y) (f x) (omega (arith, in_xs, length-map xs g)) (omega (arith, in_ys, length-map ys f)) so_far
      (same ∙ ap f is ∙ sym (get_or-map f ys i x (f x) in_ys))

module _ {A B C : Type 0} (f : B → C) (g : A → B) where
  -- one is written of which the same is seen
  pub seen_kept : (xs : List A) (i : ℕ) (y d : A) → f (g y) ≡ f (g (slice_index_or xs i d)) → map f (map g (slice_set xs i y)) ≡ map f (map g xs)
  seen_kept xs i y d same = map-map f g (slice_set xs i y) ∙ map-set_same (λ x. f (g x)) xs i y d same ∙ sym (map-map f g xs)

module _ {A B : Type 0} (f : A → B) where
  -- one is written of which the same is seen
  pub one_kept : (xs : List A) (i : ℕ) (y d : A) → f y ≡ f (slice_index_or xs i d) → map f (slice_set xs i y) ≡ map f xs
  one_kept xs i y d same = map-set_same f xs i y d same

-- the lists are the same, if they are as long as they were compared
pub all_same : {B : Type 0} (xs ys : List B) (i : ℕ) → length xs ≤ i → length ys ≤ i → take i xs ≡ take i ys → xs ≡ ys
all_same xs ys i ends_xs ends_ys so_far = sym (take_all i xs ends_xs) ∙ so_far ∙ take_all i ys ends_ys

module _ {A X B : Type 0} (g : A → B) (f : X → B) where
  -- what is seen of two lists is the same at each place
  pub same_there : (xs : List A) (ys : List X) (i : ℕ) (y : A) (x : X) → i < length xs → i < length ys → y ≡ slice_index_or xs i y → x ≡ slice_index_or ys i x
      → map g xs ≡ map f ys → g y ≡ f x
  same_there xs ys i y x in_xs in_ys there here same = ap g there ∙ sym (get_or-map g xs i y (g y) in_xs) ∙ ap (λ zs. slice_index_or zs i (g y)) same
      ∙ get_or-map f ys i x (g y) in_ys ∙ sym (ap f here)
