-- The definitions compute: small cases that hold by computing both sides.
use Rattle.std.proofs.Common.{refl, ◌≡◌, ℕ, ℤ, pos, negsuc, [], ◌∷◌, Some, None, slice_index_or}
use Rattle.execlist.specs.Order.{chosen, order, without_item}

-- the priorities 0, 5, 0, -128, 127, 5
abbrev key : ℕ → ℤ
key n = slice_index_or (pos 0 ∷ pos 5 ∷ pos 0 ∷ negsuc 127 ∷ pos 127 ∷ pos 5 ∷ []) n (pos 0)

chosen-of-all : chosen key (0 ∷ 1 ∷ 2 ∷ 3 ∷ 4 ∷ 5 ∷ []) ≡ Some 4
chosen-of-all = refl

chosen-of-equals : chosen key (0 ∷ 5 ∷ 1 ∷ []) ≡ Some 5
chosen-of-equals = refl

chosen-of-none : chosen key [] ≡ None
chosen-of-none = refl

without-one : without_item 1 (0 ∷ 1 ∷ 2 ∷ []) ≡ 0 ∷ 2 ∷ []
without-one = refl

order-of-all : order key (0 ∷ 1 ∷ 2 ∷ 3 ∷ 4 ∷ 5 ∷ []) ≡ 4 ∷ 1 ∷ 5 ∷ 0 ∷ 2 ∷ 3 ∷ []
unfolding order
order-of-all = refl
