-- A text that was written over some cells in the middle.
use Rattle.std.proofs.Common.{◌≡◌, ℕ, ◌+◌, ◌≤◌, List, ◌++◌, length, take, drop, sym, ap, ◌∙◌, arith, take-add, take-take, take_at, drop_at, length-take-le}
use Rattle.std.proofs.lemmas.Slice.{take-put_mid}
use borrow.Rule.Slice.PartMut.{put_mid}

-- the first n of the cells that were written count
pub filled_mid : (cells room text : List ℕ) (at k n : ℕ) → at ≤ length cells → length room ≡ k → n ≤ k → take n room ≡ text
    → take (at + n) (put_mid at k cells room) ≡ take at cells ++ text
filled_mid cells room text at k n fits long few is =
    let front = length-take-le at cells fits in
    sym (take-take (at + n) (at + k) (put_mid at k cells room) (omega (arith, few)))
    ∙ ap (take (at + n)) (take-put_mid at k cells room (at + k) (omega (arith, long)) fits) ∙ take-add at n (take at cells ++ room)
    ∙ (λ z. take_at (take at cells) room at front z ++ take n (drop_at (take at cells) room at front z)) ∙ ap (λ zs. take at cells ++ zs) is
