-- A digit in the place of another.
use Rattle.std.proofs.Common.{◌≡◌, ◌≤◌, ◌+◌, ℕ, List, ◌∷◌, ◌++◌, length, take, drop, refl, ap, sym, ◌∙◌, append_assoc, arith, drop-drop, drop_at, length-take-le, take_at, take-add}
use Rattle.std.proofs.Math.Seq.{drop-append-add}

-- another last digit
pub digit_replaced : (room s r : List ℕ) (x b start last : ℕ) → start ≤ length room → last ≡ start + length s → drop start room ≡ s ++ x ∷ r
    → drop start (take last room ++ b ∷ drop (last + 1) room) ≡ s ++ b ∷ r
digit_replaced room s r x b start last inside at shows =
    let p : List ℕ = take start room in
    let first : take last room ≡ p ++ s =
    ap (λ (k : ℕ). take k room) at
    ∙ take-add start (length s) room
    ∙ ap (λ (l : List ℕ). p ++ take (length s) l) shows
    ∙ ap (λ (l : List ℕ). p ++ l) (take_at s (x ∷ r) (length s) refl) in
    let next : last + 1 ≡ start + (length s + 1) = omega (arith, at) in
    let others : drop (last + 1) room ≡ r =
    ap (λ (k : ℕ). drop k room) next
    ∙ sym (drop-drop (length s + 1) start room)
    ∙ ap (drop (length s + 1)) shows
    ∙ drop-append-add s (x ∷ r) 1 in
    ap (λ (l : List ℕ). drop start (l ++ b ∷ drop (last + 1) room)) first
    ∙ ap (λ (l : List ℕ). drop start ((p ++ s) ++ b ∷ l)) others
    ∙ ap (drop start) (append_assoc p s (b ∷ r))
    ∙ drop_at p (s ++ b ∷ r) start (length-take-le start room inside)
