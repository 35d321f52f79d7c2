-- What holds of the first items holds of one more.
use Rattle.std.proofs.Common.{◌≡◌, ◌<◌, ◌≤◌, ◌+◌, ℕ, List, [], ◌∷◌, ◌++◌, All, sym, subst, length, map, take, get_or, take_all}
use Rattle.std.proofs.lemmas.List.{map_more}
use Rattle.std.proofs.lemmas.List.Elements.{All-nil, All-cons, All-append}

pub all_more : {X Y : Type 0} (P : Y → Type 0) (f : X → Y) (xs : List X) (i : ℕ) (d : X) → i < length xs → All P (map f (take i xs)) → P (f (get_or xs i d))
    → All P (map f (take (i + 1) xs))
all_more {X} {Y} P f xs i d less all one =
    subst (λ (l : List Y). All P l) (sym (map_more f xs i d less))
    (All-append P (map f (take i xs)) (f (get_or xs i d) ∷ []) all (All-cons P (f (get_or xs i d)) [] one (All-nil P)))

pub all_end : {X Y : Type 0} (P : Y → Type 0) (f : X → Y) (xs : List X) (i : ℕ) → length xs ≤ i → All P (map f (take i xs)) → All P (map f xs)
all_end {X} {Y} P f xs i most all = subst (λ (l : List X). All P (map f l)) (take_all i xs most) all
