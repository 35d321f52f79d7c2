-- A word is looked for in one group after another.
use Rattle.std.proofs.Common.{◌≡◌, Bool, find, List, ◌++◌, Option, ap, sym, ◌∙◌}
use Rattle.std.specs.Option.{option_or}
use Rattle.std.proofs.lemmas.List.Folds.{find-append}

-- the words in which it was looked for so far, and what was found
abbrev pub LookedIn : {A : Type 0} → (A → Bool) → Option A → Type 0
LookedIn {A} p o = (xs : List A) × (o ≡ find p xs)

abbrev pub looked_on : {A : Type 0} {r o : Option A} (p : A → Bool) (ys : List A) → r ≡ option_or o (find p ys) → LookedIn p o → LookedIn p r
looked_on p ys is so_far =
    (so_far.0 ++ ys, is ∙ ap (λ x. option_or x (find p ys)) so_far.1 ∙ sym (find-append p so_far.0 ys))
