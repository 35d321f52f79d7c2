-- Labels in a map, by their texts.
use Rattle.std.proofs.Common.{◌≡◌, ℕ, Bool, true, false, bytes_eq, cond, List, [], ◌∷◌, ◌++◌, Option, Some, None, refl, ap}
use Rattle.std.specs.Map.{lookup}
use Rattle.arrayvec.specs.ArrayString.{ArrayString}
use Rattle.indexmap.specs.IndexMap.{insert_entry}
use Rattle.taskscript.specs.Labels.{Mark, place_in, marks_view}

pub place_looked_up : (n : List ℕ) (es : List (ArrayString × ℕ)) → lookup (λ (k : ArrayString). bytes_eq n k.bytes) es ≡ place_in (marks_view es) n
place_looked_up n [] = refl
place_looked_up n (e ∷ es) = ap (λ (o : Option ℕ). cond (bytes_eq n e.0.bytes) (Some e.1) o) (place_looked_up n es)

entry_step : (b : Bool) (k : ℕ) (o : Option ℕ) → cond b (Some k) o ≡ None → (b ≡ false) × (o ≡ None)
entry_step true k o h = absurd cc
entry_step false k o h = (refl, h)

-- a label that is new is after the others
pub marks_grown : (n : ArrayString) (k : ℕ) (es : List (ArrayString × ℕ)) → place_in (marks_view es) n.bytes ≡ None
    → marks_view (insert_entry (λ (i j : ArrayString). bytes_eq i.bytes j.bytes) es n k) ≡ marks_view es ++ record { name = n.bytes; place = k } ∷ []
marks_grown n k [] h = refl
marks_grown n k (e ∷ es) h =
    let parts = entry_step (bytes_eq n.bytes e.0.bytes) e.1 (place_in (marks_view es) n.bytes) h in
    rw parts.0 (ap (λ (ms : List Mark). record { name = e.0.bytes; place = e.1 } ∷ ms) (marks_grown n k es parts.1))
