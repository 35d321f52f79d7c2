-- Which lists are ways, by three rules.
use Rattle.std.specs.Prelude.{◌≡◌, ◌⊎◌, ℕ, suc, List, [], ◌∷◌}

-- an item is one of a list
abbrev pub IsOneOf : {E : Type 0} → List E → E → Type 0
IsOneOf [] x = ⊥
IsOneOf (y ∷ ys) x = (x ≡ y) ⊎ IsOneOf ys x

-- A way with that many extras among some actions: no action and no extra make the empty way; an extra of one of the
-- kinds may come first; and so may the first action.
pub data IsWay {E : Type 0} (kinds : List E) : ℕ → List E → List E → Type 0 where
  ends : IsWay kinds 0 [] []
  extra : (j : ℕ) (acts : List E) (kind : E) (way : List E) → IsOneOf kinds kind → IsWay kinds j acts way → IsWay kinds (suc j) acts (kind ∷ way)
  action : (j : ℕ) (a : E) (rest way : List E) → IsWay kinds j rest way → IsWay kinds j (a ∷ rest) (a ∷ way)
