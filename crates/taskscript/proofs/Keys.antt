-- Keys of a table, and items counted.
use Rattle.std.proofs.Common.{◌≡◌, ℕ, Bool, ◌||◌, ◌&&◌, List, [], ◌∷◌, map, Bor, string_bytes, bytes_eq, refl, ap, length, arith}
use Rattle.std.specs.List.{list_any}
use Rattle.toml.specs.View.{members_view, items_view}
use Rattle.toml.proofs.Views.{Entry}
use Rattle.toml.specs.declared.value.Value.{Value}
use Rattle.taskscript.specs.Tree.{keys_are_among, count_items}

pub list_any-now : (k : List ℕ) (listed : List (Bor (List ℕ))) → list_any (bytes_eq k) (map (λ x. x.now) listed) ≡ list_any (λ x. bytes_eq k x.now) listed
list_any-now k [] = refl
list_any-now k (x ∷ xs) = ap (λ b. bytes_eq k x.now || b) (list_any-now k xs)

pub count_items_view : (vs : List Value) → count_items (items_view vs) ≡ length vs
count_items_view [] = refl
count_items_view (v ∷ vs) = rw (count_items_view vs) (omega arith)

-- one key more
pub keys_step : (listed : List (Bor (List ℕ))) (s t : List Entry) (e : Entry) (b : Bool) → s ≡ e ∷ t → b ≡ list_any (λ x. bytes_eq (string_bytes e.0) x.now) listed
    → keys_are_among (map (λ x. x.now) listed) (members_view s) ≡ (b && keys_are_among (map (λ x. x.now) listed) (members_view t))
keys_step listed s t e b is found = rw (is, found, list_any-now (string_bytes e.0) listed)
