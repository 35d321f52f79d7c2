-- One turn of a loop over the items of an array, if each item is judged by itself.
use Rattle.std.proofs.Common.{◌≡◌, ℕ, ◌+◌, ◌<◌, List, [], ◌∷◌, ◌++◌, length, get_or, drop, None, sym, ap, ◌∙◌, append_assoc}
use Rattle.memlist.specs.declared.region.Region.{Region}
use Rattle.toml.specs.declared.value.Value.{Value}
use Rattle.toml.specs.Data.{Data, item}
use Rattle.toml.specs.View.{view, items_view}
use Rattle.toml.proofs.Views.{items_view-drop}
use Rattle.taskscript.specs.{declared.refused.Refused.Refused, Faults.IsFirst, File.region_of, File.regions_of, Tree.items_faults}
use Rattle.execlist.specs.Order.{first}
use Rattle.taskscript.proofs.Firsts.{first_none, first_some}

pub items_go_on : (judge : ℕ → Data → List Refused) (vs : List Value) (i : ℕ) (v : Value) → i < length vs → v ≡ get_or vs i v → first (judge i (view v)) ≡ None
    → first (items_faults judge i (items_view (drop i vs))) ≡ first (items_faults judge (i + 1) (items_view (drop (i + 1) vs)))
items_go_on judge vs i v lt is good =
    ap (λ ds. first (items_faults judge i ds)) (items_view-drop vs i v lt) ∙ ap (λ (w : Value). first (items_faults judge i (item (view w) (items_view (drop (i + 1) vs))))) (sym is)
    ∙ first_none (judge i (view v)) _ good

pub items_stop : (judge : ℕ → Data → List Refused) (vs : List Value) (i : ℕ) (v : Value) (f : Refused) → i < length vs → v ≡ get_or vs i v
    → first (items_faults judge i (items_view (drop i vs))) ≡ first (items_faults judge 0 (items_view vs)) → IsFirst f (judge i (view v)) → IsFirst f (items_faults judge 0 (items_view vs))
items_stop judge vs i v f lt is so_far h ne =
    sym so_far ∙ ap (λ ds. first (items_faults judge i ds)) (items_view-drop vs i v lt) ∙ ap (λ (w : Value). first (items_faults judge i (item (view w) (items_view (drop (i + 1) vs))))) (sym is)
    ∙ first_some (judge i (view v)) _ f (h ne)

pub regions_found : (rs : List Region) (r : Region) (vs : List Value) (i : ℕ) (v : Value) → i < length vs → v ≡ get_or vs i v → r ≡ region_of (view v)
    → rs ++ regions_of (items_view (drop i vs)) ≡ (rs ++ r ∷ []) ++ regions_of (items_view (drop (i + 1) vs))
regions_found rs r vs i v lt is same =
    let rest = regions_of (items_view (drop (i + 1) vs)) in
    ap (λ ds. rs ++ regions_of ds) (items_view-drop vs i v lt) ∙ ap (λ (w : Value). rs ++ (region_of (view w) ∷ rest)) (sym is)
    ∙ ap (λ (q : Region). rs ++ (q ∷ rest)) (sym same) ∙ sym (append_assoc rs (r ∷ []) rest)
