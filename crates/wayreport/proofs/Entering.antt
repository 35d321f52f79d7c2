-- The texts of entries, one more.
use Rattle.std.proofs.Common.{◌≡◌, ◌∙◌, ℕ, ◌+◌, ◌<◌, List, ◌∷◌, ◌++◌, length, drop, get_or, map, ap, sym, subst, append_assoc}
use Rattle.std.proofs.lemmas.List.{drop_more, get_or-map, length-map}
use Rattle.wayreport.specs.{Reports.entries_text, Reports.entry_text, Reports.found_view, declared.report.Found.Found}

pub next_entry : (found : List Found) (i : ℕ) (one : Found) (before after all : List ℕ) → i < length found → one ≡ get_or found i one
    → after ≡ before ++ entry_text (i + 1) (found_view one) → before ++ entries_text (i + 1) (drop i (map found_view found)) ≡ all
    → after ++ entries_text (i + 1 + 1) (drop (i + 1) (map found_view found)) ≡ all
next_entry found i one before after all lt is grown so_far =
    let E = map found_view found in
    let rest = entries_text (i + 1 + 1) (drop (i + 1) E) in
    let at : get_or E i (found_view one) ≡ found_view one = get_or-map found_view found i one (found_view one) lt ∙ ap found_view (sym is) in
    let here : drop i E ≡ found_view one ∷ drop (i + 1) E =
    drop_more E i (found_view one) (subst (λ n. i < n) (sym (length-map found found_view)) lt) ∙ ap (λ e. e ∷ drop (i + 1) E) at in
    ap (λ t. t ++ rest) grown
    ∙ (append_assoc before (entry_text (i + 1) (found_view one)) rest
    ∙ (ap (λ l. before ++ entries_text (i + 1) l) (sym here) ∙ so_far))
