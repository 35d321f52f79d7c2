-- One alert more is added.
use Rattle.std.proofs.Common.{◌≡◌, ◌∙◌, ◌+◌, ◌++◌, ℕ, List, ◌∷◌, append_assoc, ap, sym, drop, flat_map}
use Rattle.std.proofs.lemmas.List.{drop_more}
use Rattle.closure.specs.declared.found.Alert.{Alert}
use Rattle.statereport.specs.Reports.{alert_text}
use Rattle.statereport.proofs.text.push_alerts.Goals as goal

pub loop-alert-preserved : goal.loop-alert-preserved
loop-alert-preserved c =
    let xs = c.args.alerts.now in
    let i = c.loop-alert.alert-index in
    let one = c.alert-item.result in
    let rest = flat_map alert_text (drop (i + 1) xs) in
    let here : drop i xs ≡ one ∷ drop (i + 1) xs =
    drop_more xs i one c.loop-alert-test.true ∙ ap (λ (a : Alert). a ∷ drop (i + 1) xs) (sym c.alert-item.is) in
    ap (λ (t : List ℕ). t ++ rest) c.in_ok-push_alert.ensures
    ∙ (append_assoc c.loop-alert.out.items (alert_text one) rest
    ∙ (ap (λ (l : List Alert). c.loop-alert.out.items ++ flat_map alert_text l) (sym here) ∙ c.loop-alert.invariant))
