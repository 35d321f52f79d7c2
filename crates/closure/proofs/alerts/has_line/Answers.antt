-- The line of a number is that of its alert.
use Rattle.std.proofs.Common.{arith, ◌≡◌, ◌∙◌, ◌<◌, [], length, sym}
use Rattle.std.proofs.lemmas.List.{get_or-map}
use Rattle.std.proofs.lemmas.Slice.Eq.{bytes_eq-Decides}
use Rattle.closure.specs.declared.found.Alert.{Alert}
use Rattle.closure.proofs.alerts.has_line.Goals as goal

pub returns-then-i-alerts-clause-same : goal.returns-then-i-alerts-clause-same
returns-then-i-alerts-clause-same c = λ is.
    let less : c.args.i < length c.args.alerts.now = omega (arith, c.if-i-alerts.true) in
    let same = (bytes_eq-Decides c.as_slice.result.now c.args.line.now).0 (sym c.eq.ensures ∙ is) in
    let placed = get_or-map (λ (a : Alert). a.line.items) c.args.alerts.now c.args.i c.index-alerts-i.result [] less in
    placed ∙ (sym c.as_slice.ensures.value ∙ same)
