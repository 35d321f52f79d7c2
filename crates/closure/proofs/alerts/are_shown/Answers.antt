-- One alert more is shown, and then all are.
use Rattle.std.proofs.Common.{rules, arith, ◌≡◌, ◌∙◌, All, List, true, subst, take, take_all}
use Rattle.std.proofs.lemmas.List.Elements.{All-more}
use Rattle.script.specs.File.{MachineData}
use Rattle.closure.specs.Closed.{IsShown}
use Rattle.closure.specs.declared.found.Alert.{Alert}
use Rattle.closure.proofs.alerts.are_shown.Goals as goal

pub loop-alert-preserved : goal.loop-alert-preserved
loop-alert-preserved g c =
    let machine = g.W.Walker.machine_of c.args.walker.now in
    let yes : c.in_ok-is_shown.field-0 ≡ true = search rules in
    record {
      same = c.is_shown.ensures.same ∙ c.loop-alert.invariant.same;
      each = All-more (IsShown machine) c.args.alerts.now c.loop-alert.alert-index c.alert-item.result c.loop-alert-test.true c.loop-alert.invariant.each
          (subst (λ (a : Alert). IsShown machine a) c.alert-item.is
          (subst (λ (m : MachineData). IsShown m c.alert-item.result) c.loop-alert.invariant.same (c.in_ok-is_shown.ensures.shown yes)));
    }

pub returns-clause-shown : goal.returns-clause-shown
returns-clause-shown g c = λ is.
    subst (λ (l : List Alert). All (IsShown (g.W.Walker.machine_of c.args.walker.now)) l)
    (take_all c.loop-alert.alert-index c.args.alerts.now (omega arith)) c.loop-alert.invariant.each
