-- The list is asked for first, and then the node.
use Rattle.std.proofs.Common.{sym, ◌∙◌}
use Rattle.execheap.proofs.{Alerts.link_by_list, Alerts.link_by_node, Passed.passed_on}
use Rattle.execheap.proofs.objects.Objects.to_link.Goals as goal

pub returns-in_err-h-clause-alert : goal.returns-in_err-h-clause-alert
returns-in_err-h-clause-alert g c =
    passed_on c.from_residual.result c.in_err-h.field-0.0 c.from_residual.ensures.1
    ∙ sym (link_by_list c.args.list c.args.node _ (sym c.in_err-h.ensures.alert))

pub returns-in_err-n-clause-alert : goal.returns-in_err-n-clause-alert
returns-in_err-n-clause-alert g c =
    passed_on c.from_residual-in_err-n.result c.in_err-n.field-0.0 c.from_residual-in_err-n.ensures.1
    ∙ c.in_err-n.ensures.alert ∙ sym (link_by_node c.args.list c.args.node _ (sym c.in_ok-h.ensures.alert))

pub returns-clause-alert : goal.returns-clause-alert
returns-clause-alert g c =
    c.in_ok-n.ensures.alert ∙ sym (link_by_node c.args.list c.args.node _ (sym c.in_ok-h.ensures.alert))
