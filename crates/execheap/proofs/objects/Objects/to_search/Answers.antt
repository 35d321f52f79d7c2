-- The search begins in a list, or else after a linked node.
use Rattle.std.proofs.Common.{sym, ◌∙◌}
use Rattle.execheap.proofs.{Alerts.find_list, Alerts.find_node, Alerts.searched_list, Alerts.searched_node, Passed.passed_on}
use Rattle.execheap.proofs.objects.Objects.to_search.Goals as goal

pub returns-in-Some-clause-alert : goal.returns-in-Some-clause-alert
returns-in-Some-clause-alert g c = sym (find_list c.args.self.now c.args.start c.in-Some.h (sym c.in-Some.ensures.value))

pub returns-in-Some-clause-searched : goal.returns-in-Some-clause-searched
returns-in-Some-clause-searched g c =
    searched_list c.args.self.now c.args.start c.in-Some.h (sym c.in-Some.ensures.value)

pub returns-in_err-h-in-None-clause-alert : goal.returns-in_err-h-in-None-clause-alert
returns-in_err-h-in-None-clause-alert g c =
    passed_on c.from_residual.result c.in_err-h-in-None.field-0.0 c.from_residual.ensures.1
    ∙ c.in_err-h-in-None.ensures.alert ∙ sym (find_node c.args.self.now c.args.start (sym c.in-None.ensures.value))

pub returns-in_ok-h-in-None-clause-alert : goal.returns-in_ok-h-in-None-clause-alert
returns-in_ok-h-in-None-clause-alert g c = c.in_ok-h-in-None.ensures.alert ∙ sym (find_node c.args.self.now c.args.start (sym c.in-None.ensures.value))

pub returns-in_ok-h-in-None-clause-searched : goal.returns-in_ok-h-in-None-clause-searched
returns-in_ok-h-in-None-clause-searched g c =
    searched_node c.in_ok-h-in-None.ensures.known.sound c.in_ok-h-in-None.ensures.known.space c.args.start c.in_ok-h-in-None.n c.in_ok-h-in-None.h (sym c.in-None.ensures.value)
    c.in_ok-h-in-None.ensures.found c.in_ok-h-in-None.ensures.linked
