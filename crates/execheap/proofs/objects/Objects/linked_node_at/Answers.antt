-- A node that has a list by number is linked, and one that has none is not.
use Rattle.std.proofs.Common.{sym}
use Rattle.execheap.proofs.Alerts.{linked_found, linked_refused}
use Rattle.execheap.proofs.objects.Objects.linked_node_at.Goals as goal

pub returns-in-None-clause-alert : goal.returns-in-None-clause-alert
returns-in-None-clause-alert g c = sym (linked_refused c.args.self.now c.args.node (sym c.in-None.ensures.value))

pub returns-in-Some-home-clause-alert : goal.returns-in-Some-home-clause-alert
returns-in-Some-home-clause-alert g c =
    sym (linked_found c.in-Some.ensures.known.sound c.in-Some.ensures.known.space c.args.node c.in-Some.n
    (sym c.in-Some.ensures.value) (sym c.in-Some-home.ensures))

pub returns-in-None-home-clause-alert : goal.returns-in-None-home-clause-alert
returns-in-None-home-clause-alert g c =
    sym (linked_found c.in-Some.ensures.known.sound c.in-Some.ensures.known.space c.args.node c.in-Some.n
    (sym c.in-Some.ensures.value) (sym c.in-None-home.ensures))
