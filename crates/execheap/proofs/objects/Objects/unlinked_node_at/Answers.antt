-- A node that has no list by number is not linked, and one that has is.
use Rattle.std.proofs.Common.{sym}
use Rattle.execheap.proofs.Alerts.{free_node_found, free_node_refused}
use Rattle.execheap.proofs.objects.Objects.unlinked_node_at.Goals as goal

pub returns-in-None-clause-alert : goal.returns-in-None-clause-alert
returns-in-None-clause-alert g c = sym (free_node_refused c.args.self.now c.args.node (sym c.in-None.ensures.value))

pub returns-in-Some-home-clause-alert : goal.returns-in-Some-home-clause-alert
returns-in-Some-home-clause-alert g c =
    sym (free_node_found c.in-Some.ensures.known.sound c.in-Some.ensures.known.space c.args.node c.in-Some.n
    (sym c.in-Some.ensures.value) (sym c.in-Some-home.ensures))

pub returns-in-None-home-clause-alert : goal.returns-in-None-home-clause-alert
returns-in-None-home-clause-alert g c =
    sym (free_node_found c.in-Some.ensures.known.sound c.in-Some.ensures.known.space c.args.node c.in-Some.n
    (sym c.in-Some.ensures.value) (sym c.in-None-home.ensures))
