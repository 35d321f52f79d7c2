-- A predecessor is a node if the blocks have a number of one.
use Rattle.std.proofs.Common.{sym}
use Rattle.execheap.proofs.Alerts.{pred_found, pred_refused}
use Rattle.execheap.proofs.objects.Objects.predecessor_at.Goals as goal

pub returns-in-Some-clause-alert : goal.returns-in-Some-clause-alert
returns-in-Some-clause-alert g c = sym (pred_found c.args.self.now c.args.pred c.in-Some.p (sym c.in-Some.ensures.value))

pub returns-in-None-clause-alert : goal.returns-in-None-clause-alert
returns-in-None-clause-alert g c = sym (pred_refused c.args.self.now c.args.pred c.if-pred-eq0.false (sym c.in-None.ensures.value))
