-- No list begins there if the blocks have no number of one.
use Rattle.std.proofs.Common.{sym}
use Rattle.execheap.proofs.Alerts.{list_found, list_refused}
use Rattle.execheap.proofs.objects.Objects.list_at.Goals as goal

pub returns-in-Some-clause-alert : goal.returns-in-Some-clause-alert
returns-in-Some-clause-alert g c = sym (list_found c.args.self.now c.args.list c.in-Some.h (sym c.in-Some.ensures.value))

pub returns-in-None-clause-alert : goal.returns-in-None-clause-alert
returns-in-None-clause-alert g c = sym (list_refused c.args.self.now c.args.list (sym c.in-None.ensures.value))
