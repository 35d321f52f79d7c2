-- A list is empty if it is by number; no list begins if the blocks have no number of one.
use Rattle.std.proofs.Common.{sym}
use Rattle.execheap.proofs.Alerts.{free_list_found, free_list_refused}
use Rattle.execheap.proofs.objects.Objects.empty_list_at.Goals as goal

pub returns-in-None-clause-alert : goal.returns-in-None-clause-alert
returns-in-None-clause-alert g c = sym (free_list_refused c.args.self.now c.args.list (sym c.in-None.ensures.value))

pub returns-in-Some-first-clause-alert : goal.returns-in-Some-first-clause-alert
returns-in-Some-first-clause-alert g c =
    sym (free_list_found c.args.self.now c.args.list c.in-Some.h (sym c.in-Some.ensures.value) (sym c.in-Some-first.ensures.value))

pub returns-in-None-first-clause-alert : goal.returns-in-None-first-clause-alert
returns-in-None-first-clause-alert g c =
    sym (free_list_found c.args.self.now c.args.list c.in-Some.h (sym c.in-Some.ensures.value) (sym c.in-None-first.ensures.value))
