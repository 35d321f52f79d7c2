-- No message begins there if the blocks have no number of one.
use Rattle.std.proofs.Common.{ap, is_some, sym}
use Rattle.execheap.proofs.{PortAlerts.message_found, PortAlerts.message_refused, Front.message_live}
use Rattle.execheap.proofs.objects.Objects.message_at.Goals as goal

pub returns-in-Some-clause-alert : goal.returns-in-Some-clause-alert
returns-in-Some-clause-alert g c = sym (message_found c.args.self.now c.args.message c.in-Some.m (sym c.in-Some.ensures.value))

pub returns-in-None-clause-alert : goal.returns-in-None-clause-alert
returns-in-None-clause-alert g c = sym (message_refused c.args.self.now c.args.message (sym c.in-None.ensures.value))

pub returns-in-Some-clause-live : goal.returns-in-Some-clause-live
returns-in-Some-clause-live g c =
    let known = c.in-Some.ensures.known in
    message_live known.sound.kept known.sound.table c.in-Some.m (ap is_some c.in-Some.ensures.live)
