-- No request begins there if the blocks have no number of one.
use Rattle.std.proofs.Common.{ap, is_some, sym}
use Rattle.execheap.proofs.{KeptRequests.live_request, RequestAlerts.request_found, RequestAlerts.request_refused, RequestAlerts.request_shown}
use Rattle.execheap.proofs.objects.Objects.request_at.Goals as goal

pub returns-in-Some-clause-alert : goal.returns-in-Some-clause-alert
returns-in-Some-clause-alert g c = sym (request_found c.args.self.now c.args.request c.in-Some.r (sym c.in-Some.ensures.value))

pub returns-in-None-clause-alert : goal.returns-in-None-clause-alert
returns-in-None-clause-alert g c = sym (request_refused c.args.self.now c.args.request (sym c.in-None.ensures.value))

pub returns-in-Some-clause-live : goal.returns-in-Some-clause-live
returns-in-Some-clause-live g c = live_request c.in-Some.ensures.known.sound.kept c.in-Some.r (ap is_some c.in-Some.ensures.live)

pub returns-in-Some-clause-content : goal.returns-in-Some-clause-content
returns-in-Some-clause-content g c = sym (request_shown c.args.self.now c.args.request c.in-Some.r (sym c.in-Some.ensures.value))
