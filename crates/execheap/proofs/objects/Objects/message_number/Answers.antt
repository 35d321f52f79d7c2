-- A message has its number, and a request the one after those of the messages.
use Rattle.std.proofs.Common.{ap, is_some, sym, ◌∙◌}
use Rattle.execlist.specs.Pool.{slot}
use Rattle.execheap.specs.Numbered.{message_places}
use Rattle.execheap.proofs.{Front.message_live, KeptRequests.live_request, KeptRequests.message_there, MessagePlaces.request_standing, Queues.none_placed}
use Rattle.execheap.proofs.objects.Objects.message_number.Goals as goal

pub message_of-requires : goal.message_of-requires
message_of-requires g c =
    let known = c.in-Some-number_at.ensures.known in
    live_request known.sound.kept c.in-Some-number_at.r (ap is_some c.in-Some-number_at.ensures.live)

pub returns-in-Some-clause-live : goal.returns-in-Some-clause-live
returns-in-Some-clause-live g c =
    let known = c.in-Some.ensures.known in
    message_live known.sound.kept known.sound.table c.in-Some.m (ap is_some c.in-Some.ensures.live)

pub returns-in-Some-number_at-clause-number : goal.returns-in-Some-number_at-clause-number
returns-in-Some-number_at-clause-number g c =
    ap (slot (message_places c.args.self.now)) c.message_of.ensures.value
    ∙ request_standing c.args.self.now c.in-Some-number_at.ensures.known.sound.table c.in-Some-number_at.r ∙ c.in-Some-number_at.ensures.live

pub returns-in-Some-number_at-clause-live : goal.returns-in-Some-number_at-clause-live
returns-in-Some-number_at-clause-live g c =
    let known = c.in-Some-number_at.ensures.known in
    message_there known.sound c.in-Some-number_at.r c.message_of.result
    (live_request known.sound.kept c.in-Some-number_at.r (ap is_some c.in-Some-number_at.ensures.live)) c.message_of.ensures.value

pub returns-in-None-number_at-clause-number : goal.returns-in-None-number_at-clause-number
returns-in-None-number_at-clause-number g c =
    none_placed c.in-None.ensures.known.sound c.args.message (sym c.in-None.ensures.value) (sym c.in-None-number_at.ensures.value)
