-- The message of a request is one that the ports know.
use Rattle.std.proofs.Common.{ap, ◌∙◌}
use Rattle.msgport.specs.Ports.{is_message}
use Rattle.execheap.proofs.KeptRequests.{message_there}
use Rattle.execheap.proofs.objects.Objects.is_reply_queued.Goals as goal

pub is_queued-requires : goal.is_queued-requires
is_queued-requires g c =
    ap (is_message c.message_of.result) c.ports.ensures ∙ message_there c.facts.ensures.sound c.args.r c.message_of.result c.requires c.message_of.ensures.value
