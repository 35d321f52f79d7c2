-- A message that is let go and in no port is not linked.
use Rattle.std.proofs.Common.{◌∙◌, ap, sym}
use Rattle.msgport.specs.Ports.{is_queued}
use Rattle.msgport.proofs.Linking.{both_not, unqueued_of}
use Rattle.msgport.proofs.ports.Ports.reply.Goals as goal

pub post-requires-clause-loose : goal.post-requires-clause-loose
post-requires-clause-loose g c = both_not _ _
    (ap (is_queued c.args.m) c.let_go.ensures.next ∙ unqueued_of c.args.p c.args.m c.args.self.now (sym c.reply_fault.ensures ∙ c.in-None.is)) c.let_go.ensures.gone
