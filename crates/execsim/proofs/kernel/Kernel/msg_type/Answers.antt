-- The proof of `Kernel::msg_type`: MsgType message: answers its type, 0 for a new one.
use Rattle.execmodel.specs.Ports.{content_of, does_msg_type, message_alert}
use Rattle.execsim.proofs.Listing.{heap_read}
use Rattle.execsim.proofs.kernel.Kernel.msg_type.Goals as goal

pub returns : goal.returns
unfolding does_msg_type
returns g c = heap_read _ _ (message_alert _) (λ heap. (content_of _ heap).kind) _
    (rw c.number-message.ensures at c.kind-tried.ensures.alert) (rw c.number-message.ensures at c.kind-tried.ensures.answer)
    c.conclude_with.ensures
