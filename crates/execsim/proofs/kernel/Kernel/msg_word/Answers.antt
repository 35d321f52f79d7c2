-- The proof of `Kernel::msg_word`: MsgWord message: answers its word.
use Rattle.execmodel.specs.Ports.{content_of, does_msg_word, message_alert}
use Rattle.execsim.proofs.Listing.{heap_read}
use Rattle.execsim.proofs.kernel.Kernel.msg_word.Goals as goal

pub returns : goal.returns
unfolding does_msg_word
returns g c = rw (← c.self.view_is) (heap_read _ _ (message_alert _) (λ heap. (content_of _ heap).word) _
    (rw c.number-message.ensures at c.word-tried.ensures.alert) (rw c.number-message.ensures at c.word-tried.ensures.answer)
    (rw (← c.self.view_is) at c.conclude_with.ensures))
