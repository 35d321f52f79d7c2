-- The proof of `Kernel::set_msg_word`: SetMsgWord message word: gives the message another word.
use Rattle.std.proofs.Common.{refl}
use Rattle.execmodel.specs.{State.on_heap, Ports.does_set_msg_word, Ports.message_alert, Ports.with_message_word}
use Rattle.execsim.proofs.Listing.{heap_changed}
use Rattle.execsim.proofs.kernel.Kernel.set_msg_word.Goals as goal

pub returns : goal.returns
unfolding does_set_msg_word
returns g c = rw (← c.self.view_is) (heap_changed _ _ (message_alert _) (on_heap (with_message_word _ _)) (λ y. refl) _ _
    (rw c.number-message.ensures at c.set_word-tried.ensures.alert)
    (rw (c.number-message.ensures, c.number-word.ensures) at c.set_word-tried.ensures.next) c.set_word-tried.ensures.kept c.conclude.ensures)
