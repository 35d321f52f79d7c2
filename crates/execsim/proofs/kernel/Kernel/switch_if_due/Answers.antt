-- The proof of `Kernel::switch_if_due`: the switch of a machine that goes on and in which no source asks.
use Rattle.std.proofs.Common.{sym}
use Rattle.execsim.proofs.Settling.{settled_after, settles_by_switch}
use Rattle.execsim.proofs.kernel.Kernel.switch_if_due.Goals as goal

pub returns-in-None-clause-follows : goal.returns-in-None-clause-follows
returns-in-None-clause-follows g c =
    settles_by_switch _ c.requires.going c.requires.unasked c.reschedule-choice.ensures.answer c.reschedule-choice.ensures.next c.announce.ensures

pub returns-in-None-clause-settled : goal.returns-in-None-clause-settled
returns-in-None-clause-settled g c = λ quiet.
    settled_after _ c.requires.going c.requires.unasked (rw c.in-None.is at c.reschedule-choice.ensures.answer) c.reschedule-choice.ensures.next

pub returns-in-Some-clause-follows : goal.returns-in-Some-clause-follows
returns-in-Some-clause-follows g c =
    settles_by_switch _ c.requires.going c.requires.unasked c.reschedule-choice.ensures.answer c.reschedule-choice.ensures.next c.announce.ensures
