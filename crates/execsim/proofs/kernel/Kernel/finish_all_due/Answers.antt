-- The proof of `Kernel::finish_all_due`: all requests whose time has come finish, one after another: by the due time
-- when it came, and those of one due time in the order in which they were begun.
use Rattle.timerdev.specs.Timing.{due_next}
use Rattle.execsim.proofs.Requesting.{all_begin, all_due_ended, due_takes_one, one_less, shorter}
use Rattle.execsim.proofs.kernel.Kernel.finish_all_due.Goals as goal

pub loop-request-init : goal.loop-request-init
loop-request-init g c = all_begin due_next due_takes_one _ _

pub loop-request-smaller : goal.loop-request-smaller
loop-request-smaller g c = shorter due_next due_takes_one c.loop-request.self c.take_due.new.self c.announce_due.new.self _ _
    c.in-Some.ensures.answer c.take_due.ensures.next c.announce_due.ensures.kept

pub loop-request-preserved : goal.loop-request-preserved
loop-request-preserved g c = one_less due_next due_takes_one _ _ c.loop-request.invariant c.in-Some.ensures.answer
    c.take_due.ensures.next c.announce_due.ensures.follows c.announce_due.ensures.kept

pub returns : goal.returns
returns g c = all_due_ended c.loop-request.invariant c.in_default.ensures.answer c.take_due.ensures.next
