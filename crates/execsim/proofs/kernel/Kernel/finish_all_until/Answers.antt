-- The proof of `Kernel::finish_all_until`: all requests that wait for system time and whose time has come finish, one
-- after another: by their times, and those of one time in the order in which they were begun.
use Rattle.timerdev.specs.Timing.{until_next}
use Rattle.execsim.proofs.Requesting.{all_begin, all_ended, one_less, shorter, until_takes_one}
use Rattle.execsim.proofs.kernel.Kernel.finish_all_until.Goals as goal

pub loop-request-init : goal.loop-request-init
loop-request-init g c = all_begin until_next until_takes_one _ _

pub loop-request-smaller : goal.loop-request-smaller
loop-request-smaller g c = shorter until_next until_takes_one c.loop-request.self c.take_until.new.self c.announce_due.new.self _ _
    c.in-Some.ensures.answer c.take_until.ensures.next c.announce_due.ensures.kept

pub loop-request-preserved : goal.loop-request-preserved
loop-request-preserved g c = one_less until_next until_takes_one _ _ c.loop-request.invariant c.in-Some.ensures.answer
    c.take_until.ensures.next c.announce_due.ensures.follows c.announce_due.ensures.kept

pub returns : goal.returns
returns g c = all_ended until_next until_takes_one c.loop-request.invariant c.in_default.ensures.answer c.take_until.ensures.next
