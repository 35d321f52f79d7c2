-- The proof of `agreement`: the queues agree with the schedule: in every state of every run exactly the running task
-- has the state Running, exactly the ready tasks are in the ready sequence, each once, and exactly those that wait for
-- a semaphore are in the queue of one, each once and in no other.
use Rattle.execmodel.proofs.WaitingLaw.{queues_agree_with_the_schedule}
use Rattle.execmodel.proofs.laws.agreement.Goals as goal

pub returns : goal.returns
returns c = queues_agree_with_the_schedule
