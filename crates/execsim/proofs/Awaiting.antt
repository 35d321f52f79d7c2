-- How the tasks are, task by task.
use Rattle.std.proofs.Common.{◌≡◌, ℕ, suc, ◌+◌, ap, arith}
use Rattle.exectrace.specs.Sink.{Puts, Tape}
use Rattle.exectrace.specs.Putting.{puts_then}
use Rattle.scheduler.specs.Schedule.{Schedule}
use Rattle.execmodel.specs.State.{Scripts}
use Rattle.execsim.specs.WaitingLines.{wait_text, waits_text}

-- one more task
pub next_wait : {a b c : Tape} (t : ℕ) (s : Schedule) (scripts : Scripts) → Puts a b (waits_text t s scripts) → Puts b c (wait_text t s scripts) → Puts a c (waits_text (t + 1) s scripts)
next_wait t s scripts before one =
    let e : t + 1 ≡ suc t = omega arith in
    puts_then (waits_text (t + 1) s scripts) before one (ap (λ n. waits_text n s scripts) e)
