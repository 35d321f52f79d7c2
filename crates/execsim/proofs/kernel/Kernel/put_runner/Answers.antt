-- The proof of `Kernel::put_runner`: puts who runs.
use Rattle.std.proofs.Common.{◌≡◌, ◌∙◌, ap, sym}
use Rattle.exectrace.specs.Putting.{puts_then}
use Rattle.exectrace.proofs.Pieces.{put_same}
use Rattle.scheduler.specs.Schedule.{task_name}
use Rattle.execsim.specs.WaitingLines.{runs_text}
use Rattle.execsim.proofs.kernel.Kernel.put_runner.Goals as goal

pub returns-in-Some : goal.returns-in-Some
returns-in-Some g c =
    let s = c.args.self.now.schedule in
    let named : task_name s c.in-Some.t ≡ c.as_bytes.result.now = sym (c.as_bytes.ensures.value ∙ (c.as_str.ensures.value ∙ c.name.ensures)) in
    puts_then (runs_text s.running s) (put_same (task_name s c.in-Some.t) c.put.ensures named) c.put-in-Some.ensures
    (ap (λ r. runs_text r s) (sym c.running.ensures.value ∙ c.in-Some.is))
