-- No task so far is live and has the name.
use Rattle.std.proofs.Common.{◌≡◌, ℕ, ◌<◌, false}
use Rattle.taskq.specs.Tasks.{is_live_named}
use Rattle.taskq.proofs.TaskQ.find.Given as goal

abbrev pub invariant-loop-t : goal.invariant-loop-t
invariant-loop-t g l = (k : ℕ) → k < l.t → is_live_named l.self l.name k ≡ false
