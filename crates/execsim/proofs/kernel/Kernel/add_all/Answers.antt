-- The proof of `Kernel::add_all`: the tasks that start with the machine are added in the order of the file.
use Rattle.std.proofs.Common.{refl, ap, ◌∙◌}
use Rattle.execsim.specs.Agreement.{Seen}
use Rattle.execsim.proofs.Stepping.{none_added, more_added}
use Rattle.execsim.proofs.kernel.Kernel.add_all.Goals as goal

pub loop-t-init : goal.loop-t-init
loop-t-init g c = record { moves = none_added _ _; same = refl }

pub loop-t-preserved : goal.loop-t-preserved
loop-t-preserved g c = record {
  moves = more_added _ _ c.loop-t.invariant.moves c.loop-t.invariant.same c.start_task.ensures;
  same = ap (λ (m : Seen). m.scripts) c.start_task.ensures ∙ c.loop-t.invariant.same;
}
