-- the programs so far are those of the tasks, and all have as many commands as before
use Rattle.std.proofs.Common.{◌≡◌, length, map, take}
use Rattle.script.specs.Records.{task_view}
use Rattle.execmodel.specs.State.{new_program}
use Rattle.execsim.specs.Resetting.{command_count}
use Rattle.execsim.proofs.reset.reset_programs.Given as goal

abbrev pub invariant-loop-t : goal.invariant-loop-t
invariant-loop-t l = record {
  same : take l.t l.programs.items ≡ take l.t (map new_program (map task_view l.tasks));
  counts : map command_count l.programs.items ≡ map command_count l.initial.programs.items;
  count : length l.programs.items ≡ length l.initial.programs.items;
}
