-- What holds in the loops of `inits_of`: the names and priorities of the tasks, in the order of the file.
use Rattle.std.proofs.Common.{◌≡◌, map, take}
use Rattle.execsim.proofs.boot.inits_of.Given as goal

-- the tasks so far have given their names and priorities
abbrev pub invariant-loop-task : goal.invariant-loop-task
invariant-loop-task l = record {
  names : map (λ t. t.name.bytes) l.inits.items ≡ map (λ t. t.name.bytes) (take l.task-index l.tasks);
  pris : map (λ t. t.pri) l.inits.items ≡ map (λ t. t.pri) (take l.task-index l.tasks);
}
