-- The one header stays empty, and the priorities so far are those of the tasks so far.
use Rattle.std.proofs.Common.{◌≡◌, take, length, map, replicate, [], ◌∷◌, None}
use Rattle.taskq.specs.Tasks.{pris_of}
use Rattle.taskq.proofs.set_pris.Given as goal

abbrev pub invariant-loop-t : goal.invariant-loop-t
invariant-loop-t g l = record {
  sequences : g.S.ListSpace.sequences l.space ≡ [] ∷ [];
  homes : g.S.ListSpace.homes l.space ≡ replicate (length l.tasks) None;
  pris : take l.t (pris_of (g.S.ListSpace.keys l.space)) ≡ take l.t (map (λ t. t.pri) l.tasks);
}
