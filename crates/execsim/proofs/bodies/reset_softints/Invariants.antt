-- the software interrupts so far are those of the file, and their names, priorities and numbers of commands stay
use Rattle.std.proofs.Common.{◌≡◌, length, map, take}
use Rattle.script.specs.Machines.{softint_names}
use Rattle.script.specs.Records as records
use Rattle.execsim.specs.{Resetting.softint_shape, Views.softint_view}
use Rattle.execsim.proofs.bodies.reset_softints.Given as goal

abbrev pub invariant-loop-i : goal.invariant-loop-i
invariant-loop-i l = record {
  same : take l.i (map softint_view l.softints.items) ≡ take l.i (map records.softint_view l.file);
  names : softint_names (map softint_view l.softints.items) ≡ softint_names (map softint_view l.initial.softints.items);
  pris : map (λ s. s.pri) (map softint_view l.softints.items) ≡ map (λ s. s.pri) (map softint_view l.initial.softints.items);
  shapes : map softint_shape (map softint_view l.softints.items) ≡ map softint_shape (map softint_view l.initial.softints.items);
  count : length l.softints.items ≡ length l.file;
}
