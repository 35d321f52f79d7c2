-- The names of the software interrupts of an accepted file differ.
use Rattle.execsim.proofs.Accepted.{softints_differ}
use Rattle.execsim.proofs.boot.interrupts_of.Goals as goal

pub new-requires : goal.new-requires
new-requires g c = record { names = softints_differ c.softints.ensures.machine _ c.softints.ensures.softints }
