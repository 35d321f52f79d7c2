-- The proof of `grown_machines_are_whole`: the lemma of that name says it.
use Rattle.execsim_c.proofs.Whole.{grown_machines_are_whole as whole_law}
use Rattle.execsim_c.proofs.laws.grown_machines_are_whole.Goals as goal

pub returns : goal.returns
returns c = whole_law
