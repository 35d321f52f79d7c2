-- The proof of `ending_of`: does what the words ask for, and says how the program ends.
use Rattle.execrun.proofs.RunLemmas.{runs_out_of_memory}
use Rattle.execrun.proofs.running.ending_of.Goals as goal

pub returns-in-Err-clause-runs : goal.returns-in-Err-clause-runs
returns-in-Err-clause-runs g c right = runs_out_of_memory _ _ g.W.Write.contents _ _ c.in-Err.error c.ending_without_paths.result right c.in-Err.ensures.refused c.ending_without_paths.ensures.memory c.ending_without_paths.ensures.unwritten
