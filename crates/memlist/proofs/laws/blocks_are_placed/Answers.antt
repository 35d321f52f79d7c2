-- The proof of `blocks_are_placed`: if a block fits, no block begins, and there it lies on whole units; so does each
-- block of a well- formed memory.
use Rattle.memlist.proofs.Fitting.{fitted_fresh, fitted_placed, live_placed}
use Rattle.memlist.proofs.laws.blocks_are_placed.Goals as goal

pub returns-clause-fresh : goal.returns-clause-fresh
returns-clause-fresh c = fitted_fresh

pub returns-clause-fitted : goal.returns-clause-fitted
returns-clause-fitted c = fitted_placed

pub returns-clause-live : goal.returns-clause-live
returns-clause-live c = live_placed
