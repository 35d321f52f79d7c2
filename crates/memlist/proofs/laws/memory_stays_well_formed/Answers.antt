-- The proof of `memory_stays_well_formed`: a memory in which nothing is allocated is well formed, and it stays so when
-- a block is put if it fits and when one is freed.
use Rattle.memlist.proofs.{Fitting.fitted_well_formed, Keeping.freed_well_formed, Keeping.untouched_well_formed}
use Rattle.memlist.proofs.laws.memory_stays_well_formed.Goals as goal

pub returns-clause-untouched : goal.returns-clause-untouched
returns-clause-untouched c = untouched_well_formed

pub returns-clause-allocated : goal.returns-clause-allocated
returns-clause-allocated c = fitted_well_formed

pub returns-clause-freed : goal.returns-clause-freed
returns-clause-freed c = freed_well_formed
