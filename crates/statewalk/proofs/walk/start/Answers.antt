-- The machine is in the first state.
use Rattle.statekeys.proofs.Standing.{begun_there}
use Rattle.statewalk.proofs.walk.start.Goals as goal

pub returns-clause-there : goal.returns-clause-there
returns-clause-there c =
    begun_there c.args._file.now c.args.machine.now c.start_on.new.machine _ _ c.in_ok-start_on.ensures.acts c.requires.agrees c.requires.bare

pub returns-clause-time : goal.returns-clause-time
returns-clause-time c = c.in_ok-start_on.ensures.time 1000000 c.requires.time
