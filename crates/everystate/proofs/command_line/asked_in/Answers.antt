-- The proof of `asked_in`: the path that the words of a command line give.
use Rattle.std.proofs.Common.{rules, codes}
use Rattle.clap.specs.Walk.{texts}
use Rattle.everystate.proofs.CommandLemmas.{given_here}
use Rattle.everystate.proofs.command_line.asked_in.Goals as goal

pub returns-clause-given : goal.returns-clause-given
returns-clause-given c = record {
  machine = given_here c.in_ok-matches.matches (texts c.args.words.now) (codes "MACHINE") _ c.in_ok-matches.ensures.matches (search rules);
}
