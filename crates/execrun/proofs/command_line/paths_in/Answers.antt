-- The proof of `paths_in`: the paths that the words of a command line give.
use Rattle.std.proofs.Common.{◌∙◌, rules, ap, sym, codes}
use Rattle.clap.specs.Words.{fault_of, is_simple_and_free}
use Rattle.clap.specs.Walk.{texts}
use Rattle.execrun.proofs.CommandLemmas.{given_value, is_simple_here, is_simple_and_free_here}
use Rattle.execrun.proofs.command_line.paths_in.Goals as goal

pub returns-clause-given : goal.returns-clause-given
returns-clause-given c = record {
  machine = given_value _ is_simple_here c.in_ok-command.field-0 c.in_ok-matches.matches _ (codes "MACHINE") _ c.in_ok-command.ensures.app c.in_ok-matches.ensures.matches (search rules);
  events = given_value _ is_simple_here c.in_ok-command.field-0 c.in_ok-matches.matches _ (codes "EVENTS") _ c.in_ok-command.ensures.app c.in_ok-matches.ensures.matches (search rules);
}

pub returns-clause-refused : goal.returns-clause-refused
returns-clause-refused c =
    let app = c.in_ok-command.ensures.app in
    sym (ap (λ a. fault_of a (texts c.args.words.now)) app) ∙ c.in_ok-matches.ensures.kinds (ap is_simple_and_free app ∙ is_simple_and_free_here)
