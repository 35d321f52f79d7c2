-- The proof of `asked_in`: what the words of a command line give.
use Rattle.std.proofs.Common.{◌∙◌, ap, sym, refl, codes}
use Rattle.clap.specs.Words.{fault_of, is_simple_and_free}
use Rattle.clap.specs.Walk.{texts}
use Rattle.execrun.proofs.CommandLemmas.{given_value}
use Rattle.checker.proofs.CommandLemmas.{given_text, is_simple_here, is_simple_and_free_here}
use Rattle.checker.proofs.command_line.asked_in.Goals as goal

pub returns-clause-given : goal.returns-clause-given
returns-clause-given c =
    let app = c.in_ok-command.ensures.app in
    let matches = c.in_ok-matches.ensures.matches in
    record {
      machine = given_value _ is_simple_here c.in_ok-command.field-0 c.in_ok-matches.matches _ (codes "MACHINE") _ app matches c.get_str.ensures;
      events = given_value _ is_simple_here c.in_ok-command.field-0 c.in_ok-matches.matches _ (codes "EVENTS") _ app matches c.get_str-2.ensures;
      explain = given_value _ is_simple_here c.in_ok-command.field-0 c.in_ok-matches.matches _ (codes "explain") _ app matches c.get_str-3.ensures;
      color = given_value _ is_simple_here c.in_ok-command.field-0 c.in_ok-matches.matches _ (codes "color") _ app matches c.get_str-4.ensures;
      serves = λ none. c.in_ok-serves.ensures
          (sym (given_value _ is_simple_here c.in_ok-command.field-0 c.in_ok-matches.matches _ (codes "serves") _ app matches refl) ∙ none);
      fixes = λ not. c.get_flag.ensures.other
          (sym (given_text _ is_simple_here c.in_ok-command.field-0 c.in_ok-matches.matches _ (codes "fix") app matches) ∙ not);
    }

pub returns-clause-refused : goal.returns-clause-refused
returns-clause-refused c =
    let app = c.in_ok-command.ensures.app in
    sym (ap (λ a. fault_of a (texts c.args.words.now)) app) ∙ c.in_ok-matches.ensures.kinds (ap is_simple_and_free app ∙ is_simple_and_free_here)
