-- What clap's own account of a parse needs of the command.
use Rattle.std.proofs.Common.{◌≡◌, ◌∙◌, List, true, refl, sym, ap}
use Rattle.clap.specs.Words.{App, Text, HasMatchesOf, app_of, found_of, is_simple, is_simple_and_free, matches_of, one_of}
use Rattle.clap.specs.Matches.{one_text}
use Rattle.clap.specs.declared.builder.command.Command.{Command}
use Rattle.clap.specs.declared.parser.matches.ArgMatches.{ArgMatches}
use Rattle.clap.proofs.OnLiterals.{clap_on_literals}
use Rattle.clap.proofs.WalkLemmas.{one_text-rows}
use Rattle.checker.specs.CommandLine.{command_line}

pub is_simple_here : is_simple command_line ≡ true
unfolding clap_on_literals
is_simple_here = refl

pub is_simple_and_free_here : is_simple_and_free command_line ≡ true
unfolding clap_on_literals
is_simple_and_free_here = refl

-- the text that a flag reads is the one that the words give it
pub given_text : (app : App) → is_simple app ≡ true → (cmd : Command) (m : ArgMatches) (words : List Text) (name : Text) → app_of cmd ≡ app
    → HasMatchesOf (app_of cmd) words m → one_of name (matches_of app words) ≡ one_text (found_of m) name
given_text app simple cmd m words name is matches =
    sym (ap (λ a. one_of name (matches_of a words)) is)
    ∙ (sym (ap (one_of name) (matches (ap is_simple is ∙ simple)).0) ∙ sym (one_text-rows (found_of m) name))
