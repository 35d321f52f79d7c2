-- What clap's own account of a parse needs of the command.
use Rattle.std.proofs.Common.{◌≡◌, true, refl}
use Rattle.clap.specs.Words.{is_simple, is_simple_and_free}
use Rattle.clap.proofs.OnLiterals.{clap_on_literals}
use Rattle.execexplore.specs.CommandLine.{command_line}

pub is_simple_here : is_simple command_line ≡ true
unfolding clap_on_literals
is_simple_here = refl

pub is_simple_and_free_here : is_simple_and_free command_line ≡ true
unfolding clap_on_literals
is_simple_and_free_here = refl
