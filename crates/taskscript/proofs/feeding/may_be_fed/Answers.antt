-- The proof of `may_be_fed`: a command with no variable and no jump.
use Rattle.std.proofs.Common.{◌≡◌, ◌∙◌, sym}
use Rattle.std.specs.List.{list_all}
use Rattle.taskscript.specs.{declared.named.NamedArgument.NamedArgument, Feeding.is_fixed, Lines.named_argument_view}
use Rattle.taskscript.proofs.Fed.{fed_without_target}
use Rattle.taskscript.proofs.feeding.may_be_fed.Goals as goal

pub returns-in-None : goal.returns-in-None
returns-in-None c =
    let command = c.args.command.now in
    let arguments : c.are_fixed.result ≡ list_all (λ (a : NamedArgument). is_fixed (named_argument_view a)) command.arguments.items = rw c.as_slice.ensures.value at c.are_fixed.ensures in
    arguments ∙ sym (fed_without_target command.target command.arguments.items c.in-None.is)
