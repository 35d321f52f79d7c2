-- The proof of `Program::command`: the next command, if any is left.
use Rattle.std.proofs.Common.{◌∙◌, ap, sym, slice_get, option_map}
use Rattle.std.proofs.lemmas.Option.{slice_get-map}
use Rattle.script.specs.Commands.{command_view}
use Rattle.execsim.proofs.progress.Program.command.Goals as goal

pub returns : goal.returns
returns c = rw (← c.self.view_is) (
    ap (option_map command_view) (c.command_at.ensures ∙ ap (λ items. slice_get items c.self.inside.place) c.as_slice.ensures.value)
    ∙ sym (slice_get-map command_view c.self.inside.code.items c.self.inside.place))
