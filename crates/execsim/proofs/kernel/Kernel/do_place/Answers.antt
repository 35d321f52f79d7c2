-- The proof of `Kernel::do_place`: the command at a place of a body is done, unless an alert has stopped the machine.
use Rattle.std.proofs.Common.{ap, refl, sym, ◌∙◌}
use Rattle.script.specs.Commands.{command_view}
use Rattle.execmodel.specs.Calls.{call_in_body}
use Rattle.execsim.specs.{Agreement.Seen, Views.code_of_body}
use Rattle.execsim.proofs.Following.{follows_silence}
use Rattle.execsim.proofs.BodyCalls.{command_there, place_done, place_empty, printed_as, stored_as}
use Rattle.execsim.proofs.kernel.Kernel.do_place.Goals as goal

pub returns-in-None : goal.returns-in-None
returns-in-None g c =
    let here = command_there _ _ _ _ c.command_at.ensures (c.code.ensures ∙ ap (λ (m : Seen). code_of_body c.args.body m.bodies) c.self.view_is) in
    place_empty _ _ _ (rw c.in-None.is at here)

pub returns-in-Some-value_in_body : goal.returns-in-Some-value_in_body
returns-in-Some-value_in_body g c =
    let here = command_there _ _ _ _ c.command_at.ensures (c.code.ensures ∙ ap (λ (m : Seen). code_of_body c.args.body m.bodies) c.self.view_is) in
    let command = command_view c.in-Some.command.now in
    let call = call_in_body command c.args.self.now.scripts in
    place_done _ _ command (ap (λ (m : Seen). m.stopped) (sym c.self.view_is) ∙ c.if-self.false) (rw c.in-Some.is at here)
    (stored_as c.args.name.now.bytes command call _ refl (rw c.in-Some-value_in_body.is at c.value_in_body.ensures) (follows_silence _ (c.end_silently_in_body.ensures c.args.name.now.bytes call refl)))

pub returns-then-is_print : goal.returns-then-is_print
returns-then-is_print g c =
    let here = command_there _ _ _ _ c.command_at.ensures (c.code.ensures ∙ ap (λ (m : Seen). code_of_body c.args.body m.bodies) c.self.view_is) in
    place_done _ _ (command_view c.in-Some.command.now) (ap (λ (m : Seen). m.stopped) (sym c.self.view_is) ∙ c.if-self.false) (rw c.in-Some.is at here)
    (printed_as c.args.name.now.bytes (command_view c.in-Some.command.now) (c.if-is_print.ensures refl) c.short_line_in_body.ensures)
