-- The place of a name among the names is the number of its software interrupt.
use Rattle.std.proofs.Common.{sym, ap, ◌∙◌, bytes_eq}
use Rattle.std.specs.List.{position_or_len}
use Rattle.arrayvec.specs.ArrayString.{ArrayString}
use Rattle.execmodel.specs.{State.Bodies, Pending.softint_number}
use Rattle.execsim.proofs.BodyNames.{found_at, found_nowhere}
use Rattle.execsim.proofs.bodies.Bodies.softint_found.Goals as goal

pub returns-in-Some : goal.returns-in-Some
returns-in-Some c =
    found_at (λ (n : ArrayString). n.bytes) c.args.name.now.bytes c.self.inside.names.keys c.in-Some.index (sym c.in-Some.is ∙ c.get_index_of.ensures.index)
    ∙ ap (position_or_len (bytes_eq c.args.name.now.bytes)) c.self.invariant.0 ∙ ap (λ (b : Bodies). softint_number c.args.name.now.bytes b.softints) c.self.view_is

pub returns-in-None : goal.returns-in-None
returns-in-None c =
    c.len.ensures.len ∙ found_nowhere (λ (n : ArrayString). n.bytes) c.args.name.now.bytes c.self.inside.names.keys (sym c.in-None.is ∙ c.get_index_of.ensures.index)
    ∙ ap (position_or_len (bytes_eq c.args.name.now.bytes)) c.self.invariant.0 ∙ ap (λ (b : Bodies). softint_number c.args.name.now.bytes b.softints) c.self.view_is
