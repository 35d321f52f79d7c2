-- The proof of `command_in`.
use Rattle.std.proofs.Common.{ap, length}
use Rattle.taskscript.specs.{Labels.marks_view, Labels.place_at, Numbering.names_view}
use Rattle.taskscript.proofs.Resolved.{command_made}
use Rattle.taskscript.proofs.resolving.command_in.Goals as goal

pub returns : goal.returns
returns c =
    let found = rw c.as_slice-arguments.ensures.value at c.in_ok-arguments_in.ensures in
    let first = rw c.as_slice-arguments.ensures.value at c.name_among.ensures in
    let names = names_view c.args.private.now.keys c.args.shared.now.keys in
    let places = place_at (marks_view c.args.labels.now.entries) in (
      found.0,
      command_made c.args.named.now.word c.target_in.result _ c.in_ok-arguments_in.field-0 _ _ c.name_among.result.bytes _ (ap length c.as_slice-arguments.ensures.value) c.target_in.ensures
          (first names places) c.requires.once found.1,
    )
