-- A library is removed if it is shown.
use Rattle.std.proofs.Common.{ap, ◌∙◌}
use Rattle.execmodel.specs.Libraries.{after_expunge}
use Rattle.execheap.specs.{Numbered.Numbered, Numbered.shown_memory, Table.base_at}
use Rattle.execheap.proofs.LibraryCalls.{removed_shown}
use Rattle.execheap.proofs.objects.Objects.remove_library.Goals as goal

pub returns : goal.returns
returns g c =
    let made = c.remove_library.ensures in
    removed_shown c.self.invariant made.sound made.memory c.args.i c.args.base
    (ap (λ (s : Numbered). base_at c.args.i s.table.libs) c.self.view_is ∙ c.requires) c.remove_library.new.self made.next
    ∙ ap (λ s. after_expunge c.args.base (shown_memory s)) c.self.view_is
