-- A library is opened if it is shown.
use Rattle.std.proofs.Common.{ap, ◌∙◌}
use Rattle.execmodel.specs.Libraries.{opened, opening}
use Rattle.execheap.specs.Numbered.{shown_memory}
use Rattle.execheap.proofs.Opening.{opened_shown, opening_shown}
use Rattle.execheap.proofs.objects.Objects.open_library.Goals as goal

pub returns-clause-answer : goal.returns-clause-answer
returns-clause-answer g c =
    let made = c.open_library.ensures in
    made.answer ∙ opening_shown c.self.invariant made.sound made.memory c.args.name.now c.args.version
    ∙ ap (λ s. opening c.args.name.now c.args.version (shown_memory s)) c.self.view_is

pub returns-clause-next : goal.returns-clause-next
returns-clause-next g c =
    let made = c.open_library.ensures in
    opened_shown c.self.invariant made.sound made.memory c.args.name.now c.args.version c.open_library.result c.open_library.new.self made.answer made.next
    ∙ ap (λ s. opened c.args.name.now c.args.version (shown_memory s)) c.self.view_is
