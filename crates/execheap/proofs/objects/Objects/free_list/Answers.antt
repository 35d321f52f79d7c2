-- An empty list is freed if it is shown.
use Rattle.std.proofs.Common.{ap, ◌∙◌}
use Rattle.execlist.specs.Lists.{sequence}
use Rattle.execmodel.specs.Memory.{freed}
use Rattle.execheap.specs.declared.tag.Kind.TheVariants as variant
use Rattle.execheap.specs.Numbered.{Numbered, shown_memory}
use Rattle.execheap.proofs.{Lists.list_freed_kept, Lists.list_freed_shown, Made.freed_at}
use Rattle.execheap.proofs.objects.Objects.free_list.Goals as goal

pub invariant_of-self : goal.invariant_of-self
invariant_of-self g c =
    let free = c.free.ensures in
    let gone = freed_at c.self.view_is c.self.invariant free.sound free.memory variant.List c.args.h c.args.address c.free.new.self c.requires.live free.next in
    list_freed_kept gone (g.met.S.ListSpace.stands c.self.inside.space) (ap (λ (s : Numbered). sequence s.sequences c.args.h) c.self.view_is ∙ c.requires.empty)

pub returns : goal.returns
returns g c =
    let free = c.free.ensures in
    let gone = freed_at c.self.view_is c.self.invariant free.sound free.memory variant.List c.args.h c.args.address c.free.new.self c.requires.live free.next in
    list_freed_shown gone
    ∙ ap (λ s. freed c.args.address (shown_memory s)) c.self.view_is
