-- A node that no list has is freed if it is shown.
use Rattle.std.proofs.Common.{ap, ◌∙◌}
use Rattle.execlist.specs.Lists.{home}
use Rattle.execmodel.specs.Memory.{freed}
use Rattle.execheap.specs.declared.tag.Kind.TheVariants as variant
use Rattle.execheap.specs.Numbered.{Numbered, shown_memory}
use Rattle.execheap.proofs.{Made.freed_at, Nodes.node_freed_kept, Nodes.node_freed_shown}
use Rattle.execheap.proofs.objects.Objects.free_node.Goals as goal

pub invariant_of-self : goal.invariant_of-self
invariant_of-self g c =
    let free = c.free.ensures in
    let gone = freed_at c.self.view_is c.self.invariant free.sound free.memory variant.Node c.args.n c.args.address c.free.new.self c.requires.live free.next in
    node_freed_kept gone (ap (λ (s : Numbered). home s.homes c.args.n) c.self.view_is ∙ c.requires.unlinked)

pub returns : goal.returns
returns g c =
    let free = c.free.ensures in
    let gone = freed_at c.self.view_is c.self.invariant free.sound free.memory variant.Node c.args.n c.args.address c.free.new.self c.requires.live free.next in
    node_freed_shown gone (ap (λ (s : Numbered). home s.homes c.args.n) c.self.view_is ∙ c.requires.unlinked) (g.met.S.ListSpace.stands c.self.inside.space)
    ∙ ap (λ s. freed c.args.address (shown_memory s)) c.self.view_is
