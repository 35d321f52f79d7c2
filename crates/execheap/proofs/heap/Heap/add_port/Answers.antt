-- The port that is shown is public under the name.
use Rattle.std.proofs.Common.{rules, ap, arith, ◌∙◌}
use Rattle.std.proofs.lemmas.Int.{to_z-of_z}
use Rattle.execheap.specs.{Changes.on_ports, Listing.listed, Numbered.shown_memory}
use Rattle.msgport.specs.Ports.{made_public}
use Rattle.execheap.proofs.{Public.made_public_shown, Posted.item_known}
use Rattle.execheap.proofs.heap.Heap.add_port.Goals as goal
use mir.Syntax.{w8}
use mir.Val.{SFits}

pub returns-clause-next : goal.returns-clause-next
returns-clause-next g c =
    let f = c.in_ok-p.ensures.known in
    let s = c.self.inside.objects in
    let e = c.in_ok-p.ensures in
    let fits : SFits w8 c.args.pri = search rules in
    ap shown_memory c.add_port.ensures
    ∙ ap (λ pri. shown_memory (on_ports (made_public c.in_ok-p.p c.args.name.bytes pri) s)) (to_z-of_z w8 c.args.pri fits)
    ∙ made_public_shown f.sound f.ports c.in_ok-p.p c.args.port e.found c.args.name.bytes c.args.pri
    (omega (arith, f.ports.each_key, item_known s.ports.ports.slots c.in_ok-p.p e.live)) e.private
    ∙ ap (listed c.args.port c.args.name.bytes c.args.pri) c.self.view_is
