-- There is no port and no link, and the messages from there on stay.
use Rattle.std.proofs.Common.{◌≡◌, ◌<◌, ◌≤◌, [], None, length, replicate, refl, subst, sym, ap, ◌∙◌, IsTrue}
use Rattle.execlist.specs.{Lists.blank, Pool.free_below}
use Rattle.msgport.specs.Ports.{MessagePorts, all_freed, is_message, no_ports}
use Rattle.msgport.proofs.Linking.{held_when_freed, holds_item, length-below}
use Rattle.msgport.proofs.ports.Ports.reset.Goals as goal

pub reset_below-requires-clause-known : goal.reset_below-requires-clause-known
reset_below-requires-clause-known g c = subst (λ (s : MessagePorts). c.args.messages ≤ length s.messages.slots) (sym c.self.view_is) c.requires.known

pub reset_below-requires-clause-held : goal.reset_below-requires-clause-held
reset_below-requires-clause-held g c n from within = holds_item _
    (subst (λ (s : MessagePorts). c.args.messages ≤ n → n < length s.messages.slots → IsTrue (is_message n s)) (sym c.self.view_is) (c.requires.live n) from within)

pub invariant_of-self : goal.invariant_of-self
invariant_of-self g c =
    let P = length c.self.inside.ports.slots in let M = length c.self.inside.messages.slots in
    let queues : g.S.ListSpace.sequences c.reset-2.new.self ≡ replicate P [] =
    c.reset-2.ensures.empty ∙ ap (λ k. replicate k []) c.self.invariant.each_queue in
    let places : g.S.ListSpace.homes c.reset-2.new.self ≡ replicate M None =
    c.reset-2.ensures.unlinked ∙ ap (λ k. replicate k None) c.self.invariant.each_place in
    let held : g.S.ListSpace.sequences c.reset-3.new.self ≡ replicate 1 [] =
    c.reset-3.ensures.empty ∙ ap (λ k. replicate k []) c.self.invariant.one_store in
    let public : g.S.ListSpace.sequences c.reset-4.new.self ≡ replicate 1 [] =
    c.reset-4.ensures.empty ∙ ap (λ k. replicate k []) c.self.invariant.one_list in
    let keys : g.S.ListSpace.keys c.reset-4.new.self ≡ replicate P blank =
    c.reset-4.ensures.blank ∙ ap (λ k. replicate k blank) c.self.invariant.each_listing in
    let none_held : g.S.ListSpace.homes c.reset-3.new.self ≡ replicate M None =
    c.reset-3.ensures.unlinked ∙ ap (λ k. replicate k None) c.self.invariant.each_holding in
    let none_public : g.S.ListSpace.homes c.reset-4.new.self ≡ replicate P None =
    c.reset-4.ensures.unlinked ∙ ap (λ k. replicate k None) c.self.invariant.each_listing in
    let known = subst (λ (s : MessagePorts). c.args.messages ≤ length s.messages.slots) (sym c.self.view_is) c.requires.known in
    rw (c.reset.ensures, c.reset_below.ensures, queues, places, held, none_held, public, none_public, keys)
    (held_when_freed P M (free_below c.args.messages c.self.inside.messages) (length-below c.args.messages c.self.inside.messages known))

pub returns : goal.returns
returns g c =
    let P = length c.self.inside.ports.slots in let M = length c.self.inside.messages.slots in
    let queues : g.S.ListSpace.sequences c.reset-2.new.self ≡ replicate P [] =
    c.reset-2.ensures.empty ∙ ap (λ k. replicate k []) c.self.invariant.each_queue in
    let places : g.S.ListSpace.homes c.reset-2.new.self ≡ replicate M None =
    c.reset-2.ensures.unlinked ∙ ap (λ k. replicate k None) c.self.invariant.each_place in
    let held : g.S.ListSpace.sequences c.reset-3.new.self ≡ replicate 1 [] =
    c.reset-3.ensures.empty ∙ ap (λ k. replicate k []) c.self.invariant.one_store in
    let public : g.S.ListSpace.sequences c.reset-4.new.self ≡ replicate 1 [] =
    c.reset-4.ensures.empty ∙ ap (λ k. replicate k []) c.self.invariant.one_list in
    let keys : g.S.ListSpace.keys c.reset-4.new.self ≡ replicate P blank =
    c.reset-4.ensures.blank ∙ ap (λ k. replicate k blank) c.self.invariant.each_listing in
    rw (c.reset.ensures, c.reset_below.ensures, queues, places, held, public, keys)
    (refl {a = let freed : MessagePorts = record (no_ports P M) { messages = free_below c.args.messages c.self.inside.messages } in freed})
    ∙ ap (all_freed c.args.messages) c.self.view_is
