-- The last node is the one before the tail.
use Rattle.std.proofs.Common.{◌+◌, ◌<◌, length, ap, sym, subst, ◌∙◌}
use Rattle.execlist.specs.{Links.link_at, Lists.sequence, Chains.lists_of, Chains.node_at}
use Rattle.execlist.proofs.{PlainLemmas.if_some_from, PlainLemmas.last_times, LinkLemmas.known-header, LinkLemmas.tail-in, LinkLemmas.tail-prev-in, LinkLemmas.last-read, LinkLemmas.member-home}
use Rattle.execlist.proofs.link.LinkSpaceListSpace.last.Goals as goal

pub prev_id-requires : goal.prev_id-requires
prev_id-requires c =
    let s = c.args.self.now in let ls = s.block.links in
    let lt = known-header s.nodes s.headers ls s.linked c.args.h c.requires in
    subst (λ t. (t + 1 < length ls) × ((link_at ls (t + 1)).prev < length ls)) (sym c.head.ensures) (tail-in s.nodes s.headers ls s.linked c.args.h lt, tail-prev-in s.nodes s.headers ls s.linked c.args.h lt)

pub returns-clause-value : goal.returns-clause-value
returns-clause-value c =
    let s = c.args.self.now in let ls = s.block.links in
    let lt = known-header s.nodes s.headers ls s.linked c.args.h c.requires in
    c.node_at.ensures ∙ ap (node_at s.nodes) (c.prev_id.ensures ∙ ap (λ t. (link_at ls (t + 1)).prev) c.head.ensures) ∙ last-read s.nodes s.headers ls s.linked c.args.h lt

pub returns-clause-home : goal.returns-clause-home
returns-clause-home c =
    let s = c.args.self.now in
    if_some_from c.node_at.result (λ x e. member-home s.nodes s.headers s.block.links s.linked c.args.h x (last_times x (sequence (lists_of s.block.links s.nodes s.headers) c.args.h) (sym (returns-clause-value c) ∙ e)))
