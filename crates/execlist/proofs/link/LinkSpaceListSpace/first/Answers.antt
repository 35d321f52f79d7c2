-- The first node is the one after the head.
use Rattle.std.proofs.Common.{◌<◌, length, ap, sym, subst, ◌∙◌}
use Rattle.execlist.specs.{Links.link_at, Lists.sequence, Chains.lists_of, Chains.node_at}
use Rattle.execlist.proofs.{PlainLemmas.if_some_from, LinkLemmas.known-header, LinkLemmas.head-in, LinkLemmas.head-next-in, LinkLemmas.first-read, LinkLemmas.first-times, LinkLemmas.member-home}
use Rattle.execlist.proofs.link.LinkSpaceListSpace.first.Goals as goal

pub next_id-requires : goal.next_id-requires
next_id-requires c =
    let s = c.args.self.now in let ls = s.block.links in
    let lt = known-header s.nodes s.headers ls s.linked c.args.h c.requires in
    subst (λ t. (t < length ls) × ((link_at ls t).next < length ls)) (sym c.head.ensures) (head-in s.nodes s.headers ls s.linked c.args.h lt, head-next-in s.nodes s.headers ls s.linked c.args.h lt)

pub returns-clause-value : goal.returns-clause-value
returns-clause-value c =
    let s = c.args.self.now in let ls = s.block.links in
    let lt = known-header s.nodes s.headers ls s.linked c.args.h c.requires in
    c.node_at.ensures ∙ ap (node_at s.nodes) (c.next_id.ensures ∙ ap (λ t. (link_at ls t).next) c.head.ensures) ∙ first-read s.nodes s.headers ls s.linked c.args.h lt

pub returns-clause-home : goal.returns-clause-home
returns-clause-home c =
    let s = c.args.self.now in
    if_some_from c.node_at.result (λ x e. member-home s.nodes s.headers s.block.links s.linked c.args.h x (first-times x (sequence (lists_of s.block.links s.nodes s.headers) c.args.h) (sym (returns-clause-value c) ∙ e)))
