-- What follows a node is the next cell's.
use Rattle.std.proofs.Common.{ap, sym, ◌∙◌, arith}
use Rattle.execlist.specs.{Lists.sequence, Lists.home, Lists.part_after, Chains.lists_of, Chains.homes_of, Chains.node_at}
use Rattle.execlist.proofs.{PlainLemmas.if_some_from, Walks.times_after, LinkLemmas.node-in, LinkLemmas.node-next-in, LinkLemmas.succ-read, LinkLemmas.member-home, LinkLemmas.is-some, LinkLemmas.first-times}
use Rattle.execlist.proofs.link.LinkSpaceListSpace.succ.Goals as goal

pub next_id-requires : goal.next_id-requires
next_id-requires c =
    let s = c.args.self.now in let ls = s.block.links in
    let at = is-some (home (homes_of ls s.nodes) c.args.n) c.requires in
    (node-in s.nodes s.headers ls s.linked c.args.n at.0 at.1, node-next-in s.nodes s.headers ls s.linked c.args.n at.0 at.1)

pub returns-clause-value : goal.returns-clause-value
returns-clause-value c = λ h own.
    let s = c.args.self.now in let ls = s.block.links in
    c.node_at.ensures ∙ ap (node_at s.nodes) c.next_id.ensures ∙ succ-read s.nodes s.headers ls s.linked c.args.n h own

pub returns-clause-home : goal.returns-clause-home
returns-clause-home c =
    let s = c.args.self.now in let ls = s.block.links in let seqs = lists_of ls s.nodes s.headers in
    let at = is-some (home (homes_of ls s.nodes) c.args.n) c.requires in
    if_some_from c.node_at.result (λ x e.
    let here = first-times x (part_after c.args.n (sequence seqs at.0)) (sym (returns-clause-value c at.0 at.1) ∙ e) in
    member-home s.nodes s.headers ls s.linked at.0 x (omega (arith, here, times_after x c.args.n (sequence seqs at.0))) ∙ sym at.1)
