-- What comes before a node is the cell before.
use Rattle.std.proofs.Common.{ap, sym, ◌∙◌, arith}
use Rattle.execlist.specs.{Lists.sequence, Lists.home, Lists.part_before, Chains.lists_of, Chains.homes_of, Chains.node_at}
use Rattle.execlist.proofs.{PlainLemmas.if_some_from, PlainLemmas.last_times, LinkLemmas.node-in, LinkLemmas.node-prev-in, LinkLemmas.pred-read, LinkLemmas.member-home, LinkLemmas.is-some, Walks.times_before}
use Rattle.execlist.proofs.link.LinkSpaceListSpace.pred.Goals as goal

pub prev_id-requires : goal.prev_id-requires
prev_id-requires c =
    let s = c.args.self.now in let ls = s.block.links in
    let at = is-some (home (homes_of ls s.nodes) c.args.n) c.requires in
    (node-in s.nodes s.headers ls s.linked c.args.n at.0 at.1, node-prev-in s.nodes s.headers ls s.linked c.args.n at.0 at.1)

pub returns-clause-value : goal.returns-clause-value
returns-clause-value c = λ h own.
    let s = c.args.self.now in let ls = s.block.links in
    c.node_at.ensures ∙ ap (node_at s.nodes) c.prev_id.ensures ∙ pred-read s.nodes s.headers ls s.linked c.args.n h own

pub returns-clause-home : goal.returns-clause-home
returns-clause-home c =
    let s = c.args.self.now in let ls = s.block.links in let seqs = lists_of ls s.nodes s.headers in
    let at = is-some (home (homes_of ls s.nodes) c.args.n) c.requires in
    if_some_from c.node_at.result (λ x e.
    let here = last_times x (part_before c.args.n (sequence seqs at.0)) (sym (returns-clause-value c at.0 at.1) ∙ e) in
    member-home s.nodes s.headers ls s.linked at.0 x (omega (arith, here, times_before x c.args.n (sequence seqs at.0))) ∙ sym at.1)
