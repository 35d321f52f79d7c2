-- One more header holds the same sequence; in the end all do, and so each node is in the same header.
use Rattle.std.proofs.Common.{◌≡◌, ℕ, ◌<◌, ◌≤◌, ◌+◌, [], length, refl, ap, sym, ◌∙◌, arith, subst, replicate, length-set}
use Rattle.std.proofs.lemmas.List.{length-replicate}
use Rattle.execlist.specs.Lists.{sequence}
use Rattle.execlist.proofs.CopyLemmas.{empty_at, front_more, homes_copied, rest_more, same_lists, unlinked}
use Rattle.execlist.proofs.copying.copy_sequences.Goals as goal

pub loop-h-init : goal.loop-h-init
loop-h-init g c =
    let empty = c.requires.empty in
    record {
      front = λ k less. absurd (omega (arith, less));
      rest = λ k least. ap (λ all. sequence all k) empty ∙ empty_at c.args.headers k;
      headers = ap length empty ∙ length-replicate c.args.headers [] ∙ c.requires.headers;
      nodes = refl;
      keys = refl;
    }

pub copy_sequence-requires-clause-header : goal.copy_sequence-requires-clause-header
copy_sequence-requires-clause-header g c = omega (arith, c.loop-h-test.true, c.requires.headers)

pub copy_sequence-requires-clause-nodes : goal.copy_sequence-requires-clause-nodes
copy_sequence-requires-clause-nodes g c = omega (arith, c.loop-h.invariant.nodes, c.requires.nodes)

pub copy_sequence-requires-clause-empty : goal.copy_sequence-requires-clause-empty
copy_sequence-requires-clause-empty g c = c.loop-h.invariant.rest c.loop-h.h (omega arith)

pub copy_sequence-requires-clause-unlinked : goal.copy_sequence-requires-clause-unlinked
copy_sequence-requires-clause-unlinked g c = λ n own.
    unlinked (g.S.ListSpace.sequences c.loop-h.to) (g.S.ListSpace.sequences c.args.from.now) (g.S.ListSpace.homes c.loop-h.to) (g.S.ListSpace.homes c.args.from.now)
    c.loop-h.h n (g.met.S.ListSpace.stands c.loop-h.to) (g.met.S.ListSpace.stands c.args.from.now) c.loop-h.invariant.front c.loop-h.invariant.rest own

pub loop-h-preserved : goal.loop-h-preserved
loop-h-preserved g c =
    let all = g.S.ListSpace.sequences c.loop-h.to in
    let from = g.S.ListSpace.sequences c.args.from.now in
    let new = g.S.ListSpace.sequences c.copy_sequence.new.to in
    let less : c.loop-h.h < length all = omega (arith, c.loop-h-test.true, c.requires.headers, c.loop-h.invariant.headers) in
    record {
      front = front_more all new from c.loop-h.h less c.copy_sequence.ensures.copied c.loop-h.invariant.front;
      rest = rest_more all new c.loop-h.h (sequence from c.loop-h.h) c.copy_sequence.ensures.copied c.loop-h.invariant.rest;
      headers = ap length c.copy_sequence.ensures.copied ∙ length-set all c.loop-h.h (sequence from c.loop-h.h) ∙ c.loop-h.invariant.headers;
      nodes = c.copy_sequence.ensures.nodes ∙ c.loop-h.invariant.nodes;
      keys = c.copy_sequence.ensures.keys ∙ c.loop-h.invariant.keys;
    }

pub returns-clause-sequences : goal.returns-clause-sequences
returns-clause-sequences g c =
    same_lists [] (g.S.ListSpace.sequences c.loop-h.to) (g.S.ListSpace.sequences c.args.from.now) c.loop-h.invariant.headers
    (λ k less. c.loop-h.invariant.front k (omega (arith, less, c.requires.headers, c.loop-h-test.false)))

pub returns-clause-homes : goal.returns-clause-homes
returns-clause-homes g c =
    let all = g.S.ListSpace.sequences c.loop-h.to in
    let from = g.S.ListSpace.sequences c.args.from.now in
    homes_copied all from (g.S.ListSpace.homes c.loop-h.to) (g.S.ListSpace.homes c.args.from.now) (g.met.S.ListSpace.stands c.loop-h.to)
    (g.met.S.ListSpace.stands c.args.from.now)
    (same_lists [] all from c.loop-h.invariant.headers (λ k less. c.loop-h.invariant.front k (omega (arith, less, c.requires.headers, c.loop-h-test.false))))
    (c.loop-h.invariant.nodes ∙ c.requires.nodes)
