-- One more node goes after those so far, and the walk comes nearer to the end.
use Rattle.std.proofs.Common.{◌≡◌, ◌<◌, ◌++◌, length, refl, ap, sym, ◌∙◌, arith, slice_set, length-set, [], Some}
use Rattle.std.proofs.lemmas.List.{set-get_or}
use Rattle.execlist.specs.Lists.{sequence, home, ahead, part_after}
use Rattle.execlist.proofs.{CopyLemmas.all_copied, CopyLemmas.free, CopyLemmas.none_copied, CopyLemmas.none_next, CopyLemmas.placed_more, CopyLemmas.split_more, PlainLemmas.home_known, Walks.ahead_shorter, Walks.once_from}
use Rattle.execlist.proofs.copying.copy_sequence.Goals as goal

pub loop-next-init : goal.loop-next-init
loop-next-init g c =
    let old = g.S.ListSpace.sequences c.args.to.now in
    let seq = sequence (g.S.ListSpace.sequences c.args.from.now) c.args.h in
    record {
      placed = sym (set-get_or old c.args.h []);
      split = none_copied old c.args.h c.first-next.result seq c.requires.empty c.first-next.ensures.value;
      next_home = λ x e. rw e at c.first-next.ensures.home;
      nodes = refl;
      keys = refl;
    }

pub add_tail-requires-clause-unlinked : goal.add_tail-requires-clause-unlinked
add_tail-requires-clause-unlinked g c =
    let from = c.args.from.now in
    let n = c.in-Some.n in
    let seq = sequence (g.S.ListSpace.sequences from) c.args.h in
    let all = g.S.ListSpace.sequences c.loop-next.to in
    let own = c.loop-next.invariant.next_home n c.in-Some.is in
    free all (g.S.ListSpace.sequences c.args.to.now) (g.S.ListSpace.homes c.loop-next.to) (g.S.ListSpace.homes c.args.to.now) c.args.h n (part_after n seq) seq
    (g.met.S.ListSpace.stands c.loop-next.to) (g.met.S.ListSpace.stands c.args.to.now) c.loop-next.invariant.placed
    (ap (λ o. sequence all c.args.h ++ ahead o seq) (sym c.in-Some.is) ∙ c.loop-next.invariant.split)
    (once_from seq (home (g.S.ListSpace.homes from)) c.args.h (g.met.S.ListSpace.stands from c.args.h)) (c.requires.unlinked n own)

pub add_tail-requires-clause-node : goal.add_tail-requires-clause-node
add_tail-requires-clause-node g c =
    let from = c.args.from.now in
    let own = c.loop-next.invariant.next_home c.in-Some.n c.in-Some.is in
    omega (arith, home_known (g.S.ListSpace.homes from) c.in-Some.n c.args.h own, c.requires.nodes, c.loop-next.invariant.nodes)

pub add_tail-requires-clause-header : goal.add_tail-requires-clause-header
add_tail-requires-clause-header g c =
    let count = ap length c.loop-next.invariant.placed
    ∙ length-set (g.S.ListSpace.sequences c.args.to.now) c.args.h (sequence (g.S.ListSpace.sequences c.loop-next.to) c.args.h) ∙ c.requires.headers in
    omega (arith, count, c.requires.header)

pub loop-next-smaller : goal.loop-next-smaller
loop-next-smaller g c =
    let from = c.args.from.now in
    let n = c.in-Some.n in
    let seq = sequence (g.S.ListSpace.sequences from) c.args.h in
    let once = once_from seq (home (g.S.ListSpace.homes from)) c.args.h (g.met.S.ListSpace.stands from c.args.h) in
    let own = c.loop-next.invariant.next_home n c.in-Some.is in
    rw (c.in-Some.is, c.succ-next.ensures.value c.args.h own) (ahead_shorter n seq once)

pub loop-next-preserved : goal.loop-next-preserved
loop-next-preserved g c =
    let from = c.args.from.now in
    let n = c.in-Some.n in
    let seq = sequence (g.S.ListSpace.sequences from) c.args.h in
    let old = g.S.ListSpace.sequences c.args.to.now in
    let all = g.S.ListSpace.sequences c.loop-next.to in
    let new = g.S.ListSpace.sequences c.add_tail.new.self in
    let once = once_from seq (home (g.S.ListSpace.homes from)) c.args.h (g.met.S.ListSpace.stands from c.args.h) in
    let own = c.loop-next.invariant.next_home n c.in-Some.is in
    let count = ap length c.loop-next.invariant.placed ∙ length-set old c.args.h (sequence all c.args.h) ∙ c.requires.headers in
    let less : c.args.h < length all = omega (arith, count, c.requires.header) in
    record {
      placed = placed_more all new old c.args.h n less c.loop-next.invariant.placed c.add_tail.ensures.placed;
      split = split_more all new c.args.h n c.succ-next.result seq less once c.add_tail.ensures.placed (c.succ-next.ensures.value c.args.h own)
          (ap (λ o. sequence all c.args.h ++ ahead o seq) (sym c.in-Some.is) ∙ c.loop-next.invariant.split);
      next_home = λ x e. (rw e at c.succ-next.ensures.home) ∙ own;
      nodes = ap length c.add_tail.ensures.homes ∙ length-set (g.S.ListSpace.homes c.loop-next.to) n (Some c.args.h) ∙ c.loop-next.invariant.nodes;
      keys = c.add_tail.ensures.keys ∙ c.loop-next.invariant.keys;
    }

pub returns-clause-copied : goal.returns-clause-copied
returns-clause-copied g c =
    let seq = sequence (g.S.ListSpace.sequences c.args.from.now) c.args.h in
    let all = g.S.ListSpace.sequences c.loop-next.to in
    all_copied all (g.S.ListSpace.sequences c.args.to.now) c.args.h seq c.loop-next.invariant.placed
    (sym (ap (λ o. sequence all c.args.h ++ ahead o seq) (none_next c.loop-next.next c.in_default.not-Some)) ∙ c.loop-next.invariant.split)
