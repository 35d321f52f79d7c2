-- Each walk comes one node nearer to the other, and what is sought is among the nodes between them or in `found`.
use Rattle.std.proofs.Common.{◌≡◌, ℕ, ◌<◌, Bool, Some, cond, refl, ap, sym, ◌∙◌, subst, length, None, find, ne_eqb}
use Rattle.std.proofs.lemmas.Bool.{cond-true, cond-false}
use Rattle.execlist.specs.{Lists.sequence, Lists.home, Lists.key_at, Lists.ahead, Lists.part_before, Lists.part_from, DigestKeys.keys_in, Chains.lists_of, Chains.homes_of, Chains.node_at}
use Rattle.execlist.proofs.link.LinkSpace.first_sought.Goals.{then-is_sought-2, else-is_sought-2}
use Rattle.execlist.proofs.{PlainLemmas.last_none, LinkLemmas.node-known, LinkLemmas.node-none, Walks.ahead_shorter, Walks.once_from, Walks.from_last, Walks.from_before, Walks.in_sequence, Walks.front_step, Walks.back_step, Walks.last_ahead, Walks.nearer, Walks.has_last, Walks.not_first, Walks.before_ahead}
use Rattle.execlist.proofs.link.LinkSpace.first_sought.Goals as goal

pub returns-in_err-back-clause-value : goal.returns-in_err-back-clause-value
returns-in_err-back-clause-value g c =
    let s = c.args.self.now in
    let seq = sequence (lists_of s.block.links s.nodes s.headers) c.args.h in
    let inside = in_sequence _ (home (homes_of s.block.links s.nodes) c.args.from) c.args.h (s.stands c.args.h c.args.from) c.requires.home in
    absurd (has_last c.args.from seq inside (sym c.last.ensures.value ∙ c.in_err-back.was))

pub loop-h-init : goal.loop-h-init
loop-h-init g c =
    let s = c.args.self.now in
    let seq = sequence (lists_of s.block.links s.nodes s.headers) c.args.h in
    let homes = homes_of s.block.links s.nodes in
    let wanted : ℕ → Bool = (λ m. g.W.Sought.wanted c.args.wanted.now (key_at (keys_in s.nodes s.keys.items) m)) in
    let once = once_from seq (home homes) c.args.h (s.stands c.args.h) in
    let inside = in_sequence _ (home homes c.args.from) c.args.h (s.stands c.args.h c.args.from) c.requires.home in
    let at_end = c.in_ok-back.ensures.value in
    record {
      sought = refl;
      kept = node-none s.nodes ∙ ap (find wanted) (sym (ap (λ o. part_from o seq) at_end ∙ from_last seq once));
      between = last_ahead c.args.from c.in_ok-back.back seq (sym at_end) inside;
      next_home = c.requires.home;
      back_home = c.in_ok-back.ensures.home;
      found_home = λ x e. let none : None ≡ Some x = sym (node-none s.nodes) ∙ e in cc;
    }

pub loop-h-smaller : goal.loop-h-smaller
loop-h-smaller g c =
    let s = c.args.self.now in
    let m = c.loop-h.next in
    let seq = sequence (lists_of s.block.links s.nodes s.headers) c.args.h in
    let once = once_from seq (home (homes_of s.block.links s.nodes)) c.args.h (s.stands c.args.h) in
    let step = c.in_ok-next.ensures.value c.args.h c.loop-h.invariant.next_home in
    subst (λ o. length (ahead o seq) < length (ahead (Some m) seq)) (sym step) (ahead_shorter m seq once)

pub returns-then-next-back-2-clause-value : goal.returns-then-next-back-2-clause-value
returns-then-next-back-2-clause-value g c =
    let s = c.args.self.now in
    let seq = sequence (lists_of s.block.links s.nodes s.headers) c.args.h in
    let homes = homes_of s.block.links s.nodes in
    let wanted : ℕ → Bool = (λ m. g.W.Sought.wanted c.args.wanted.now (key_at (keys_in s.nodes s.keys.items) m)) in
    let once = once_from seq (home homes) c.args.h (s.stands c.args.h) in
    let l = c.loop-h in
    let step = c.in_ok-next.ensures.value c.args.h l.invariant.next_home in
    let sought = l.invariant.sought ∙ front_step wanted seq l.next (Some c.in_ok-next.next) once (sym c.is_sought.ensures ∙ c.if-is_sought.false) step in
    let known = node-known s.block.links s.nodes l.back c.args.h l.invariant.back_home in
    let chosen : node_at s.nodes c.if-is_sought-2.found ≡ cond c.is_sought-in-loop-h.result (Some l.back) (node_at s.nodes l.found) =
    elim c.if-is_sought-2.branch [
      | then-is_sought-2 w ↦ ap (node_at s.nodes) w.found-is ∙ known ∙ sym (cond-true _ _ _ w.if-is_sought-2.true)
      | else-is_sought-2 w ↦ ap (node_at s.nodes) w.found-is ∙ sym (cond-false _ _ _ w.if-is_sought-2.false)
    ] in
    c.node_of-then-next-back-2.ensures ∙ chosen ∙ back_step wanted seq l.back (node_at s.nodes l.found) c.is_sought-in-loop-h.result l.invariant.kept c.is_sought-in-loop-h.ensures
    ∙ ap (λ n. find wanted (ahead (Some n) seq)) (sym c.if-next-back-2.true) ∙ sym sought

pub returns-in_err-back-2-clause-value : goal.returns-in_err-back-2-clause-value
returns-in_err-back-2-clause-value g c =
    let s = c.args.self.now in
    let seq = sequence (lists_of s.block.links s.nodes s.headers) c.args.h in
    let once = once_from seq (home (homes_of s.block.links s.nodes)) c.args.h (s.stands c.args.h) in
    let l = c.loop-h in
    let step = c.in_ok-next.ensures.value c.args.h l.invariant.next_home in
    let inside = nearer l.next c.in_ok-next.next l.back seq once (ne_eqb _ _ c.if-next-back.false) (ne_eqb _ _ c.if-next-back-2.false) step l.invariant.between in
    let none = last_none (part_before l.back seq) (sym (c.in_err-back-2.ensures.value c.args.h l.invariant.back_home)) in
    absurd (not_first c.in_ok-next.next l.back seq once inside none)

pub loop-h-preserved : goal.loop-h-preserved
loop-h-preserved g c =
    let s = c.args.self.now in
    let seq = sequence (lists_of s.block.links s.nodes s.headers) c.args.h in
    let homes = homes_of s.block.links s.nodes in
    let wanted : ℕ → Bool = (λ m. g.W.Sought.wanted c.args.wanted.now (key_at (keys_in s.nodes s.keys.items) m)) in
    let once = once_from seq (home homes) c.args.h (s.stands c.args.h) in
    let l = c.loop-h in
    let step = c.in_ok-next.ensures.value c.args.h l.invariant.next_home in
    let sought = l.invariant.sought ∙ front_step wanted seq l.next (Some c.in_ok-next.next) once (sym c.is_sought.ensures ∙ c.if-is_sought.false) step in
    let known = node-known s.block.links s.nodes l.back c.args.h l.invariant.back_home in
    let chosen : node_at s.nodes c.if-is_sought-2.found ≡ cond c.is_sought-in-loop-h.result (Some l.back) (node_at s.nodes l.found) =
    elim c.if-is_sought-2.branch [
      | then-is_sought-2 w ↦ ap (node_at s.nodes) w.found-is ∙ known ∙ sym (cond-true _ _ _ w.if-is_sought-2.true)
      | else-is_sought-2 w ↦ ap (node_at s.nodes) w.found-is ∙ sym (cond-false _ _ _ w.if-is_sought-2.false)
    ] in
    let kept = chosen ∙ back_step wanted seq l.back (node_at s.nodes l.found) c.is_sought-in-loop-h.result l.invariant.kept c.is_sought-in-loop-h.ensures in
    let before = c.in_ok-back-2.ensures.value c.args.h l.invariant.back_home in
    let inside = in_sequence _ (home homes l.back) c.args.h (s.stands c.args.h l.back) l.invariant.back_home in
    let ahead_of = nearer l.next c.in_ok-next.next l.back seq once (ne_eqb _ _ c.if-next-back.false) (ne_eqb _ _ c.if-next-back-2.false) step l.invariant.between in
    record {
      sought = sought;
      kept = kept ∙ ap (find wanted) (sym (from_before l.back seq once inside) ∙ ap (λ o. part_from o seq) (sym before));
      between = before_ahead c.in_ok-next.next l.back c.in_ok-back-2.back seq once ahead_of (sym before);
      next_home = c.in_ok-next.ensures.home ∙ l.invariant.next_home;
      back_home = c.in_ok-back-2.ensures.home ∙ l.invariant.back_home;
      found_home = λ x e. elim c.if-is_sought-2.branch [
        | then-is_sought-2 w ↦ let here : Some l.back ≡ Some x = sym known ∙ sym (ap (node_at s.nodes) w.found-is) ∙ e in let same : l.back ≡ x = cc in ap (home homes) (sym same) ∙ l.invariant.back_home
        | else-is_sought-2 w ↦ l.invariant.found_home x (sym (ap (node_at s.nodes) w.found-is) ∙ e)
      ];
    }
