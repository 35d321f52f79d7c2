-- The walk stops at the first request, or has seen all that are before the second.
use Rattle.std.proofs.Common.{rules, ◌≡◌, sym, ◌∙◌, subst, None}
use Rattle.execlist.specs.Lists.{sequence, home}
use Rattle.execlist.proofs.Walks.{once_from}
use Rattle.timerdev.proofs.{Homes.stands_once, Walk.Tells, Walk.walk_shorter, Walk.tells_first, Walk.tells_further, Walk.tells_here, Walk.tells_none}
use Rattle.timerdev.proofs.first.is_before.Goals as goal

pub loop-next-init : goal.loop-next-init
loop-next-init g c =
    let space = c.args.space.now in
    let b = c.args.b in
    let seq = sequence (g.S.ListSpace.sequences space) 0 in
    let once = once_from seq (home (g.S.ListSpace.homes space)) 0 (g.met.S.ListSpace.stands space 0) in
    let here = stands_once (home (g.S.ListSpace.homes space) b) _ 0 (g.met.S.ListSpace.stands space 0 b) c.requires in
    record {
      tells = subst (λ o. Tells c.args.a b o seq) (sym (c.pred-next.ensures.value 0 c.requires)) (tells_first seq b once here c.args.a);
      next_home = λ x e. (rw e at c.pred-next.ensures.home) ∙ c.requires;
    }

pub loop-next-smaller : goal.loop-next-smaller
loop-next-smaller g c =
    let space = c.args.space.now in
    let m = c.in-Some.m in
    let seq = sequence (g.S.ListSpace.sequences space) 0 in
    let once = once_from seq (home (g.S.ListSpace.homes space)) 0 (g.met.S.ListSpace.stands space 0) in
    let own = c.loop-next.invariant.next_home m c.in-Some.is in
    let here = stands_once (home (g.S.ListSpace.homes space) m) _ 0 (g.met.S.ListSpace.stands space 0 m) own in
    rw (c.in-Some.is, c.pred-next-in-Some.ensures.value 0 own) (walk_shorter seq m once here)

pub loop-next-preserved : goal.loop-next-preserved
loop-next-preserved g c =
    let space = c.args.space.now in
    let m = c.in-Some.m in
    let a = c.args.a in
    let b = c.args.b in
    let seq = sequence (g.S.ListSpace.sequences space) 0 in
    let once = once_from seq (home (g.S.ListSpace.homes space)) 0 (g.met.S.ListSpace.stands space 0) in
    let own = c.loop-next.invariant.next_home m c.in-Some.is in
    let here = stands_once (home (g.S.ListSpace.homes space) m) _ 0 (g.met.S.ListSpace.stands space 0 m) own in
    record {
      tells = subst (λ o. Tells a b o seq) (sym (c.pred-next-in-Some.ensures.value 0 own))
          (tells_further seq m once here a b (search rules) (subst (λ o. Tells a b o seq) c.in-Some.is c.loop-next.invariant.tells));
      next_home = λ x e. (rw e at c.pred-next-in-Some.ensures.home) ∙ own;
    }

pub returns-then-m-a : goal.returns-then-m-a
returns-then-m-a g c =
    let seq = sequence (g.S.ListSpace.sequences c.args.space.now) 0 in
    sym (tells_here c.args.a c.args.b c.in-Some.m seq (search rules)
    (subst (λ o. Tells c.args.a c.args.b o seq) c.in-Some.is c.loop-next.invariant.tells))

pub returns : goal.returns
returns g c =
    let seq = sequence (g.S.ListSpace.sequences c.args.space.now) 0 in
    let none : c.loop-next.next ≡ None = search rules in
    sym (tells_none c.args.a c.args.b seq (subst (λ o. Tells c.args.a c.args.b o seq) none c.loop-next.invariant.tells))
