-- The walk stops at the first request that is due by then, or has passed them all.
use Rattle.std.proofs.Common.{rules, ◌≡◌, ◌<◌, ◌≤◌, length, arith, sym, ◌∙◌, subst, None}
use Rattle.execlist.specs.Lists.{sequence, home}
use Rattle.execlist.proofs.{Walks.once_from, PlainLemmas.home_known}
use Rattle.timerdev.specs.Held.{due_at}
use Rattle.timerdev.proofs.{Homes.stands_once, Walk.Passed, Walk.walk_begins, Walk.walk_steps, Walk.walk_shorter, Walk.place_first, Walk.place_behind}
use Rattle.timerdev.proofs.place.place_after.Goals as goal

pub bounds-dues-m : goal.bounds-dues-m
bounds-dues-m g c =
    omega (
      arith,
      c.requires.each,
      home_known (g.S.ListSpace.homes c.args.space.now) c.in-Some.m c.args.h
          (c.loop-after.invariant.after_home c.in-Some.m c.in-Some.is),
    )

pub offset_bounds-dues-m : goal.offset_bounds-dues-m
offset_bounds-dues-m g c =
    let l : c.in-Some.m < length c.args.dues.now = omega (
      arith,
      c.requires.each,
      home_known (g.S.ListSpace.homes c.args.space.now)
          c.in-Some.m c.args.h (c.loop-after.invariant.after_home c.in-Some.m c.in-Some.is),
    ) in
    search rules

pub loop-after-init : goal.loop-after-init
loop-after-init g c =
    let space = c.args.space.now in
    let seq = sequence (g.S.ListSpace.sequences space) c.args.h in
    let once = once_from seq (home (g.S.ListSpace.homes space)) c.args.h (g.met.S.ListSpace.stands space c.args.h) in
    record {
      passed = subst (λ o. Passed c.args.dues.now c.args.due o seq) (sym c.last-after.ensures.value)
          (walk_begins c.args.dues.now c.args.due seq once);
      after_home = λ x e. rw e at c.last-after.ensures.home;
    }

pub loop-after-smaller : goal.loop-after-smaller
loop-after-smaller g c =
    let space = c.args.space.now in
    let m = c.in-Some.m in
    let seq = sequence (g.S.ListSpace.sequences space) c.args.h in
    let once = once_from seq (home (g.S.ListSpace.homes space)) c.args.h (g.met.S.ListSpace.stands space c.args.h) in
    let own = c.loop-after.invariant.after_home m c.in-Some.is in
    let here = stands_once (home (g.S.ListSpace.homes space) m) _ c.args.h (g.met.S.ListSpace.stands space c.args.h m) own in
    rw (c.in-Some.is, c.pred-after.ensures.value c.args.h own) (walk_shorter seq m once here)

pub loop-after-preserved : goal.loop-after-preserved
loop-after-preserved g c =
    let space = c.args.space.now in
    let m = c.in-Some.m in
    let dues = c.args.dues.now in
    let seq = sequence (g.S.ListSpace.sequences space) c.args.h in
    let once = once_from seq (home (g.S.ListSpace.homes space)) c.args.h (g.met.S.ListSpace.stands space c.args.h) in
    let own = c.loop-after.invariant.after_home m c.in-Some.is in
    let here = stands_once (home (g.S.ListSpace.homes space) m) _ c.args.h (g.met.S.ListSpace.stands space c.args.h m) own in
    let late : c.args.due < due_at dues m = search rules in
    record {
      passed = subst (λ o. Passed dues c.args.due o seq) (sym (c.pred-after.ensures.value c.args.h own))
          (walk_steps seq m once here dues c.args.due late (subst (λ o. Passed dues c.args.due o seq) c.in-Some.is
          c.loop-after.invariant.passed));
      after_home = λ x e. (rw e at c.pred-after.ensures.home) ∙ own;
    }

pub returns-then-dues-m-clause-place : goal.returns-then-dues-m-clause-place
returns-then-dues-m-clause-place g c =
    let space = c.args.space.now in
    let m = c.in-Some.m in
    let dues = c.args.dues.now in
    let seq = sequence (g.S.ListSpace.sequences space) c.args.h in
    let own = c.loop-after.invariant.after_home m c.in-Some.is in
    let here = stands_once (home (g.S.ListSpace.homes space) m) _ c.args.h (g.met.S.ListSpace.stands space c.args.h m) own in
    let early : due_at dues m ≤ c.args.due = search rules in
    λ r e. place_behind dues r c.args.due seq m here c.requires.sorted e early
    (subst (λ o. Passed dues c.args.due o seq) c.in-Some.is c.loop-after.invariant.passed)

pub returns-clause-place : goal.returns-clause-place
returns-clause-place g c =
    let dues = c.args.dues.now in
    let seq = sequence (g.S.ListSpace.sequences c.args.space.now) c.args.h in
    let none : c.loop-after.after ≡ None = search rules in
    λ r e. place_first dues r c.args.due seq e (subst (λ o. Passed dues c.args.due o seq) none c.loop-after.invariant.passed)
