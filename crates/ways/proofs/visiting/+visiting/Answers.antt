-- The proof of `+visiting`.
use Rattle.std.proofs.Common.{◌≡◌, ◌++◌, ◌-◌, suc, arith, ap, refl, drop, map, fold}
use Rattle.std.proofs.lemmas.Grind.{common_steps}
use Rattle.ways.specs.{Ways.exactly, Ways.passes, Windows.passing}
use Rattle.ways.proofs.{WayLemmas.front_longer, WayLemmas.front_kept, WayLemmas.kind_more, WayLemmas.place_more, Skips.none_left, Skips.all_skipped}
use Rattle.ways.proofs.visiting.+visiting.Goals as goal

pub visit_from-loop-at-preserved : goal.visit_from-loop-at-preserved
visit_from-loop-at-preserved g t c =
    let before = c.loop-at.invariant in
    let called = c.in_ok-visit_here.ensures in
    let pushed = c.in_ok-push.ensures.items in
    record {
      longer = front_longer _ c.loop-at.way.items c.visit_here.new.way.items c.push.new.self.items _ called.way pushed before.longer;
      front = front_kept _ _ c.loop-at.way.items c.visit_here.new.way.items c.push.new.self.items _ called.way pushed before.longer before.front;
      rest = place_more (passes g.V.Visitor.after) (passing c.loop-at.window c.loop-at.visitor) (passing c.visit_here.new.window c.visit_here.new.visitor) c.loop-at.way.items c.visit_here.new.way.items c.push.new.self.items
          c.args.kinds.now c.args.actions.now (c.args.extras - 1) c.loop-at.at _ _ _ called.way pushed c.loop-at-test.true refl before.rest called.visits;
    }

pub visit_here-loop-kind-preserved : goal.visit_here-loop-kind-preserved
visit_here-loop-kind-preserved g t c =
    let before = c.loop-kind.invariant in
    let pushed = c.in_ok-push.ensures.items in
    record {
      way = grind (arith, common_steps);
      visits = kind_more (passes g.V.Visitor.after) (passing c.args.window.now c.args.visitor.now) (passing c.loop-kind.window c.loop-kind.visitor) (passing c.visit_from.new.window c.visit_from.new.visitor) c.args.way.now.items c.loop-kind.way.items c.push.new.self.items
          c.args.kinds.now c.loop-kind.kind-index _ _ (exactly c.args.kinds.now c.args.more (drop c.args.at c.args.actions.now)) c.loop-kind-test.true refl before.way pushed before.visits c.in_ok-visit_from.ensures.visits;
    }

pub visit_from-returns-then-window-eq0-clause-visits : goal.visit_from-returns-then-window-eq0-clause-visits
visit_from-returns-then-window-eq0-clause-visits g t c =
    none_left g.V.Visitor.after c.args.kinds.now c.args.actions.now c.args.extras c.args.from c.args.way.now.items
    c.args.window.now.skip c.args.window.now.left c.size-size.result c.args.sizes.now.kinds _ c.args.visitor.now c.requires.kinds c.size-size.ensures c.if-window-eq0.true c.saturating_sub-window.ensures

pub visit_from-returns-then-window-size-clause-visits : goal.visit_from-returns-then-window-size-clause-visits
visit_from-returns-then-window-size-clause-visits g t c =
    all_skipped g.V.Visitor.after c.args.kinds.now c.args.actions.now c.args.extras c.args.from c.args.way.now.items
    c.args.window.now.skip c.args.window.now.left c.size-size.result c.args.sizes.now.kinds _ c.args.visitor.now c.requires.kinds c.size-size.ensures c.if-window-size.true refl

pub visit_from-loop-at-init : goal.visit_from-loop-at-init
visit_from-loop-at-init g t c =
    let some : suc (c.args.extras - 1) ≡ c.args.extras = omega (arith, c.if-extras-eq0.false) in
    record {
      longer = omega arith;
      front = grind (arith, common_steps);
      rest = ap (λ n. fold (passes g.V.Visitor.after) (passing c.args.window.now c.args.visitor.now) (map (λ rest. c.args.way.now.items ++ rest) (exactly c.args.kinds.now n (drop c.args.from c.args.actions.now)))) some;
    }
