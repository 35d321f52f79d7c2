-- The proof of `Kernel::serve_all`: all that asks is served, if interrupts are allowed: there are three sources, and no
-- serving sets a latch.
use Rattle.std.proofs.Common.{◌≡◌, ℕ, suc, ◌+◌, ◌-◌, ap, sym, ◌∙◌, arith, subst}
use Rattle.execmodel.specs.Interrupts.{servings}
use Rattle.execsim.specs.Agreement.{Follows, Seen}
use Rattle.execsim.proofs.{Following.guarded_going, Following.guarded_stopped, Serving.all_served, Serving.no_serving_left, Serving.nothing_served, Serving.source_served}
use Rattle.execsim.proofs.kernel.Kernel.serve_all.Goals as goal

pub loop-turn-init : goal.loop-turn-init
loop-turn-init g c = λ left e n t follows.
    let all : left ≡ 3 = omega (arith, e) in
    subst (λ (k : ℕ). Follows g.W.Witness.hearing (servings k) c.args.self.now n (g.W.Witness.told c.args.out.now) t) all follows

pub returns-in-None : goal.returns-in-None
returns-in-None g c =
    let turn = c.loop-turn._turn in
    let left : suc (2 - turn) + turn ≡ 3 = omega (arith, c.loop-turn-test.true) in
    all_served (c.loop-turn.invariant (suc (2 - turn)) left _ _
    (nothing_served (2 - turn) _ (rw c.in-None.is at c.take_request.ensures.answer) (rw c.in-None.is at c.take_request.ensures.next)))

pub returns-then-self : goal.returns-then-self
returns-then-self g c =
    let turn = c.loop-turn._turn in
    let left : suc (2 - turn) + turn ≡ 3 = omega (arith, c.loop-turn-test.true) in
    let stopped = ap (λ (m : Seen). m.stopped) (sym c.self.view_is) ∙ c.if-self.true in
    all_served (c.loop-turn.invariant (suc (2 - turn)) left _ _
    (source_served (2 - turn) _ (rw c.in-Some.is at c.take_request.ensures.answer) (rw c.in-Some.is at c.take_request.ensures.next)
    c.serve.ensures (guarded_stopped _ stopped)))

pub loop-turn-preserved : goal.loop-turn-preserved
loop-turn-preserved g c = λ left e n t follows.
    let more : suc left + c.loop-turn._turn ≡ 3 = omega (arith, e) in
    let going = ap (λ (m : Seen). m.stopped) (sym c.self.view_is) ∙ c.if-self.false in
    c.loop-turn.invariant (suc left) more n t
    (source_served left _ (rw c.in-Some.is at c.take_request.ensures.answer) (rw c.in-Some.is at c.take_request.ensures.next)
    c.serve.ensures (guarded_going going follows))

pub returns : goal.returns
returns g c =
    let none : 0 + c.loop-turn._turn ≡ 3 = omega (arith, c.loop-turn-test.false, c.loop-turn.auto) in
    all_served (c.loop-turn.invariant 0 none _ _ (no_serving_left _ _))
