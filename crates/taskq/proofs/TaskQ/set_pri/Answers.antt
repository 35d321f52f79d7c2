-- A ready task leaves its header and is enqueued by its new priority; for any other nothing moves.
use Rattle.std.proofs.Common.{◌≡◌, ◌<◌, ap, ◌∙◌, sym, arith, length}
use Rattle.std.proofs.lemmas.Bool.{cond-true, cond-false}
use Rattle.execlist.specs.{Order.enqueue, Order.without_item, Lists.home, Lists.sequence, Disciplines.pri_at}
use Rattle.taskq.specs.Tasks.{home_for, is_ready, state_at, pris_of}
use Rattle.taskq.proofs.TaskLemmas.{arrived, departed, home_read, state_read, is_ready_false}
use Rattle.taskq.proofs.TaskQ.set_pri.Goals as goal

pub returns-in-Ready-clause-ready : goal.returns-in-Ready-clause-ready
returns-in-Ready-clause-ready g c =
    let s = c.self.inside.space in
    let all = g.S.ListSpace.sequences s in
    let left = g.S.ListSpace.sequences c.remove.new.self in
    let put = g.S.ListSpace.sequences c.set_key.new.self in
    let keys = g.S.ListSpace.keys c.set_key.new.self in
    let known : c.args.t < length c.self.inside.states.items = omega (arith, c.requires, ap (λ q. length q.states) c.self.view_is) in
    let state = state_read c.self.inside.states.items c.args.t c.index.result.now known c.index.ensures in
    let own = home_read (g.S.ListSpace.homes s) c.self.inside.states.items c.args.t c.index.result.now c.self.invariant.ready_held known c.index.ensures in
    let gone = departed all left (home (g.S.ListSpace.homes s) c.args.t) c.args.t c.self.invariant.one_header (own ∙ ap home_for c.in-Ready.is) c.remove.ensures.taken in
    let rest = ap (λ l. sequence l 0) c.set_key.ensures.sequences ∙ gone ∙ ap (λ q. without_item c.args.t q.ready) c.self.view_is in
    let one : length put ≡ 1 = ap length c.set_key.ensures.sequences ∙ c.remove.ensures.headers ∙ c.self.invariant.one_header in
    arrived put (g.S.ListSpace.sequences c.enqueue.new.self) keys c.args.t one c.enqueue.ensures.placed
    ∙ ap (λ l. enqueue (pri_at (pris_of keys)) l c.args.t) rest
    ∙ ap (λ k. enqueue (pri_at (pris_of k)) (without_item c.args.t c.args.self.now.ready) c.args.t) (sym c.enqueue.ensures.keys)
    ∙ sym (cond-true _ _ _ (ap (λ q. is_ready (state_at q.states c.args.t)) (sym c.self.view_is) ∙ ap is_ready (state ∙ c.in-Ready.is)))

pub returns-in_default-clause-ready : goal.returns-in_default-clause-ready
returns-in_default-clause-ready g c =
    let s = c.self.inside.space in
    let known : c.args.t < length c.self.inside.states.items = omega (arith, c.requires, ap (λ q. length q.states) c.self.view_is) in
    let state = state_read c.self.inside.states.items c.args.t c.index.result.now known c.index.ensures in
    let never = is_ready_false c.index.result.now c.in_default.not-Ready in
    ap (λ l. sequence l 0) c.set_key-in_default.ensures.sequences ∙ ap (λ q. q.ready) c.self.view_is
    ∙ sym (cond-false _ _ _ (ap (λ q. is_ready (state_at q.states c.args.t)) (sym c.self.view_is) ∙ ap is_ready state ∙ never))
