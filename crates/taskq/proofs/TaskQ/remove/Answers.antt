-- A ready task leaves its header; any other was in none, and leaving it out changes nothing.
use Rattle.std.proofs.Common.{◌<◌, None, ap, ◌∙◌, sym, arith, length, slice_set}
use Rattle.execlist.specs.{Order.without_item, Lists.home, Lists.sequence}
use Rattle.taskq.specs.{declared.TaskState.TheVariants.Removed, Tasks.home_for}
use Rattle.taskq.proofs.TaskLemmas.{departed, not_there, home_read, home_for_none, known_live, homes_written, written_same, states_kept}
use Rattle.taskq.proofs.TaskQ.remove.Goals.{in-Ready, in_default}
use Rattle.taskq.proofs.TaskQ.remove.Goals as goal

pub invariant_of-self : goal.invariant_of-self
invariant_of-self g c =
    let s = c.self.inside.space in
    let states = c.self.inside.states.items in
    let known : c.args.t < length states = omega (arith, known_live c.args.self.now.states c.args.t c.requires.live, ap (λ q. length q.states) c.self.view_is) in
    let own = home_read (g.S.ListSpace.homes s) states c.args.t c.index.result.now c.self.invariant.ready_held known c.index.ensures in
    let named = c.self.invariant.all_named ∙ sym (states_kept states c.args.t Removed) in
    let removed = sym (homes_written states c.args.t Removed) in
    elim c.match-index.branch [
      | in-Ready w ↦ rw w.self-inside-is (record { one_header = w.remove.ensures.headers ∙ c.self.invariant.one_header; ready_held = w.remove.ensures.homes ∙ ap (λ o. slice_set o c.args.t None) c.self.invariant.ready_held ∙ removed; all_named = named })
      | in_default w ↦ rw w.self-inside-is (record { one_header = c.self.invariant.one_header; ready_held = sym (written_same (g.S.ListSpace.homes s) c.args.t None (own ∙ home_for_none c.index.result.now w.in_default.not-Ready)) ∙ ap (λ o. slice_set o c.args.t None) c.self.invariant.ready_held ∙ removed; all_named = named })
    ]

pub returns-clause-ready : goal.returns-clause-ready
returns-clause-ready g c =
    let s = c.self.inside.space in
    let all = g.S.ListSpace.sequences s in
    let known : c.args.t < length c.self.inside.states.items = omega (arith, known_live c.args.self.now.states c.args.t c.requires.live, ap (λ q. length q.states) c.self.view_is) in
    let own = home_read (g.S.ListSpace.homes s) c.self.inside.states.items c.args.t c.index.result.now c.self.invariant.ready_held known c.index.ensures in
    elim c.match-index.branch [
      | in-Ready w ↦ rw w.self-inside-is (departed all (g.S.ListSpace.sequences w.remove.new.self) (home (g.S.ListSpace.homes s) c.args.t) c.args.t c.self.invariant.one_header (own ∙ ap home_for w.in-Ready.is) w.remove.ensures.taken)
          ∙ ap (λ q. without_item c.args.t q.ready) c.self.view_is
      | in_default w ↦ rw w.self-inside-is (not_there c.args.t (sequence all 0) (home (g.S.ListSpace.homes s) c.args.t) (own ∙ home_for_none c.index.result.now w.in_default.not-Ready) (g.met.S.ListSpace.stands s 0 c.args.t))
          ∙ ap (λ q. without_item c.args.t q.ready) c.self.view_is
    ]
