-- There is no task of that number, so none is after it.
use Rattle.std.proofs.Common.{◌≡◌, ◌≤◌, ℕ, cond, length, None, ap, sym, ◌∙◌, arith, slice_index_or}
use Rattle.execlist.specs.{Order.first, Lists.home, Lists.is_at, Lists.part_after, Lists.sequence}
use Rattle.execlist.proofs.Walks.{absent_after}
use Rattle.taskq.specs.Tasks.{Tasks}
use Rattle.taskq.proofs.TaskLemmas.{home_beyond}
use Rattle.taskq.proofs.TaskQ.next_ready.Goals as goal

pub returns-else-t-len-clause-value : goal.returns-else-t-len-clause-value
returns-else-t-len-clause-value g c =
    let s = c.self.inside.space in
    let t = c.args.t in
    let far : length c.self.inside.states.items ≤ t = omega (arith, c.if-t-len.false, c.len.ensures) in
    let nowhere : home (g.S.ListSpace.homes s) t ≡ None = ap (λ o. slice_index_or o t None) c.self.invariant.ready_held ∙ home_beyond c.self.inside.states.items t far in
    sym (ap first (absent_after t (sequence (g.S.ListSpace.sequences s) 0) (g.met.S.ListSpace.stands s 0 t ∙ ap {B = ℕ} (λ o. cond (is_at o 0) 1 0) nowhere)))
    ∙ ap (λ (q : Tasks). first (part_after t q.ready)) c.self.view_is
