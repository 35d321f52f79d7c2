-- A request waits if it has a home, for the time that is kept for it.
use Rattle.std.proofs.Common.{◌<◌, ap, length, refl, sym, ◌∙◌, Some, arith}
use Rattle.std.proofs.lemmas.List.{get_or_read}
use Rattle.execlist.specs.Lists.{sequence}
use Rattle.timerdev.specs.{Held.Held, Held.due_for, DueTimes.due_of}
use Rattle.timerdev.proofs.DueTimes.{due_at_home, not_due}
use Rattle.timerdev.proofs.timer.Timer.due_of.Goals as goal

pub returns-in-None : goal.returns-in-None
returns-in-None g c =
    let q = c.self.inside in
    not_due (g.S.ListSpace.homes q.queues) q.dues.items (sequence (g.S.ListSpace.sequences q.begun) 0) c.args.r _ refl (c.self.invariant.waits c.args.r)
    (sym c.home.ensures.value ∙ c.in-None.is)
    ∙ ap (λ (held : Held). due_of c.args.r held.timer) c.self.view_is

pub returns-in-Some : goal.returns-in-Some
returns-in-Some g c =
    let q = c.self.inside in
    let known : c.args.r < length q.dues.items = omega (arith, c.requires, ap (λ (held : Held). held.room) c.self.view_is) in
    ap Some (c.due_time.ensures ∙ ap (due_for c.in-Some.h) (get_or_read q.dues.items c.args.r c.index.result.now known c.index.ensures 0))
    ∙ due_at_home (g.S.ListSpace.homes q.queues) q.dues.items (sequence (g.S.ListSpace.sequences q.begun) 0) c.args.r _ refl (c.self.invariant.waits c.args.r)
    c.in-Some.h (sym c.home.ensures.value ∙ c.in-Some.is)
    ∙ ap (λ (held : Held). due_of c.args.r held.timer) c.self.view_is
