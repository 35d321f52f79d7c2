-- The schedule is that with one more task.
use Rattle.std.proofs.Common.{◌≡◌, ◌∙◌, ◌∷◌, ◌++◌, [], ap, sym, refl}
use Rattle.signals.specs.Signals.{initial_sets}
use Rattle.forbid.specs.Nesting.{initial_nesting}
use Rattle.scheduler.specs.{Joining.joined_by, Schedule.Schedule}
use Rattle.scheduler.proofs.Joining.{joined, joined_sound}
use Rattle.scheduler.proofs.Sched.with_new_task.Goals as goal

pub invariant_of-result : goal.invariant_of-result
invariant_of-result g c =
    let own = c.self.inside in
    let sets = c.in_ok-signals.ensures ∙ ap (λ (y : Schedule). y.signals ++ initial_sets ∷ []) (sym c.self.view_is) in
    let nests = c.in_ok-nests.ensures ∙ ap (λ (y : Schedule). y.nestings ++ initial_nesting ∷ []) (sym c.self.view_is) in
    (joined_sound own.queue.states _ own.running own.signals.items _ own.nests.items _ c.in_ok-queue.ensures.states sets nests c.self.invariant.0, refl)

pub returns : goal.returns
returns g c =
    let e = c.in_ok-queue.ensures in
    let own = c.self.inside in
    let y : Schedule = record {
      queue = own.queue;
      running = own.running;
      signals = own.signals.items;
      nestings = own.nests.items;
      quantum = own.quantum;
      left = own.left;
      idle = own.idle;
    } in
    let sets = c.in_ok-signals.ensures ∙ ap (λ (x : Schedule). x.signals ++ initial_sets ∷ []) (sym c.self.view_is) in
    let nests = c.in_ok-nests.ensures ∙ ap (λ (x : Schedule). x.nestings ++ initial_nesting ∷ []) (sym c.self.view_is) in
    joined c.args.task.pri c.args.task.name.bytes y _ _ _ e.ready e.states e.pris e.names sets nests
    ∙ ap (joined_by c.args.task.pri c.args.task.name.bytes) c.self.view_is
