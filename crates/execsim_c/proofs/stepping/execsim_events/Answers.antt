-- The proof of `execsim_events`: the machine of the handle has done the events.
use Rattle.std.proofs.Common.{◌∙◌, List, Some, ap, subst, sym}
use Rattle.script.specs.declared.event.Event.{Event}
use Rattle.execmodel.specs.Step.{events}
use Rattle.execsim_c.specs.{Stepping.Does, declared.session.Session.Session}
use Rattle.execsim_c.proofs.stepping.execsim_events.Goals as goal

pub returns-in-Ok-after-clause-ran : goal.returns-in-Ok-after-clause-ran
returns-in-Ok-after-clause-ran c = λ is.
    let old = c.in-Some.session.value in
    let new = c.in-Ok-after.session.value in
    record {
      list = c.in-Ok.events;
      old = old;
      new = new;
      reads = c.in-Ok.ensures.0;
      held = sym c.in-Some.ensures.taken;
      holds = c.put.ensures;
      does = subst (λ (l : List Event). Does (events l) old.machine.seen new.machine.seen (Some old.lines.items) (Some new.lines.items)) c.list.ensures.events c.in-Ok-after.ensures;
      stops = sym (c.is_stopped-stopped.ensures ∙ ap (λ (s : Session). s.machine.seen.stopped) c.deref-in-Ok-after.ensures) ∙ c.status_if.ensures.ran is;
    }

pub returns-in-Ok-after-clause-alerted : goal.returns-in-Ok-after-clause-alerted
returns-in-Ok-after-clause-alerted c = λ is.
    let old = c.in-Some.session.value in
    let new = c.in-Ok-after.session.value in
    record {
      list = c.in-Ok.events;
      old = old;
      new = new;
      reads = c.in-Ok.ensures.0;
      held = sym c.in-Some.ensures.taken;
      holds = c.put.ensures;
      does = subst (λ (l : List Event). Does (events l) old.machine.seen new.machine.seen (Some old.lines.items) (Some new.lines.items)) c.list.ensures.events c.in-Ok-after.ensures;
      stops = sym (c.is_stopped-stopped.ensures ∙ ap (λ (s : Session). s.machine.seen.stopped) c.deref-in-Ok-after.ensures) ∙ c.status_if.ensures.alerted is;
    }
