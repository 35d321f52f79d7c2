-- The proof of `execsim_open`: the handle has the machine that has started.
use Rattle.std.proofs.Common.{◌∙◌, ap, sym}
use Rattle.execsim_c.specs.declared.session.Session.{Session}
use Rattle.execsim_c.proofs.stepping.execsim_open.Goals as goal

pub returns-in-Ok-clause-ran : goal.returns-in-Ok-clause-ran
returns-in-Ok-clause-ran c = λ is. record {
  session = c.in-Ok.session.value;
  holds = c.put.ensures;
  starts = c.in-Ok.ensures;
  stops = sym (c.is_stopped-stopped.ensures ∙ ap (λ (s : Session). s.machine.seen.stopped) c.deref.ensures) ∙ c.status_if.ensures.ran is;
}

pub returns-in-Ok-clause-alerted : goal.returns-in-Ok-clause-alerted
returns-in-Ok-clause-alerted c = λ is. record {
  session = c.in-Ok.session.value;
  holds = c.put.ensures;
  starts = c.in-Ok.ensures;
  stops = sym (c.is_stopped-stopped.ensures ∙ ap (λ (s : Session). s.machine.seen.stopped) c.deref.ensures) ∙ c.status_if.ensures.alerted is;
}
