-- The proof of `execsim_task`: the task is shown if there is one, and the machine stays as it is.
use Rattle.std.proofs.Common.{◌∙◌, Some, ap, sym, option_map}
use Rattle.execsim.specs.Readers.{task_seen}
use Rattle.execsim_c.specs.{Shown.task_shown, declared.session.Session.Session}
use Rattle.execsim_c.proofs.reading.execsim_task.Goals as goal

pub returns-in-Some-found-clause-shown : goal.returns-in-Some-found-clause-shown
returns-in-Some-found-clause-shown c = λ _. record {
  session = c.in-Some.session.value;
  held = sym c.in-Some.ensures.taken;
  same = c.put.ensures ∙ c.in-Some.ensures.taken;
  shown = ap (option_map task_shown) (sym (c.task-found.ensures ∙ ap (λ (s : Session). task_seen c.args.number s.machine.seen) c.deref.ensures) ∙ c.in-Some-found.is)
      ∙ ap Some (sym c.task_of.ensures);
}

pub returns-in-None-found-clause-none : goal.returns-in-None-found-clause-none
returns-in-None-found-clause-none c = λ _. record {
  session = c.in-Some.session.value;
  held = sym c.in-Some.ensures.taken;
  same = c.put.ensures ∙ c.in-Some.ensures.taken;
  shown = sym (c.task-found.ensures ∙ ap (λ (s : Session). task_seen c.args.number s.machine.seen) c.deref.ensures) ∙ c.in-None-found.is;
}
