-- The proof of `execsim_view`: the machine is shown, and stays as it is.
use Rattle.std.proofs.Common.{◌∙◌, ap, sym}
use Rattle.execsim.specs.Readers.{machine_view}
use Rattle.execsim_c.specs.{Shown.machine_shown, declared.session.Session.Session}
use Rattle.execsim_c.proofs.reading.execsim_view.Goals as goal

pub returns-clause-shown : goal.returns-clause-shown
returns-clause-shown c = λ _. record {
  session = c.in-Some.session.value;
  held = sym c.in-Some.ensures.taken;
  same = c.put.ensures ∙ c.in-Some.ensures.taken;
  shown = c.machine_of.ensures ∙ ap machine_shown (c.view.ensures ∙ ap (λ (s : Session). machine_view s.machine.seen) c.deref.ensures);
}
