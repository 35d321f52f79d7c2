-- The proof of `execsim_message`: the next message is shown, and the machine stays as it is.
use Rattle.std.proofs.Common.{◌∙◌, Option, ℕ, ap, sym}
use Rattle.execlist.specs.{Lists.part_from, Order.first}
use Rattle.execmodel.specs.Ports.{messages_of}
use Rattle.execsim_c.specs.{Objects.address_shown, Objects.next_message, declared.session.Session.Session}
use Rattle.execsim_c.proofs.objects.execsim_message.Goals as goal

pub returns-clause-shown : goal.returns-clause-shown
returns-clause-shown c = λ _. record {
  session = c.in-Some.session.value;
  held = sym c.in-Some.ensures.taken;
  same = c.put.ensures ∙ c.in-Some.ensures.taken;
  shown = c.address_of.ensures
      ∙ ap address_shown (c.message_after.ensures
      ∙ ap (λ (o : Option ℕ). first (part_from o (messages_of c.args.port c.deref.result.now.machine.seen.memory.heap))) c.asked.ensures
      ∙ ap (λ (s : Session). next_message c.args.port c.args.after s.machine.seen) c.deref.ensures);
}
