-- The proof of `execsim_add_task`: the handle has the machine to which the task was added, or it has it as it was.
use Rattle.std.proofs.Common.{rules, ◌≡◌, ◌≤◌, ◌∙◌, arith, length, true, w32, Some, ap, subst, sym}
use Rattle.std.proofs.lemmas.Int.{to_z-of_z}
use mir.Val.{SFits}
use Rattle.execsim.specs.Adding.{new_task}
use Rattle.execsim_c.specs.{Adding.AddsTask, declared.session.Session.Session}
use Rattle.execsim_c.proofs.adding.execsim_add_task.Goals as goal

pub returns-clause-added : goal.returns-clause-added
returns-clause-added c = λ is.
    let fits : SFits w32 c.args.priority = search rules in
    let adds = rw (to_z-of_z w32 c.args.priority fits) at c.add_named-status.ensures.added is in
    record {
      old = c.in-Some.session.value;
      new = _;
      held = sym c.in-Some.ensures.taken;
      holds = c.put.ensures;
      number_is = c.add_named-status.ensures.number is ∙ ap (λ (s : Session). length s.machine.seen.scripts.programs) c.deref_mut.ensures.value;
      adds = subst (λ (s : Session). AddsTask (new_task c.args.name.now c.args.priority) s c.add_named-status.new.session) c.deref_mut.ensures.value adds;
    }

pub returns-clause-stopped : goal.returns-clause-stopped
returns-clause-stopped c = λ is. record {
  session = c.in-Some.session.value;
  held = sym c.in-Some.ensures.taken;
  same = c.put.ensures ∙ (ap Some (c.add_named-status.ensures.same (λ zero. omega (arith, zero, is)) ∙ c.deref_mut.ensures.value) ∙ c.in-Some.ensures.taken);
  shown = subst (λ (s : Session). s.machine.seen.stopped ≡ true) c.deref_mut.ensures.value (c.add_named-status.ensures.stopped is);
}

pub returns-clause-full : goal.returns-clause-full
returns-clause-full c = λ is. record {
  session = c.in-Some.session.value;
  held = sym c.in-Some.ensures.taken;
  same = c.put.ensures ∙ (ap Some (c.add_named-status.ensures.same (λ zero. omega (arith, zero, is)) ∙ c.deref_mut.ensures.value) ∙ c.in-Some.ensures.taken);
  shown = subst (λ (s : Session). 4096 ≤ length s.machine.seen.scripts.programs) c.deref_mut.ensures.value (c.add_named-status.ensures.full is);
}

pub returns-clause-same : goal.returns-clause-same
returns-clause-same c = λ differs.
    c.put.ensures ∙ (ap Some (c.add_named-status.ensures.same differs ∙ c.deref_mut.ensures.value) ∙ c.in-Some.ensures.taken)
