-- The proof of `execsim_feed`: the handle has the machine that is fed, or it has it as it was.
use Rattle.std.proofs.Common.{◌≡◌, ◌∙◌, arith, None, Some, ap, subst, sym}
use Rattle.execsim.specs.Readers.{task_seen}
use Rattle.execsim_c.specs.{Feeding.FeedsLine, declared.session.Session.Session}
use Rattle.execsim_c.proofs.feeding.execsim_feed.Goals as goal

pub returns-clause-fed : goal.returns-clause-fed
returns-clause-fed c = λ is. record {
  old = c.in-Some.session.value;
  new = _;
  held = sym c.in-Some.ensures.taken;
  holds = c.put.ensures;
  feeds = subst (λ (s : Session). FeedsLine c.args.task c.args.line.now s c.feed_line-status.new.session) c.deref_mut.ensures.value (c.feed_line-status.ensures.fed is);
}

pub returns-clause-none : goal.returns-clause-none
returns-clause-none c = λ is. record {
  session = c.in-Some.session.value;
  held = sym c.in-Some.ensures.taken;
  same = c.put.ensures ∙ (ap Some (c.feed_line-status.ensures.same (λ zero. omega (arith, zero, is)) ∙ c.deref_mut.ensures.value) ∙ c.in-Some.ensures.taken);
  shown = subst (λ (s : Session). task_seen c.args.task s.machine.seen ≡ None) c.deref_mut.ensures.value (c.feed_line-status.ensures.none is);
}

pub returns-clause-same : goal.returns-clause-same
returns-clause-same c = λ differs.
    c.put.ensures ∙ (ap Some (c.feed_line-status.ensures.same differs ∙ c.deref_mut.ensures.value) ∙ c.in-Some.ensures.taken)
