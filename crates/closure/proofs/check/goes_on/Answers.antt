-- The walker is where the events come, and the kind leads from there to what was found.
use Rattle.std.proofs.Common.{rules, ◌≡◌, ◌∙◌, true, subst, sym}
use Rattle.script.specs.{File.MachineData, declared.event.Event.Event}
use Rattle.closure.specs.Closed.{Leads, lines_of}
use Rattle.closure.proofs.check.goes_on.Goals as goal

pub returns-clause-goes : goal.returns-clause-goes
returns-clause-goes g c = λ is one place.
    let walked : c.in_ok-walk.field-0 ≡ true = search rules in
    let told : c.in_ok-is_at.field-0 ≡ true = search rules in
    let at = c.in_ok-is_at.ensures told in
    let led = c.in_ok-led.ensures.leads is in
    let same = c.in-Some.ensures.lookup.1 ∙ place c.in-Some.one.now in
    record {
      walker = c.walk.new.walker;
      of = c.walk.ensures.same;
      is = sym at.same;
      list = c.args.list.now;
      there = c.in_ok-walk.ensures.there walked;
      leads = λ others there.
          subst (λ (machine : MachineData). Leads g.W.Walker.machine_of g.W.Walker.stands g.W.Walker.key machine c.args.found.now.keys (lines_of c.args.found.now.alerts.items) others one)
          c.walk.ensures.same
          (subst (λ (last : Event). Leads g.W.Walker.machine_of g.W.Walker.stands g.W.Walker.key (g.W.Walker.machine_of c.walk.new.walker) c.args.found.now.keys (lines_of c.args.found.now.alerts.items) others last)
          same (led others there));
    }
