-- One kind more has led to what was found.
use Rattle.std.proofs.Common.{rules, arith, ◌≡◌, ◌∙◌, [], true, subst, slice_index_or, below_more}
use Rattle.script.specs.{File.MachineData, declared.event.Event.Event}
use Rattle.closure.specs.Closed.{GoesOn, IsNumber, lines_of}
use Rattle.closure.proofs.check.all_go_on.Goals as goal

pub loop-kind-preserved : goal.loop-kind-preserved
loop-kind-preserved g c =
    let yes : c.in_ok-goes_on.field-0 ≡ true = search rules in
    record {
      same = c.goes_on.ensures.same ∙ c.loop-kind.invariant.same;
      each = below_more (λ k. (one : Event) → IsNumber c.args.kinds.now k one
          → GoesOn g.W.Walker.machine_of g.W.Walker.stands g.W.Walker.key (g.W.Walker.machine_of c.args.walker.now) c.args.found.now.keys (lines_of c.args.found.now.alerts.items) (slice_index_or c.args.found.now.keys c.args.state []) one) _
          c.loop-kind.invariant.each
          (subst (λ (machine : MachineData). (one : Event) → IsNumber c.args.kinds.now c.loop-kind.kind one
          → GoesOn g.W.Walker.machine_of g.W.Walker.stands g.W.Walker.key machine c.args.found.now.keys (lines_of c.args.found.now.alerts.items) (slice_index_or c.args.found.now.keys c.args.state []) one)
          c.loop-kind.invariant.same (c.in_ok-goes_on.ensures.goes yes));
    }

pub returns-clause-goes : goal.returns-clause-goes
returns-clause-goes g c = λ is k one less number. c.loop-kind.invariant.each k (omega arith) one number
