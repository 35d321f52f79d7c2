-- The set is closed, and so it is everything.
use Rattle.std.proofs.Common.{rules, arith, ◌≡◌, ◌∙◌, ◌<◌, [], true, ℕ, length, subst, slice_index_or, below_more}
use Rattle.script.specs.{File.MachineData, declared.event.Event.Event}
use Rattle.closure.specs.Closed.{GoesOn, IsNumber, lines_of}
use Rattle.closure.proofs.Everything.{everything}
use Rattle.closure.proofs.check.is_closed.Goals as goal

pub loop-state-preserved : goal.loop-state-preserved
loop-state-preserved g c =
    let yes : c.in_ok-all_go_on.field-0 ≡ true = search rules in
    record {
      same = c.all_go_on.ensures.same ∙ c.loop-state.invariant.same;
      each = below_more (λ i. (k : ℕ) (one : Event) → k < length c.args.kinds.now → IsNumber c.args.kinds.now k one
          → GoesOn g.W.Walker.machine_of g.W.Walker.stands g.W.Walker.key (g.W.Walker.machine_of c.args.walker.now) c.args.found.now.keys (lines_of c.args.found.now.alerts.items) (slice_index_or c.args.found.now.keys i []) one) _
          c.loop-state.invariant.each
          (subst (λ (machine : MachineData). (k : ℕ) (one : Event) → k < length c.args.kinds.now → IsNumber c.args.kinds.now k one
          → GoesOn g.W.Walker.machine_of g.W.Walker.stands g.W.Walker.key machine c.args.found.now.keys (lines_of c.args.found.now.alerts.items) (slice_index_or c.args.found.now.keys c.loop-state.state []) one)
          c.loop-state.invariant.same (c.in_ok-all_go_on.ensures.goes yes));
    }

pub returns : goal.returns
returns g c = λ closed.
    let yes : c.in_ok-begins.field-0 ≡ true = search rules in
    everything g.W.Walker.machine_of g.W.Walker.stands g.W.Walker.key (g.W.Walker.machine_of c.args.walker.now) c.args.kinds.now
    c.args.found.now.keys (lines_of c.args.found.now.alerts.items) g.met.W.Walker.keys_tell
    (record {
      begins = c.in_ok-begins.ensures.begins yes;
      goes_on = λ i k one less few is. c.loop-state.invariant.each i (omega arith) k one few is;
    })
