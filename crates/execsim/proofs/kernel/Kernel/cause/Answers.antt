-- What is caused is put in after those of its priority.
use Rattle.std.proofs.Common.{◌≡◌, true, length, ap, ◌∙◌, nat_lt}
use Rattle.memlist.proofs.Answered.{nat_lt-true}
use Rattle.execmodel.specs.State.{Pending}
use Rattle.execsim.proofs.Serving.{causes_known, pending_of}
use Rattle.execsim.proofs.kernel.Kernel.cause.Goals as goal

pub returns-then-i-softint_count : goal.returns-then-i-softint_count
returns-then-i-softint_count g c =
    let old = c.self.inside in
    let known : nat_lt c.args.i (length old.bodies.softints) ≡ true =
    nat_lt-true c.args.i (length old.bodies.softints) (rw c.softint_count.ensures at c.if-i-softint_count.true) in
    let next = ap pending_of c.cause.ensures ∙ causes_known c.args.i old.ints old.bodies c.self.invariant.3 known in
    rw (← c.self.view_is) (ap (λ (p : Pending). record {
      schedule = old.sched;
      scripts = record { programs = old.programs.items; shared = old.shared };
      memory = old.memory;
      bodies = old.bodies;
      pending = p;
      stopped = old.stopped;
    }) next)
