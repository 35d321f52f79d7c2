-- The proof of `after`: the machine has not failed, and has time for the ticks that are left.
use Rattle.std.proofs.Common.{◌≡◌, ◌+◌, ℕ, subst, arith, sum_by}
use Rattle.script.specs.Events.{event_ticks}
use Rattle.execsim.specs.Time.{HasTimeFor}
use Rattle.execsim_c.proofs.session.Session.after.Goals as goal

pub invariant_of-result : goal.invariant_of-result
invariant_of-result c =
    let sum : c.args.left + sum_by event_ticks c.args.list.now ≡ c.args.self.ticks_left = c.requires in
    let ticks : c.args.self.ticks_left ≡ sum_by event_ticks c.args.list.now + c.args.left = omega (arith, sum) in
    record {
      whole = c.in-Ok.ensures.whole;
      time = c.in-Ok.ensures.time c.args.left (subst (λ (n : ℕ). HasTimeFor n c.args.self.machine.seen) ticks c.args.self.time);
    }
