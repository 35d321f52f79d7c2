-- None waits.
use Rattle.std.proofs.Common.{rules, ◌≡◌, length}
use Rattle.timerdev.proofs.Keeping.{held_none}
use Rattle.timerdev.proofs.timer.Timer.new.Goals as goal

pub invariant_of-result : goal.invariant_of-result
invariant_of-result g c =
    let queues = c.in_ok-queues.queues in
    let begun = c.in_ok-begun.begun in
    let each : length c.in_ok-dues.dues.items ≡ c.args.requests = search rules in
    held_none c.args.requests (g.S.ListSpace.sequences queues) (g.S.ListSpace.sequences begun) (g.S.ListSpace.homes queues)
    (g.S.ListSpace.homes begun) c.in_ok-dues.dues.items
    c.in_ok-queues.ensures.empty c.in_ok-queues.ensures.unlinked c.in_ok-begun.ensures.empty c.in_ok-begun.ensures.unlinked each
