-- One item more of the queue is in the list.
use Rattle.std.proofs.Common.{rules, ◌≡◌, ◌==◌, false}
use Rattle.std.specs.List.{list_any}
use Rattle.statekeys.proofs.Walks.{walked_more}
use Rattle.statekeys.proofs.queues.caused_of.Goals as goal

pub loop-round-preserved : goal.loop-round-preserved
loop-round-preserved c =
    let none : list_any (λ y. y == c.in-Some.i) c.loop-round.list.items ≡ false = search rules in
    walked_more c.loop-round.after c.args.machine.now.seen.pending.caused c.loop-round.list.items c.in-Some.i c.push.new.self.items
    c.loop-round.invariant c.in-Some.ensures none c.in_ok-push.ensures.items
