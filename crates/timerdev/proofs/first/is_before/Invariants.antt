-- Whether the first request is before the second is reported by those that the walk has still to see.
use Rattle.std.proofs.Common.{◌≡◌, length, Some}
use Rattle.std.specs.Option.{ForSome}
use Rattle.execlist.specs.Lists.{sequence, home}
use Rattle.execlist.proofs.Walks.{upto}
use Rattle.timerdev.proofs.Walk.{Tells}
use Rattle.timerdev.proofs.first.is_before.Given as goal

abbrev pub invariant-loop-next : goal.invariant-loop-next
invariant-loop-next g l = record {
  tells : Tells l.a l.b l.next (sequence (g.S.ListSpace.sequences l.space) 0);
  next_home : ForSome l.next (λ p. home (g.S.ListSpace.homes l.space) p ≡ Some 0);
}

abbrev pub decreases-loop-next : goal.decreases-loop-next
decreases-loop-next g l = length (upto l.next (sequence (g.S.ListSpace.sequences l.space) 0))
