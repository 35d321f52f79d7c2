-- The requests after the place of the walk are due later.
use Rattle.std.proofs.Common.{◌≡◌, length, Some}
use Rattle.std.specs.Option.{ForSome}
use Rattle.execlist.specs.Lists.{sequence, home}
use Rattle.execlist.proofs.Walks.{upto}
use Rattle.timerdev.proofs.Walk.{Passed}
use Rattle.timerdev.proofs.place.place_after.Given as goal

abbrev pub invariant-loop-after : goal.invariant-loop-after
invariant-loop-after g l = record {
  passed : Passed l.dues l.due l.after (sequence (g.S.ListSpace.sequences l.space) l.h);
  after_home : ForSome l.after (λ p. home (g.S.ListSpace.homes l.space) p ≡ Some l.h);
}

abbrev pub decreases-loop-after : goal.decreases-loop-after
decreases-loop-after g l = length (upto l.after (sequence (g.S.ListSpace.sequences l.space) l.h))
