-- The nodes so far are in the header, and the rest are those that are still ahead.
use Rattle.std.proofs.Common.{◌≡◌, ◌++◌, length, Some, slice_set}
use Rattle.std.specs.Option.{ForSome}
use Rattle.execlist.specs.Lists.{sequence, home, ahead}
use Rattle.execlist.proofs.copying.copy_sequence.Given as goal

abbrev pub invariant-loop-next : goal.invariant-loop-next
invariant-loop-next g l = record {
  placed : g.S.ListSpace.sequences l.to ≡ slice_set (g.S.ListSpace.sequences l.fn.to) l.h (sequence (g.S.ListSpace.sequences l.to) l.h);
  split : sequence (g.S.ListSpace.sequences l.to) l.h ++ ahead l.next (sequence (g.S.ListSpace.sequences l.from) l.h) ≡ sequence (g.S.ListSpace.sequences l.from) l.h;
  next_home : ForSome l.next (λ p. home (g.S.ListSpace.homes l.from) p ≡ Some l.h);
  nodes : length (g.S.ListSpace.homes l.to) ≡ length (g.S.ListSpace.homes l.fn.to);
  keys : g.S.ListSpace.keys l.to ≡ g.S.ListSpace.keys l.fn.to;
}

abbrev pub decreases-loop-next : goal.decreases-loop-next
decreases-loop-next g l = length (ahead l.next (sequence (g.S.ListSpace.sequences l.from) l.h))
