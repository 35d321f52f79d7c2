-- What holds in the loops of `choose`: the chosen region among those with a large enough gap, and its lowest such gap.
use Rattle.std.proofs.Common.{drop}
use Rattle.memlist.specs.Choice.{IsOffer}
use Rattle.memlist.proofs.memory.choose.Given as goal

abbrev pub invariant-loop-place : goal.invariant-loop-place
invariant-loop-place l = IsOffer l.headers l.size l.reqs (drop l.place l.headers) l.offer
