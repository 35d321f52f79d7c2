-- What holds in the loops of `with_requests`: the ports with a message more for each request.
use Rattle.std.proofs.Common.{◌≡◌}
use Rattle.execheap.specs.Changes.{reserved}
use Rattle.execheap.proofs.objects.requests.with_requests.Given as goal

abbrev pub invariant-loop-made : goal.invariant-loop-made
invariant-loop-made g l = l.ports ≡ reserved l._made l.fn.ports
