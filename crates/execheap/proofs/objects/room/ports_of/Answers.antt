-- There are messages for the requests too.
use Rattle.std.proofs.Common.{◌≤◌, ◌+◌, arith}
use Rattle.std.proofs.lemmas.List.FromFn.{length-range_with_len}
use Rattle.execheap.proofs.objects.room.ports_of.Goals as goal

pub with_requests-requires : goal.with_requests-requires
with_requests-requires g c =
    rw c.in_ok-ports.ensures (let enough : c.args.pool ≤ c.args.pool + c.args.pool = omega arith in
    omega (arith, enough, length-range_with_len 0 (c.args.pool + c.args.pool)))
