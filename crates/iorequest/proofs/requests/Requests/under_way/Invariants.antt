-- What the requests so far left to be reported is reported by those that are left.
use Rattle.std.proofs.Common.{◌≡◌, drop}
use Rattle.std.specs.List.{list_any}
use Rattle.iorequest.specs.Requests.{is_under_way_at}
use Rattle.iorequest.proofs.requests.Requests.under_way.Given as goal

abbrev pub invariant-loop-r : goal.invariant-loop-r
invariant-loop-r l =
    list_any (is_under_way_at l.port) l.self-inside.requests.slots ≡ list_any (is_under_way_at l.port) (drop l.r l.self-inside.requests.slots)
