-- What the libraries from this one on do ends what all of them do.
use Rattle.std.proofs.Common.{◌≡◌, ◌-◌, length}
use Rattle.std.specs.List.{range_with_len}
use Rattle.execlib.specs.Libraries.{LieIn, asked_each, lent, numbers}
use Rattle.execlib.proofs.libs.Libs.ask_each.Given as goal

abbrev pub invariant-loop-i : goal.invariant-loop-i
invariant-loop-i g l =
    let count = length l.initial.self.known in
    record {
      lies : LieIn l.self l.memory;
      rest : asked_each l.size l.reqs (range_with_len l.i (count - l.i)) (lent l.self l.memory) ≡ asked_each l.size l.reqs (numbers count) (lent l.initial.self l.initial.memory);
    }
