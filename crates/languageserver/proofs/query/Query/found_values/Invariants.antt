-- As many as were seen so far.
use Rattle.std.proofs.Common.{◌≡◌, vec_len}
use Rattle.languageserver.proofs.query.Query.found_values.Given as goal

abbrev pub invariant-loop-one : goal.invariant-loop-one
invariant-loop-one l = vec_len l.values ≡ l.one-index
