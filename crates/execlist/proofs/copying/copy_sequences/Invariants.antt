-- The headers so far hold the same sequences, and the others are empty.
use Rattle.std.proofs.Common.{◌≡◌, ℕ, ◌<◌, ◌≤◌, [], length}
use Rattle.execlist.specs.Lists.{sequence}
use Rattle.execlist.proofs.copying.copy_sequences.Given as goal

abbrev pub invariant-loop-h : goal.invariant-loop-h
invariant-loop-h g l = record {
  front : (k : ℕ) → k < l.h → sequence (g.S.ListSpace.sequences l.to) k ≡ sequence (g.S.ListSpace.sequences l.from) k;
  rest : (k : ℕ) → l.h ≤ k → sequence (g.S.ListSpace.sequences l.to) k ≡ [];
  headers : length (g.S.ListSpace.sequences l.to) ≡ length (g.S.ListSpace.sequences l.from);
  nodes : length (g.S.ListSpace.homes l.to) ≡ length (g.S.ListSpace.homes l.fn.to);
  keys : g.S.ListSpace.keys l.to ≡ g.S.ListSpace.keys l.fn.to;
}
