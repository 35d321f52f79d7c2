-- What holds in the loops of `read_limited`: all bytes that a reader has left, if they are at most `FILE_LIMIT`.
use Rattle.std.proofs.Common.{◌-◌, ◌≤◌, vec_len}
use Rattle.std.specs.Io.KnownBytes.{Consumes}
use Rattle.execsim.proofs.reading.read_limited.Given as goal

-- the bytes so far are those that the reader gave, at most one past the limit
abbrev pub invariant-loop-piece : goal.invariant-loop-piece
invariant-loop-piece g l = Consumes (g.R.Read.remaining l.initial.reader) (g.R.Read.remaining l.reader) l.bytes.items × (vec_len l.bytes ≤ 4194305)

-- each turn but the last gives a byte
abbrev pub decreases-loop-piece : goal.decreases-loop-piece
decreases-loop-piece g l = 4194305 - vec_len l.bytes
