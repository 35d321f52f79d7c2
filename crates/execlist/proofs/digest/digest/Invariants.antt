-- The digest so far is that of the bytes read.
use Rattle.std.proofs.Common.{◌≡◌, take, fold}
use Rattle.execlist.specs.Digest.{digest_step}
use Rattle.execlist.proofs.digest.digest.Given as goal

abbrev pub invariant-loop-byte : goal.invariant-loop-byte
invariant-loop-byte l = l.all ≡ fold digest_step 0 (take l.byte-index l.byte-items)
