-- As many keys of new nodes were stored as numbers were gone through.
use Rattle.std.proofs.Common.{◌≡◌, ◌≤◌, ◌+◌, ◌-◌, ◌++◌, length, replicate, vec_capacity}
use Rattle.execlist.specs.{Lists.blank, DigestKeys.digest_keys_of}
use Rattle.execlist.proofs.link.fill.Given as goal

abbrev pub invariant-loop-n : goal.invariant-loop-n
invariant-loop-n l =
    (digest_keys_of l.keys.items ≡ digest_keys_of l.initial.keys.items ++ replicate (l._n - length l.initial.keys.items) blank)
    × (vec_capacity l.initial.keys ≤ vec_capacity l.keys) × (length l.keys.items ≡ l._n)
    × (l._n ≤ l.count + (length l.initial.keys.items - l.count))
