-- One key of a new node more is stored.
use Rattle.std.proofs.Common.{◌≡◌, ◌≤◌, ◌+◌, ◌-◌, [], ◌∷◌, ◌++◌, length, replicate, ap, ◌∙◌, arith, is_ok, if◌then◌else◌}
use Rattle.execlist.specs.{Lists.blank, DigestKeys.digest_keys_of}
use Rattle.execlist.proofs.KeyLemmas.{pushed, stored-length}
use Rattle.execlist.proofs.link.fill.Goals as goal

pub loop-n-preserved : goal.loop-n-preserved
loop-n-preserved c =
    let was = c.args.keys.now.items in let ks = c.loop-n.keys.items in let n = c.loop-n._n in
    let items : c.push.new.self.items ≡ ks ++ c.new.result ∷ [] =
    c.push.ensures.items ∙ ap (λ r. if is_ok r then ks ++ c.new.result ∷ [] else ks) c.unwrap.ensures in
    let long = stored-length ks was (n - length was) c.loop-n.invariant.0 in
    let same : length ks ≡ n = c.loop-n.invariant.2 in
    let le : length was ≤ n = omega (arith, long, same) in
    let grown = c.push.ensures.capacity in let before = c.loop-n.invariant.1 in
    let last = ap length items in let more = stored-length c.push.new.self.items was (n + 1 - length was) (ap digest_keys_of items ∙ pushed ks was c.new.result n c.loop-n.invariant.0 c.new.ensures le) in
    (ap digest_keys_of items ∙ pushed ks was c.new.result n c.loop-n.invariant.0 c.new.ensures le, omega (arith, grown, before), omega (arith, more, le), omega (arith, c.loop-n-test.true))

pub returns-clause-keys : goal.returns-clause-keys
returns-clause-keys c =
    let was = c.args.keys.now.items in let n = c.loop-n._n in
    let long = stored-length c.loop-n.keys.items was (n - length was) c.loop-n.invariant.0 in
    let same : length c.loop-n.keys.items ≡ n = c.loop-n.invariant.2 in
    let done : n - length was ≡ c.args.count - length was = omega (arith, c.loop-n-test.false, c.loop-n.invariant.3, long, same) in
    c.loop-n.invariant.0 ∙ ap (λ j. digest_keys_of was ++ replicate j blank) done
