-- One key is another.
use Rattle.std.proofs.Common.{◌≡◌, ◌<◌, ◌≤◌, length, set, ap, ◌∙◌, arith, option_map, length-set}
use Rattle.std.proofs.lemmas.Int.{to_z-of_z}
use Rattle.execlist.specs.{Lists.KeyData, DigestKeys.digest_key_of, DigestKeys.keys_in}
use Rattle.execlist.proofs.{KeyLemmas.key_set, LinkLemmas.homes_length}
use Rattle.execlist.proofs.link.LinkSpaceListSpace.set_key.Goals as goal

pub overflow_add-n : goal.overflow_add-n
overflow_add-n c =
    let s = c.args.self.now in
    let known : c.args.n < s.nodes = omega (arith, c.requires.node, homes_length s.block.links s.nodes) in
    record { fits = omega (arith, known, s.few) }

pub fill-requires : goal.fill-requires
fill-requires c =
    let s = c.args.self.now in
    let known : c.args.n < s.nodes = omega (arith, c.requires.node, homes_length s.block.links s.nodes) in
    omega (arith, known, s.key_room)

pub invariant_of-self : goal.invariant_of-self
invariant_of-self c =
    let s = c.args.self.now in let n = c.args.n in
    let known : n < s.nodes = omega (arith, c.requires.node, homes_length s.block.links s.nodes) in
    let few : length s.keys.items ≤ s.nodes = omega (arith, s.stored, s.keys.ok.0) in
    let new = key_set s.nodes n s.keys.items c.fill.new.keys.items c.new.result c.fill.ensures.keys known few in
    record {
      linked = s.linked;
      stands = s.stands;
      low_inside = s.low_inside;
      fresh = s.fresh;
      stored = omega (arith, new.0, c.fill.new.keys.ok.0);
      keyed = ap length new.1 ∙ length-set (keys_in s.nodes s.keys.items) n (digest_key_of c.new.result) ∙ s.keyed;
      key_room = omega (arith, s.key_room, c.fill.ensures.capacity);
      few = s.few;
      lease_alloc = s.lease_alloc;
      lease_base = s.lease_base;
      lease_cap = s.lease_cap;
      whole = s.whole;
    }

pub returns-clause-keys : goal.returns-clause-keys
returns-clause-keys c =
    let s = c.args.self.now in let n = c.args.n in
    let known : n < s.nodes = omega (arith, c.requires.node, homes_length s.block.links s.nodes) in
    let few : length s.keys.items ≤ s.nodes = omega (arith, s.stored, s.keys.ok.0) in
    let new = key_set s.nodes n s.keys.items c.fill.new.keys.items c.new.result c.fill.ensures.keys known few in
    let key : digest_key_of c.new.result ≡ record { pri = c.args.pri; name = option_map (λ t. t.bytes) c.args.name } =
    (let fits = c.ranges.pri.sfits in grind (arith, to_z-of_z)) in
    new.1 ∙ ap (λ (k : KeyData). set (keys_in s.nodes s.keys.items) n k) key
