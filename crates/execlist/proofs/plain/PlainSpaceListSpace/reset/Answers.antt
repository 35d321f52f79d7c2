-- An empty list represents empty sequences.
use Rattle.std.proofs.Common.{◌≡◌, None, [], length, replicate, map, refl, ap, sym, ◌∙◌, arith, rules, pos}
use Rattle.std.proofs.lemmas.List.FromFn.{length-map-range_with_len}
use Rattle.execlist.specs.{Lists.blank, Plain.nodes_of, Keys.key_of, declared.key.NodeKey.NodeKey}
use Rattle.execlist.proofs.PlainLemmas.{empty_space, empty_sequences, stands_once, same_sequences, mapped_replicate}
use Rattle.execlist.proofs.plain.PlainSpaceListSpace.reset.Goals as goal

pub invariant_of-self-clause-kept : goal.invariant_of-self-clause-kept
invariant_of-self-clause-kept c =
    let none : c.fill.new.self.items ≡ replicate (length c.args.self.now.homes.items) None = search rules in
    rw (c.clear.ensures.items, none) (empty_space c.args.self.now.headers (length c.args.self.now.homes.items))

pub invariant_of-self-clause-stands : goal.invariant_of-self-clause-stands
invariant_of-self-clause-stands c = stands_once c.args.self.now.headers c.clear.new.self.items c.fill.new.self.items (invariant_of-self-clause-kept c)

pub returns-clause-empty : goal.returns-clause-empty
returns-clause-empty c =
    let s = c.args.self.now in
    same_sequences refl c.clear.ensures.items refl ∙ empty_sequences c.fill.new.self.items s.headers
    ∙ ap (λ k. replicate k []) (sym (length-map-range_with_len (λ h. nodes_of s.homes.items h s.order.items) 0 s.headers))

pub returns-clause-blank : goal.returns-clause-blank
returns-clause-blank c =
    let s = c.args.self.now in
    let k : NodeKey = record { pri = pos 0; name = None } in
    let e : c.fill-2.new.self.items ≡ replicate (length s.keys.items) k = search rules in
    let long : length s.keys.items ≡ length s.homes.items = omega (arith, s.keyed, s.keys.ok.0, s.homes.ok.0) in
    ap (map key_of) e ∙ mapped_replicate key_of (length s.keys.items) k blank refl ∙ ap (λ n. replicate n blank) long
