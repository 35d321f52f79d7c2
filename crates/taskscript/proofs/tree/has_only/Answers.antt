-- The proof of `has_only`: whether each key of the table is one of those listed.
use Rattle.std.proofs.Common.{sym, ◌∙◌, map, ap, ◌&&◌, Bool}
use Rattle.std.proofs.lemmas.Map.Iter.{rest_more}
use Rattle.std.specs.Map.Iter.{deref_pair}
use Rattle.toml.specs.View.{members_view}
use Rattle.taskscript.specs.Tree.{keys_are_among}
use Rattle.taskscript.proofs.Keys.{keys_step}
use Rattle.taskscript.proofs.tree.has_only.Goals as goal

pub returns-then-not-is_among : goal.returns-then-not-is_among
returns-then-not-is_among c =
    let turn = rest_more deref_pair c.loop-key.key-iterator c.next.new.self c.next.result (c.in-Some.key, c.in-Some._value) c.in-Some.is c.next.ensures.steps in
    let step = keys_step c.args.listed.now c.loop-key.key-iterator c.next.new.self (c.in-Some.key.now, c.in-Some._value.now) c.is_among.result turn (rw (← c.as_str.ensures.value) c.is_among.ensures) in
    sym (ap (λ (b : Bool). b && keys_are_among (map (λ x. x.now) c.args.listed.now) (members_view c.next.new.self)) c.if-not-is_among.true) ∙ sym step ∙ c.loop-key.invariant

pub loop-key-preserved : goal.loop-key-preserved
loop-key-preserved c =
    let turn = rest_more deref_pair c.loop-key.key-iterator c.next.new.self c.next.result (c.in-Some.key, c.in-Some._value) c.in-Some.is c.next.ensures.steps in
    let step = keys_step c.args.listed.now c.loop-key.key-iterator c.next.new.self (c.in-Some.key.now, c.in-Some._value.now) c.is_among.result turn (rw (← c.as_str.ensures.value) c.is_among.ensures) in
    sym (ap (λ (b : Bool). b && keys_are_among (map (λ x. x.now) c.args.listed.now) (members_view c.next.new.self)) c.if-not-is_among.false) ∙ sym step ∙ c.loop-key.invariant
