-- The name is that of the stored key, if one is stored.
use Rattle.std.proofs.Common.{ap, sym, ◌∙◌, option_copied}
use Rattle.execlist.specs.Lists.{KeyData, name_is}
use Rattle.execlist.proofs.KeyLemmas.{key_or, key_seen}
use Rattle.execlist.proofs.link.LinkSpaceListSpace.has_name.Goals as goal

pub returns-in-Some : goal.returns-in-Some
returns-in-Some c =
    let s = c.args.self.now in
    let seen = key_seen s.nodes c.args.n s.keys.items _ _ c.stored.ensures c.deref.ensures.value in
    c.is_named.ensures ∙ sym (ap (λ (k : KeyData). name_is k.name c.args.name.now) (seen ∙ ap (λ r. key_or (option_copied r)) c.in-Some.is))

pub returns-in-None : goal.returns-in-None
returns-in-None c =
    let s = c.args.self.now in
    let seen = key_seen s.nodes c.args.n s.keys.items _ _ c.stored.ensures c.deref.ensures.value in
    sym (ap (λ (k : KeyData). name_is k.name c.args.name.now) (seen ∙ ap (λ r. key_or (option_copied r)) c.in-None.is))
