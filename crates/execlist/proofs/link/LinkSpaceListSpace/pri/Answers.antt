-- The priority is that of the stored key, if one is stored.
use Rattle.std.proofs.Common.{SFits, w8, ap, sym, ◌∙◌, rules, option_copied}
use Rattle.std.proofs.lemmas.Int.{to_z-of_z}
use Rattle.execlist.specs.Lists.{KeyData}
use Rattle.execlist.proofs.KeyLemmas.{key_or, key_seen}
use Rattle.execlist.proofs.link.LinkSpaceListSpace.pri.Goals as goal

pub returns-in-Some : goal.returns-in-Some
returns-in-Some c =
    let s = c.args.self.now in
    let inside = c.pri.type_inv in
    let fits : SFits w8 c.pri.result = search rules in
    let seen = key_seen s.nodes c.args.n s.keys.items _ _ c.stored.ensures c.deref.ensures.value in
    to_z-of_z w8 c.pri.result fits ∙ c.pri.ensures
    ∙ sym (ap (λ (k : KeyData). k.pri) (seen ∙ ap (λ r. key_or (option_copied r)) c.in-Some.is))

pub returns-in-None : goal.returns-in-None
returns-in-None c =
    let s = c.args.self.now in
    let seen = key_seen s.nodes c.args.n s.keys.items _ _ c.stored.ensures c.deref.ensures.value in
    sym (ap (λ (k : KeyData). k.pri) (seen ∙ ap (λ r. key_or (option_copied r)) c.in-None.is))
