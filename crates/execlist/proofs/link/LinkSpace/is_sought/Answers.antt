-- The key that is asked is the stored one, if one is stored.
use Rattle.std.proofs.Common.{ap, sym, ◌∙◌, option_copied}
use Rattle.execlist.proofs.KeyLemmas.{key_or, key_seen}
use Rattle.execlist.proofs.link.LinkSpace.is_sought.Goals as goal

pub returns-in-Some : goal.returns-in-Some
returns-in-Some g c =
    let s = c.args.self.now in
    let seen = key_seen s.nodes c.args.n s.keys.items _ _ c.stored.ensures c.deref.ensures.value in
    c.is_met.ensures ∙ sym (ap (g.W.Sought.wanted c.args.wanted.now) (seen ∙ ap (λ r. key_or (option_copied r)) c.in-Some.is))

pub returns-in-None : goal.returns-in-None
returns-in-None g c =
    let s = c.args.self.now in
    let seen = key_seen s.nodes c.args.n s.keys.items _ _ c.stored.ensures c.deref.ensures.value in
    c.is_met-in-None.ensures ∙ ap (g.W.Sought.wanted c.args.wanted.now) c.new.ensures
    ∙ sym (ap (g.W.Sought.wanted c.args.wanted.now) (seen ∙ ap (λ r. key_or (option_copied r)) c.in-None.is))
