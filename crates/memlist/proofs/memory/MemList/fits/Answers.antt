-- The proof of `MemList::fits`: whether `alloc_mem` would find a gap for a block of that size, and changes nothing.
use Rattle.std.proofs.Common.{List, sym, ap, subst, ◌∙◌, is_some}
use Rattle.memlist.specs.{Areas.Area, Choice.IsOffer, Fit.fit, Memory.Memory}
use Rattle.memlist.proofs.Memories.{fit_nothing, fit_offered}
use Rattle.memlist.proofs.memory.MemList.fits.Goals as goal

pub returns-then-size-eq0 : goal.returns-then-size-eq0
returns-then-size-eq0 c = ap is_some (sym (fit_nothing c.args.self.now.regions c.args.self.now.blocks c.args.size c.args.reqs c.if-size-eq0.true))

pub returns : goal.returns
returns c =
    let offer = subst (λ (areas : List Area). IsOffer areas c.round.result c.args.reqs areas c.choose.result) c.deref.ensures.value c.choose.ensures in
    let rounded = subst (λ n. IsOffer c.self.inside.headers.items n c.args.reqs c.self.inside.headers.items c.choose.result) c.round.ensures offer in
    c.is_some.ensures
    ∙ fit_offered c.self.inside.headers.items c.args.size c.args.reqs c.choose.result c.self.invariant c.if-size-eq0.false rounded
    ∙ ap (λ (m : Memory). is_some (fit m.regions m.blocks c.args.size c.args.reqs)) c.self.view_is
