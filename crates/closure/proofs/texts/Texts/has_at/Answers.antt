-- Each text is that of its vector.
use Rattle.std.proofs.Common.{arith, ◌≡◌, ◌∙◌, ◌<◌, [], ℕ, List, length, sym, ap, subst, slice_index_or}
use Rattle.std.proofs.lemmas.List.{get_or-map}
use Rattle.std.proofs.lemmas.Slice.Eq.{bytes_eq-Decides}
use Rattle.closure.proofs.texts.Texts.has_at.Goals as goal

pub returns-then-i-len-clause-same : goal.returns-then-i-len-clause-same
returns-then-i-len-clause-same c = λ is.
    let less : c.args.i < length c.self.inside.texts.items = omega (arith, c.if-i-len.true, c.len.ensures) in
    let same = (bytes_eq-Decides c.as_slice.result.now c.args.text.now).0 (sym c.eq.ensures ∙ is) in
    let placed = get_or-map (λ v. v.items) c.self.inside.texts.items c.args.i c.index.result.now [] less in
    subst (λ (texts : List (List ℕ)). slice_index_or texts c.args.i [] ≡ c.args.text.now) c.self.view_is
    (placed ∙ (ap (λ v. v.items) (sym c.index.ensures) ∙ (sym c.as_slice.ensures.value ∙ same)))
