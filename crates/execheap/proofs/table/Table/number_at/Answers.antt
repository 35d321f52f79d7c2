-- What begins at the address lives.
use Rattle.std.proofs.Common.{ℕ, ap, sym, ◌∙◌, option_and_then}
use Rattle.execheap.specs.Tags.{number_in, tagged}
use Rattle.execheap.proofs.Matching.{number_lives}
use Rattle.execheap.proofs.table.Table.number_at.Goals as goal

pub returns-in-Some-clause-live : goal.returns-in-Some-clause-live
returns-in-Some-clause-live g c =
    let kind = c.args.kind in
    rw (sym c.self.view_is) (number_lives c.self.invariant kind c.args.address c.number_in.result
    (c.number_in.ensures ∙ ap (number_in kind) c.read.ensures
    ∙ ap (option_and_then (λ (block : ℕ × ℕ). number_in kind (tagged block.1))) (sym c.in-Some.is ∙ c.block_at.ensures)))
