-- What begins at the address is loaded there.
use Rattle.std.proofs.Common.{ℕ, ap, sym, ◌∙◌, option_and_then}
use Rattle.execheap.specs.Tags.{library_in, tagged}
use Rattle.execheap.proofs.LibraryTables.{library_found_lives}
use Rattle.execheap.proofs.table.Table.library_at.Goals as goal

pub returns-in-Some-clause-live : goal.returns-in-Some-clause-live
returns-in-Some-clause-live g c =
    rw (sym c.self.view_is) (library_found_lives c.self.invariant c.args.address c.library_in.result
    (c.library_in.ensures ∙ ap library_in c.read.ensures
    ∙ ap (option_and_then (λ (block : ℕ × ℕ). library_in (tagged block.1))) (sym c.in-Some.is ∙ c.block_at.ensures)))
