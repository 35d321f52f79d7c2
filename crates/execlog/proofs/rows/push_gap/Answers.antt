-- The first of the spaces are that many.
use Rattle.std.proofs.Common.{ℕ, List, ◌+◌, ◌-◌, ◌++◌, ◌∙◌, take, replicate, ap, arith, sym}
use Rattle.std.proofs.lemmas.List.{replicate-append-replicate}
use Rattle.execlog.proofs.{Laying.spaces_taken, Logging.made_whole, Logging.whole_then}
use Rattle.execlog.proofs.rows.push_gap.Goals as goal

pub returns : goal.returns
returns c = whole_then c.extend_from_slice.result
    (λ e. e ∙ ap (λ (z : List ℕ). c.args.page.now.items ++ z)
    (ap (λ (n : ℕ). take {A = ℕ} (n + 2) (replicate {A = ℕ} 96 32)) c.saturating_sub.ensures
    ∙ spaces_taken (43 - c.args.taken + 2) 96 (omega arith)
    ∙ sym (replicate-append-replicate {A = ℕ} (43 - c.args.taken) 2 32)))
    (made_whole _ _ c.extend_from_slice.result c.extend_from_slice.ensures.items)
