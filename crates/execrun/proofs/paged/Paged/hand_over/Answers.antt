-- The proof of `Paged::hand_over`: what was not taken stays on the page.
use Rattle.std.proofs.Common.{◌++◌, take, drop, sym, ap, ◌∙◌, take-append-drop}
use Rattle.std.proofs.KnownBytes.{append_known-moved}
use Rattle.execrun.proofs.paged.Paged.hand_over.Goals as goal

pub returns-clause-keeps : goal.returns-clause-keeps
returns-clause-keeps g c =
    let n = c.write_out-done.result in
    let held = c.as_slice.result.now in
    let rest = c.take_front.ensures ∙ ap (drop n) (sym c.as_slice.ensures) in
    append_known-moved _ _ _ _ _ c.write_out-done.ensures.bytes (sym c.as_slice.ensures ∙ sym (take-append-drop n held) ∙ ap (λ l. take n held ++ l) (sym rest))
