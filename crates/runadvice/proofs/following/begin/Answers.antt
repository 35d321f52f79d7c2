-- The machine agrees with the state after the start, and the room has its lines.
use Rattle.std.proofs.Common.{◌++◌, ℕ, List, ap, refl, ◌∙◌}
use Rattle.exectrace.specs.Trace.{printed}
use Rattle.execmodel.specs.{State.booted, Step.starts}
use Rattle.runadvice.proofs.following.begin.Goals as goal

pub returns-in-Ok-clause-agrees : goal.returns-in-Ok-clause-agrees
returns-in-Ok-clause-agrees c = λ m h. (c.in-Ok.ensures.acts c.requires.going).agrees (booted m) h refl

pub returns-in-Ok-clause-tells : goal.returns-in-Ok-clause-tells
returns-in-Ok-clause-tells c = λ m h.
    ((c.in-Ok.ensures.acts c.requires.going).writes (booted m) h).took ∙ ap (λ (x : List ℕ). x ++ printed (starts (booted m)).lines) c.requires.empty
