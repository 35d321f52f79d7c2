-- A refusal that is passed on has the alert of what was refused.
use Rattle.std.proofs.Common.{ap, ◌≡◌, ◌∙◌, Some, Result, IsErrAnd}
use Rattle.std.proofs.lemmas.Result.{err_from_is_err_and}
use Rattle.execheap.specs.{declared.refusal.Refusal.Refusal, Refusals.alert_of, Refusals.code_of}

pub passed_on : {T : Type 0} → (r : Result T Refusal) (why : Refusal) → IsErrAnd r (λ y. y ≡ why) → alert_of r ≡ Some (code_of why)
passed_on r why is =
    let p = err_from_is_err_and r is in
    ap alert_of p.1 ∙ ap (λ (y : Refusal). Some (code_of y)) p.2
