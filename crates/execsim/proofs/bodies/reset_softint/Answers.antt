-- One of another name or priority has another shape.
use Rattle.std.proofs.Common.{◌≡◌, true, false, ap, sym, ◌∙◌}
use Rattle.execsim.specs.Resetting.{SoftintShape}
use Rattle.execsim.proofs.bodies.reset_softint.Goals as goal

pub returns-then-not-is_alike-clause-answer : goal.returns-then-not-is_alike-clause-answer
returns-then-not-is_alike-clause-answer c = (
  λ e. cc,
  λ same.
      let bad : true ≡ false = sym (c.is_alike.ensures.1 (ap (λ (s : SoftintShape). s.name) same, ap (λ (s : SoftintShape). s.pri) same)) ∙ c.if-not-is_alike.true in cc,
)
