-- One of another name, source or priority, or that ends the chain where the other does not, has another shape.
use Rattle.std.proofs.Common.{◌≡◌, true, false, ap, sym, ◌∙◌}
use Rattle.execsim.specs.Resetting.{ServerShape}
use Rattle.execsim.proofs.bodies.reset_server.Goals as goal

pub returns-then-not-is_alike_server-clause-answer : goal.returns-then-not-is_alike_server-clause-answer
returns-then-not-is_alike_server-clause-answer c = (
  λ e. cc,
  λ same.
      let bad : true ≡ false = sym (c.is_alike_server.ensures.1 (
        ap (λ (s : ServerShape). s.name) same,
        ap (λ (s : ServerShape). s.source) same,
        ap (λ (s : ServerShape). s.pri) same,
        ap (λ (s : ServerShape). s.claim) same,
      )) ∙ c.if-not-is_alike_server.true in cc,
)
