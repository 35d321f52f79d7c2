-- The word of what the memory answers, which is a byte.
use Rattle.std.proofs.Common.{rules, ap, ◌∙◌, ℤ, w32}
use Rattle.std.specs.Int.{cast_unsigned}
use Rattle.std.proofs.lemmas.Int.{to_z-of_z}
use Rattle.execmodel.specs.Requests.{request_of}
use Rattle.execsim.specs.Agreement.{Seen}
use Rattle.execsim.proofs.kernel.Kernel.error.Goals as goal
use mir.Syntax.{w8}
use mir.Val.{SFits}

pub returns-in-Ok-clause-answer : goal.returns-in-Ok-clause-answer
returns-in-Ok-clause-answer g c =
    let fits : SFits w8 c.in-Ok.error = search rules in
    c.error_word.ensures ∙ ap (λ (error : ℤ). cast_unsigned w32 error) (to_z-of_z w8 c.in-Ok.error fits ∙ c.in-Ok.ensures.answer)
    ∙ ap (λ (m : Seen). cast_unsigned w32 (request_of c.args.request m.memory.heap).error) c.self.view_is
