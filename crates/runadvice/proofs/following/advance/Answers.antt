-- The machine goes on over the event.
use Rattle.runadvice.proofs.Follows.{goes_one}
use Rattle.runadvice.proofs.following.advance.Goals as goal

pub returns-in-Ok-clause-goes : goal.returns-in-Ok-clause-goes
returns-in-Ok-clause-goes c =
    let acts = c.in-Ok.ensures.acts c.requires.going in
    goes_one c.args.one _ _ _ c.clear.ensures.bytes (λ s h. (acts.writes s h).took) acts
