-- The proof of `Kernel::serve`: a source is served, whose latch is cleared: VERTB counts the quantum and finishes the
-- requests that are due, and then the servers run.
use Rattle.execsim.proofs.Serving.{serves_with}
use Rattle.execsim.proofs.kernel.Kernel.serve.Goals as goal

pub returns : goal.returns
returns g c = serves_with _ c.count_serving.ensures c.say_serve.ensures c.finish_for.ensures c.run_chain.ensures
