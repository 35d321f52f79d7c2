-- The proof of `Kernel::event`: one event.
use Rattle.execsim.proofs.kernel.Kernel.event.Goals as goal

pub steps-requires : goal.steps-requires
steps-requires g c = λ good. (c.requires good).known
