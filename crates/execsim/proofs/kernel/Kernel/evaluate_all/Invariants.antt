-- What holds in the loops of `Kernel::evaluate_all`: puts the values of that many arguments of a command for task t
-- where they are to be; what is past them is unused.
use Rattle.std.proofs.Common.{◌≡◌, ℕ, List, length, map, take}
use Rattle.exectrace.specs.Short.{short_argument}
use Rattle.execmodel.specs.Calls.{evaluated}
use Rattle.script.specs.Commands.{argument_view}
use Rattle.execsim.proofs.kernel.Kernel.evaluate_all.Given as goal

-- the values so far are those of the arguments
abbrev pub invariant-loop-k : goal.invariant-loop-k
invariant-loop-k g l = record {
  four : length l.values ≡ 4;
  made : (name : List ℕ) → map (short_argument name) (take l.k l.values) ≡ map (λ a. evaluated l.t l.self.scripts (argument_view name a)) (take l.k l.arguments);
}
