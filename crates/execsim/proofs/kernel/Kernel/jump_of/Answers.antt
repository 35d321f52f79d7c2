-- What a Jump changes.
use Rattle.std.proofs.Common.{refl}
use Rattle.execmodel.specs.{Calls.argument, Calls.call_of, Plain.jumps}
use Rattle.script.specs.Commands.{command_view}
use Rattle.execsim.proofs.Changing.{goes}
use Rattle.execsim.proofs.kernel.Kernel.jump_of.Goals as goal

pub returns : goal.returns
unfolding call_of jumps
returns g c = λ next.
    goes c.args.t (call_of c.args.t next (command_view c.args.command.now) c.args.self.now.scripts) _
    (argument 1 (call_of c.args.t next (command_view c.args.command.now) c.args.self.now.scripts))
    (c.number_at.ensures next) refl c.requires.jumps
