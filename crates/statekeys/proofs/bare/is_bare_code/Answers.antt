-- One command more is bare, and then all are.
use Rattle.std.proofs.Common.{arith, sym, subst}
use Rattle.script.specs.Commands.{command_view}
use Rattle.script.specs.declared.command.Command.{Command}
use Rattle.statekeys.specs.Fits.{HasBareWord}
use Rattle.statekeys.proofs.BareLemmas.{all_more, all_end}
use Rattle.statekeys.proofs.bare.is_bare_code.Goals as goal

pub loop-command-preserved : goal.loop-command-preserved
loop-command-preserved c =
    all_more HasBareWord command_view c.args.code.now c.loop-command.command-index c.command-item.result c.loop-command-test.true c.loop-command.invariant
    (subst (λ (x : Command). HasBareWord (command_view x)) c.command-item.is (sym c.if-not-is_bare_word.ensures))

pub returns : goal.returns
returns c = λ is. all_end HasBareWord command_view c.args.code.now c.loop-command.command-index (omega arith) c.loop-command.invariant
