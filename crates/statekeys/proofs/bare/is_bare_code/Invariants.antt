-- The words of the first commands are bare.
use Rattle.std.proofs.Common.{All, map, take}
use Rattle.script.specs.Commands.{command_view}
use Rattle.statekeys.specs.Fits.{HasBareWord}
use Rattle.statekeys.proofs.bare.is_bare_code.Given as goal

abbrev pub invariant-loop-command : goal.invariant-loop-command
invariant-loop-command l = All HasBareWord (map command_view (take l.command-index l.code))
