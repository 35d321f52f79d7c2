-- The names by which the program is called.
use Rattle.std.specs.Prelude.{List, ℕ, Option, None, Some, codes, eqb, if◌then◌else◌}
use Rattle.std.specs.List.{ends_with}
use Rattle.program.specs.declared.command.Command.{Command}
use Rattle.program.specs.declared.command.Command.TheVariants as command

-- the command whose name is the last part of a path that begins with '/'
abbrev pub command_named : List ℕ → Option Command
command_named path =
    if ends_with eqb path (codes "/execsim") then
    Some command.Execsim
    else if ends_with eqb path (codes "/program") then
    Some command.Execsim
    else if ends_with eqb path (codes "/execcheck") then
    Some command.Execcheck
    else if ends_with eqb path (codes "/execexplore") then
    Some command.Execexplore
    else if ends_with eqb path (codes "/execlog") then
    Some command.Execlog
    else
    None
