-- The words of the first of them are bare.
use Rattle.std.proofs.Common.{All, map, take}
use Rattle.script.specs.{File.ServerData, Records.server_view}
use Rattle.statekeys.specs.Fits.{HasBareWord}
use Rattle.statekeys.proofs.bare.are_bare_servers.Given as goal

abbrev pub invariant-loop-server : goal.invariant-loop-server
invariant-loop-server l = All (λ (it : ServerData). All HasBareWord it.code) (map server_view (take l.server-index l.servers))
