-- the servers so far are made
use Rattle.std.proofs.Common.{◌≡◌, map, take}
use Rattle.script.specs.Records as records
use Rattle.execsim.specs.Views.{server_view}
use Rattle.execsim.proofs.bodies.servers_of.Given as goal

abbrev pub invariant-loop-server : goal.invariant-loop-server
invariant-loop-server l = map server_view l.made.items ≡ map records.server_view (take l.server-index l.servers)
