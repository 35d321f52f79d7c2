-- What holds in the loops of `sources_of`: the sources and priorities of the servers, in the order of the file.
use Rattle.std.proofs.Common.{◌≡◌, map, take}
use Rattle.script.specs.Records.{server_view}
use Rattle.execsim.specs.Views.{interrupting}
use Rattle.execsim.proofs.boot.sources_of.Given as goal

-- the servers so far have given their sources and priorities
abbrev pub invariant-loop-server : goal.invariant-loop-server
invariant-loop-server l = l.sources.items ≡ map interrupting (map server_view (take l.server-index l.servers))
