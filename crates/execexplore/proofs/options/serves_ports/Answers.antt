-- The proof of `serves_ports`: whether a server of the file serves PORTS.
use Rattle.std.proofs.Common.{◌∙◌}
use Rattle.execexplore.specs.Kinds.{is_ports}
use Rattle.execexplore.proofs.KindLemmas.{served_seen}
use Rattle.execexplore.proofs.options.serves_ports.Goals as goal

pub returns : goal.returns
returns c = c.has_ports.ensures ∙ served_seen is_ports _ _ c.servers.ensures.servers
