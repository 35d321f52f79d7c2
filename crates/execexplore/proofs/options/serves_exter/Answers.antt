-- The proof of `serves_exter`: whether a server of the file serves EXTER.
use Rattle.std.proofs.Common.{◌∙◌}
use Rattle.execexplore.specs.Kinds.{is_exter}
use Rattle.execexplore.proofs.KindLemmas.{served_seen}
use Rattle.execexplore.proofs.options.serves_exter.Goals as goal

pub returns : goal.returns
returns c = c.has_exter.ensures ∙ served_seen is_exter _ _ c.servers.ensures.servers
