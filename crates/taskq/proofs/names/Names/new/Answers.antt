-- The names are those of the tasks.
use Rattle.std.proofs.Common.{map, ap, ◌∙◌}
use Rattle.std.proofs.lemmas.Simd.{map-map}
use Rattle.taskq.proofs.names.Names.new.Goals as goal

pub returns : goal.returns
returns c = ap (map (λ n. n.bytes)) c.in_ok-names.ensures ∙ map-map (λ n. n.bytes) (λ t. t.name) c.args.tasks.now
