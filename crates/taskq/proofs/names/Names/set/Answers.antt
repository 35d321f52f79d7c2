-- The names are those of the tasks.
use Rattle.std.proofs.Common.{map, ap, ◌∙◌}
use Rattle.std.proofs.lemmas.Simd.{map-map}
use Rattle.taskq.proofs.names.Names.set.Goals as goal

pub returns : goal.returns
returns c = ap (map (λ n. n.bytes)) c.set_names.ensures ∙ map-map (λ n. n.bytes) (λ t. t.name) c.args.tasks.now
