-- The proof of `set_firsts`: one more task, before those so far, is noted.
use Rattle.std.proofs.Common.{◌≡◌, ◌<◌, ◌-◌, [], length, map, sym, ap, ◌∙◌, arith}
use Rattle.std.proofs.lemmas.List.{get_or-map, length-map}
use Rattle.taskq.specs.{Marks.mark, Tasks.name_at}
use Rattle.taskq.proofs.Marking.{noted}
use Rattle.taskq.proofs.names.set_firsts.Goals as goal

pub loop-k-preserved : goal.loop-k-preserved
loop-k-preserved c =
    let names = c.args.names.now in
    let t = length names - 1 - c.loop-k.k in
    let known : t < length names = omega (arith, c.loop-k-test.true) in
    let named : name_at (map (λ n. n.bytes) names) t ≡ c.as_str.result.now =
    get_or-map (λ n. n.bytes) names t c.index-names-t.result [] known ∙ ap (λ n. n.bytes) (sym c.index-names-t.is) ∙ sym c.as_str.ensures.value in
    noted c.loop-k.firsts.items (map (λ n. n.bytes) names) _ _ t c.mark_of.result (omega (arith, c.loop-k-test.true)) (omega (arith, c.loop-k-test.true))
    (omega (arith, known, length-map names (λ n. n.bytes))) c.mark_of.ensures.small (ap mark named ∙ sym c.mark_of.ensures.value) c.loop-k.invariant
