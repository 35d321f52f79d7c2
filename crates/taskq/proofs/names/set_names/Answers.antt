-- One more name is set.
use Rattle.std.proofs.Common.{◌<◌, length, map, slice_index_or, sym, ◌∙◌, arith, length-set}
use Rattle.std.proofs.lemmas.List.{get_or-map, length-map}
use Rattle.taskq.proofs.TaskLemmas.{set_more}
use Rattle.taskq.proofs.names.set_names.Goals as goal

pub loop-t-preserved : goal.loop-t-preserved
loop-t-preserved c =
    let tasks = c.args.tasks.now in
    let names = map (λ t. t.name) tasks in
    let first = c.index-tasks-t.result in
    let there : c.loop-t.t < length c.loop-t.names.items = omega (arith, c.loop-t.invariant.count, c.loop-t-test.true) in
    let given : c.loop-t.t < length names = omega (arith, c.loop-t-test.true, length-map tasks (λ t. t.name)) in
    record {
      names = set_more c.loop-t.names.items names c.loop-t.t (slice_index_or tasks c.loop-t.t first).name first.name there given c.loop-t.invariant.names
          (sym (get_or-map (λ t. t.name) tasks c.loop-t.t first first.name c.loop-t-test.true));
      count = length-set c.loop-t.names.items c.loop-t.t (slice_index_or tasks c.loop-t.t first).name ∙ c.loop-t.invariant.count;
    }
