-- One more priority is set.
use Rattle.std.proofs.Common.{rules, ◌<◌, ◌+◌, ℕ, Option, None, take, length, map, slice_index_or, sym, ap, ◌∙◌, arith, pos, w8, SFits}
use Rattle.std.proofs.lemmas.{Int.to_z-of_z, List.get_or-map, List.length-map, List.length-replicate}
use Rattle.taskq.proofs.TaskLemmas.{pris_set}
use Rattle.taskq.specs.Tasks.{pris_of}
use Rattle.taskq.proofs.set_pris.Goals as goal

pub loop-t-preserved : goal.loop-t-preserved
loop-t-preserved g c =
    let tasks = c.args.tasks.now in
    let task = slice_index_or tasks c.loop-t.t c.index-tasks-t.result in
    let fits : SFits w8 task.pri = search rules in
    let keys = g.S.ListSpace.keys c.loop-t.space in
    let pris = map (λ t. t.pri) tasks in
    let known : c.loop-t.t < length keys = omega (arith, g.met.S.ListSpace.keyed c.loop-t.space, ap length c.loop-t.invariant.homes, length-replicate {A = Option ℕ} (length tasks) None) in
    let given : c.loop-t.t < length pris = omega (arith, length-map tasks (λ t. t.pri)) in
    record {
      sequences = c.set_key.ensures.sequences ∙ c.loop-t.invariant.sequences;
      homes = c.set_key.ensures.homes ∙ c.loop-t.invariant.homes;
      pris = ap (λ k. take (c.loop-t.t + 1) (pris_of k)) c.set_key.ensures.keys
          ∙ pris_set keys pris c.loop-t.t _ known given c.loop-t.invariant.pris (to_z-of_z w8 task.pri fits ∙ sym (get_or-map (λ t. t.pri) tasks c.loop-t.t c.index-tasks-t.result (pos 0) c.loop-t-test.true));
    }
