-- The name and the priority of one task more are put at the end.
use Rattle.std.proofs.Common.{rules, ◌≡◌, ◌<◌, ◌+◌, ◌∙◌, [], pos, w8, length, ap, arith}
use Rattle.std.proofs.lemmas.Int.{to_z-of_z}
use mir.Val.{SFits}
use Rattle.taskq.specs.declared.TaskInit.{TaskInit}
use Rattle.taskq.proofs.NewTask.{one_longer, read_more}
use Rattle.taskq.proofs.TaskQ.inits_with.Goals as goal

pub loop-t-preserved : goal.loop-t-preserved
loop-t-preserved g c =
    let put = c.in_ok-push.ensures.items in
    let tasks = c.args.self.now in
    let known : c.loop-t.t < length tasks.states = search rules in
    let fits : SFits w8 c.pri.result = search rules in
    record {
      count = ap length put ∙ one_longer _ c.loop-t.inits.items ∙ ap (λ n. n + 1) c.loop-t.invariant.count;
      pris = read_more (λ (t : TaskInit). t.pri) _ _ _ c.loop-t.t tasks.pris (pos 0) c.loop-t.invariant.pris
          (omega (arith, known, c.facts.ensures.pris)) (to_z-of_z w8 c.pri.result fits ∙ c.pri.ensures) put;
      names = read_more (λ (t : TaskInit). t.name.bytes) _ _ _ c.loop-t.t tasks.names [] c.loop-t.invariant.names
          (omega (arith, known, c.facts.ensures.names)) c.name.ensures put;
    }
