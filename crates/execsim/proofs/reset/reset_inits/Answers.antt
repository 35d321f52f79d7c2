-- One more task has given its name and its priority.
use Rattle.std.proofs.Common.{rules, ◌<◌, length, arith, refl, ◌∙◌, length-set}
use Rattle.std.proofs.lemmas.Int.{to_z-of_z}
use Rattle.taskq.specs.declared.TaskInit.{TaskInit}
use Rattle.script.specs.declared.file.TaskRecord.{TaskRecord}
use Rattle.execsim.proofs.Written.{one_more_seen}
use Rattle.execsim.proofs.reset.reset_inits.Goals as goal
use mir.Syntax.{w8}
use mir.Val.{SFits, of_z, to_z}

pub loop-t-preserved : goal.loop-t-preserved
loop-t-preserved c =
    let tasks = c.args.tasks.now in
    let inits = c.loop-t.inits.items in
    let t = c.loop-t.t in
    let x = c.index-tasks-t.result in
    let fits : SFits w8 x.pri = search rules in
    let written : TaskInit = record { name = x.name; pri = to_z w8 (of_z w8 x.pri) } in
    let within : t < length inits = omega (arith, c.loop-t-test.true, c.loop-t.invariant.count) in
    record {
      names = one_more_seen (λ (i : TaskInit). i.name.bytes) (λ (r : TaskRecord). r.name.bytes) inits tasks t written x within c.loop-t-test.true c.index-tasks-t.is
          refl c.loop-t.invariant.names;
      pris = one_more_seen (λ (i : TaskInit). i.pri) (λ (r : TaskRecord). r.pri) inits tasks t written x within c.loop-t-test.true c.index-tasks-t.is
          (to_z-of_z w8 x.pri fits) c.loop-t.invariant.pris;
      count = length-set inits t written ∙ c.loop-t.invariant.count;
    }
