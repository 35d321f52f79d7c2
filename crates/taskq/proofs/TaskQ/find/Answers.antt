-- The task at which the loop stops is the first of all that is live and has the name.
use Rattle.std.proofs.Common.{rules, ◌≡◌, ◌<◌, length, true, arith}
use Rattle.std.proofs.lemmas.Grind.{common_steps}
use Rattle.taskq.specs.Tasks.{is_live_named}
use Rattle.taskq.proofs.TaskLemmas.{found_at, none_found}
use Rattle.taskq.proofs.TaskQ.find.Goals as goal

pub returns-then-eq-clause-value : goal.returns-then-eq-clause-value
returns-then-eq-clause-value g c =
    let known : c.loop-t.t < length c.args.self.now.states = search rules in
    let wanted : is_live_named c.args.self.now c.args.name.now c.loop-t.t ≡ true = grind (arith, common_steps) in
    found_at _ _ c.loop-t.t known c.loop-t.invariant wanted

pub returns-clause-value : goal.returns-clause-value
returns-clause-value g c =
    none_found (is_live_named c.args.self.now c.args.name.now) (length c.args.self.now.states) (λ k l. c.loop-t.invariant k (search rules))
