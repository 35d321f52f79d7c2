-- The proof of `heads_of`.
use Rattle.std.proofs.Common.{sym, ◌∙◌}
use Rattle.std.proofs.lemmas.Result.{err_from_is_err_and}
use Rattle.script.specs.Names.{texts}
use Rattle.taskscript.proofs.OwnerTurns.{heads_stop, heads_go_on, heads_found, names_go_on}
use Rattle.taskscript.proofs.heads.heads_of.Goals as goal

pub returns-in_err-head-clause-judged : goal.returns-in_err-head-clause-judged
returns-in_err-head-clause-judged g c =
    let p = err_from_is_err_and c.from_residual.result c.from_residual.ensures.1 in
    rw (p.1, p.2) (heads_stop g.H.Named.faults c.args.of (texts c.args.names.now.items) (texts c.loop-i.names.items) c.args.items.now c.loop-i.i c.index-items-i.result c.in_err-head.field-0.0 c.loop-i-test.true c.index-items-i.is c.loop-i.invariant.judged c.in_err-head.ensures.judged)

pub loop-i-preserved : goal.loop-i-preserved
loop-i-preserved g c =
    let i = c.loop-i.i in
    let v = c.index-items-i.result in
    let before = texts c.loop-i.names.items in
    let after = texts c.head_of.new.names.items in
    rw c.in_ok-push.ensures.items (record {
      judged = sym (heads_go_on g.H.Named.faults c.args.of before after c.args.items.now i v c.loop-i-test.true c.index-items-i.is c.in_ok-head.ensures.judged.0 c.in_ok-head.ensures.names) ∙ c.loop-i.invariant.judged;
      found = sym (heads_found g.H.Named.head_view g.H.Named.head_of c.loop-i.heads.items c.in_ok-head.head c.args.items.now i v c.loop-i-test.true c.index-items-i.is c.in_ok-head.ensures.judged.1) ∙ c.loop-i.invariant.found;
      names = sym (names_go_on before after c.args.items.now i v c.loop-i-test.true c.index-items-i.is c.in_ok-head.ensures.names) ∙ c.loop-i.invariant.names;
    })
