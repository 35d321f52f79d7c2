-- The proof of `records_of`: the second pass over the items of an array, whose heads the first one kept.
use Rattle.std.proofs.Common.{◌≡◌, sym, ◌∙◌, arith}
use Rattle.std.proofs.lemmas.Result.{err_from_is_err_and}
use Rattle.toml.specs.View.{view}
use Rattle.script.specs.Names.{texts}
use Rattle.taskscript.specs.{Code.shared_after, File.code_lines, Records.setting_view, Records.made_of}
use Rattle.taskscript.proofs.{Listings.listings_found, OwnerTurns.heads_fill, OwnerTurns.heads_at, OwnerTurns.bodies_stop, OwnerTurns.bodies_go_on, OwnerTurns.shared_go_on, OwnerTurns.records_found}
use Rattle.taskscript.proofs.owners.records_of.Goals as goal

pub bounds-heads-i : goal.bounds-heads-i
bounds-heads-i g c = omega (arith, heads_fill g.H.Named.head_view g.H.Named.head_of c.args.heads.now c.args.items.now c.requires, c.loop-i-test.true)

pub offset_bounds-heads-i : goal.offset_bounds-heads-i
offset_bounds-heads-i g c = omega (arith, heads_fill g.H.Named.head_view g.H.Named.head_of c.args.heads.now c.args.items.now c.requires, c.loop-i-test.true)

pub record_of-requires : goal.record_of-requires
record_of-requires g c = heads_at g.H.Named.head_view g.H.Named.head_of c.args.heads.now c.args.items.now c.loop-i.i c.index-heads-i.result c.index-items-i.result c.requires c.loop-i-test.true c.index-heads-i.is c.index-items-i.is

pub returns-in_err-record-clause-judged : goal.returns-in_err-record-clause-judged
returns-in_err-record-clause-judged g c =
    let p = err_from_is_err_and c.from_residual.result c.from_residual.ensures.1 in
    rw (p.1, p.2) (bodies_stop c.args.owner (setting_view c.args.setting) (texts c.args.shared.now.keys) (texts c.loop-i.shared.keys) c.args.items.now c.loop-i.i c.index-items-i.result c.in_err-record.field-0.0 c.loop-i-test.true c.index-items-i.is c.loop-i.invariant.judged c.in_err-record.ensures.judged)

pub loop-i-preserved : goal.loop-i-preserved
loop-i-preserved g c =
    let setting = setting_view c.args.setting in
    let of = made_of g.H.Head.with in
    let item = c.index-items-i.result in
    let before = texts c.loop-i.shared.keys in
    let after = texts c.record_of.new.shared.keys in
    let seen : after ≡ shared_after before (code_lines (view item)) = c.in_ok-record.ensures.shared in
    let same : g.H.Head.record_view c.in_ok-record.record.0 ≡ of before (view item) = c.in_ok-record.ensures.judged.1 in
    rw (c.in_ok-push.ensures.items, c.in_ok-push-2.ensures.items) (record {
      judged = sym (bodies_go_on c.args.owner setting before after c.args.items.now c.loop-i.i item c.loop-i-test.true c.index-items-i.is c.in_ok-record.ensures.judged.0 seen) ∙ c.loop-i.invariant.judged;
      found = sym (records_found g.H.Head.record_view of before after c.loop-i.records.items c.in_ok-record.record.0 c.args.items.now c.loop-i.i item c.loop-i-test.true c.index-items-i.is seen same) ∙ c.loop-i.invariant.found;
      listed = sym (listings_found before after c.loop-i.listings.items c.in_ok-record.record.1 c.args.items.now c.loop-i.i item c.loop-i-test.true c.index-items-i.is seen c.in_ok-record.ensures.listing) ∙ c.loop-i.invariant.listed;
      names = sym (shared_go_on before after c.args.items.now c.loop-i.i item c.loop-i-test.true c.index-items-i.is seen) ∙ c.loop-i.invariant.names;
    })
