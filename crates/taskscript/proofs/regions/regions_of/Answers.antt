-- The proof of `regions_of`.
use Rattle.std.proofs.Common.{◌≡◌, sym, ◌∙◌, None}
use Rattle.std.proofs.lemmas.Result.{err_from_is_err_and}
use Rattle.toml.specs.View.{view}
use Rattle.execlist.specs.Order.{first}
use Rattle.taskscript.specs.File.{region_item_faults, region_of}
use Rattle.taskscript.proofs.ItemTurns.{items_stop, items_go_on, regions_found}
use Rattle.taskscript.proofs.regions.regions_of.Goals as goal

pub returns-in_err-region : goal.returns-in_err-region
returns-in_err-region c =
    let p = err_from_is_err_and c.from_residual.result c.from_residual.ensures.1 in
    rw (p.1, p.2) (items_stop region_item_faults c.args.items.now c.loop-i.i c.index-items-i.result c.in_err-region.field-0.0 c.loop-i-test.true c.index-items-i.is c.loop-i.invariant.judged c.in_err-region.ensures)

pub loop-i-preserved : goal.loop-i-preserved
loop-i-preserved c =
    let good : first (region_item_faults c.loop-i.i (view c.index-items-i.result)) ≡ None = c.in_ok-region.ensures.0 in
    let same : c.in_ok-region.region ≡ region_of (view c.index-items-i.result) = c.in_ok-region.ensures.1 in
    rw c.in_ok-push.ensures.items (record {
      judged = sym (items_go_on region_item_faults c.args.items.now c.loop-i.i c.index-items-i.result c.loop-i-test.true c.index-items-i.is good) ∙ c.loop-i.invariant.judged;
      found = sym (regions_found c.loop-i.regions.items c.in_ok-region.region c.args.items.now c.loop-i.i c.index-items-i.result c.loop-i-test.true c.index-items-i.is same) ∙ c.loop-i.invariant.found;
    })
