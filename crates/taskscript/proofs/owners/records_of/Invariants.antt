-- What holds in the loops of `records_of`: the second pass over the items of an array, whose heads the first one kept.
use Rattle.std.proofs.Common.{◌≡◌, drop, map, ◌++◌}
use Rattle.toml.specs.View.{items_view}
use Rattle.execlist.specs.Order.{first}
use Rattle.script.specs.Names.{texts}
use Rattle.taskscript.specs.{File.bodies_faults, File.shared_after_bodies, File.with_bodies, Listings.owner_listing, Records.setting_view, Records.made_of}
use Rattle.taskscript.proofs.owners.records_of.Given as goal

abbrev pub invariant-loop-i : goal.invariant-loop-i
invariant-loop-i g l =
    let setting = setting_view l.setting in
    let of = made_of g.H.Head.with in
    let left = items_view (drop l.i l.items) in
    let all = items_view l.items in
    record {
      judged : first (bodies_faults l.owner l.i setting (texts l.shared.keys) left) ≡ first (bodies_faults l.owner 0 setting (texts l.fn.shared.keys) all);
      found : map g.H.Head.record_view l.records.items ++ with_bodies of (texts l.shared.keys) left ≡ with_bodies of (texts l.fn.shared.keys) all;
      listed : l.listings.items ++ with_bodies owner_listing (texts l.shared.keys) left ≡ with_bodies owner_listing (texts l.fn.shared.keys) all;
      names : shared_after_bodies (texts l.shared.keys) left ≡ shared_after_bodies (texts l.fn.shared.keys) all;
    }
