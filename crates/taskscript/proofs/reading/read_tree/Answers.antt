-- The proof of `read_tree`: reads a machine file out of its tree, as `read_placed` does out of its bytes.
use Rattle.std.proofs.Common.{sym, ◌∙◌, ◌++◌, ap, map, Bool, None, Some}
use Rattle.std.proofs.lemmas.Result.{err_from_is_err_and}
use Rattle.toml.specs.View.{table_view}
use Rattle.script.specs.{File.total_of, Records.library_view, Records.softint_view, Records.server_view, Records.task_view}
use Rattle.taskscript.specs.{declared.fault.FileFault.TheVariants.UnknownKey, declared.place.TablePlace.TheVariants.Top, Faults.check, File.top_keys, File.version_of, File.settings_faults, File.regions_faults, File.libraries_faults, File.both_passes_faults, Places.at, Places.unknown_key_at, Tree.keys_are_among}
use Rattle.execlist.specs.Order.{first}
use Rattle.taskscript.proofs.{Firsts.first_some, Firsts.skip, Firsts.both, Machines.in_version, Machines.read_holds, Machines.read_is}
use Rattle.taskscript.proofs.reading.read_tree.Goals as goal

pub new-machine-requires : goal.new-machine-requires
new-machine-requires c =
    let owners = c.in_ok-owners.owners in
    read_holds (table_view c.args.table.now) c.in_ok-settings.settings.version c.in_ok-settings.settings.quantum c.in_ok-settings.settings.tick_micros c.in_ok-settings.settings.pool c.in_ok-regions.regions.items
    (map library_view c.in_ok-libraries.libraries.items) (map softint_view owners.softints.items) (map server_view owners.servers.items) (map task_view owners.tasks.items)
    (record { settings = c.in_ok-settings.ensures.0; regions = in_version (table_view c.args.table.now) c.in_ok-settings.settings.version c.total_of.result None c.in_ok-settings.ensures.1.0 c.total_of.ensures c.in_ok-regions.ensures.0; libraries = c.in_ok-libraries.ensures.0; passes = c.in_ok-owners.ensures.0 })
    c.in_ok-settings.ensures.1.0 c.in_ok-settings.ensures.1.1 c.in_ok-settings.ensures.1.2 c.in_ok-settings.ensures.1.3 c.in_ok-regions.ensures.1 c.in_ok-libraries.ensures.1 c.in_ok-owners.ensures.1.softints c.in_ok-owners.ensures.1.servers c.in_ok-owners.ensures.1.tasks

pub returns-in_err-settings : goal.returns-in_err-settings
returns-in_err-settings c =
    let p = err_from_is_err_and c.from_residual.result c.from_residual.ensures.1 in
    let f = c.in_err-settings.field-0.0 in
    let t = table_view c.args.table.now in
    let keys = ap (λ (b : Bool). first (at (unknown_key_at Top) (check b UnknownKey))) (sym c.has_only.ensures ∙ c.if-not-has_only.false) in
    rw (p.1, p.2) (skip (at (unknown_key_at Top) (check (keys_are_among top_keys t) UnknownKey)) _ f keys
    (λ ne. first_some (settings_faults t) (regions_faults (total_of (version_of t)) t ++ (libraries_faults t ++ both_passes_faults t)) f (c.in_err-settings.ensures ne)))

pub returns-in_err-regions : goal.returns-in_err-regions
returns-in_err-regions c =
    let p = err_from_is_err_and c.from_residual-in_err-regions.result c.from_residual-in_err-regions.ensures.1 in
    let f = c.in_err-regions.field-0.0 in
    let t = table_view c.args.table.now in
    let keys = ap (λ (b : Bool). first (at (unknown_key_at Top) (check b UnknownKey))) (sym c.has_only.ensures ∙ c.if-not-has_only.false) in
    rw (p.1, p.2) (skip (at (unknown_key_at Top) (check (keys_are_among top_keys t) UnknownKey)) _ f keys
    (skip (settings_faults t) _ f c.in_ok-settings.ensures.0 (λ ne. first_some (regions_faults (total_of (version_of t)) t) (libraries_faults t ++ both_passes_faults t) f (in_version t c.in_ok-settings.settings.version c.total_of.result (Some f) c.in_ok-settings.ensures.1.0 c.total_of.ensures (c.in_err-regions.ensures ne)))))

pub returns-in_err-libraries : goal.returns-in_err-libraries
returns-in_err-libraries c =
    let p = err_from_is_err_and c.from_residual-in_err-libraries.result c.from_residual-in_err-libraries.ensures.1 in
    let f = c.in_err-libraries.field-0.0 in
    let t = table_view c.args.table.now in
    let regions = in_version t c.in_ok-settings.settings.version c.total_of.result None c.in_ok-settings.ensures.1.0 c.total_of.ensures c.in_ok-regions.ensures.0 in
    let keys = ap (λ (b : Bool). first (at (unknown_key_at Top) (check b UnknownKey))) (sym c.has_only.ensures ∙ c.if-not-has_only.false) in
    rw (p.1, p.2) (skip (at (unknown_key_at Top) (check (keys_are_among top_keys t) UnknownKey)) _ f keys
    (skip (settings_faults t) _ f c.in_ok-settings.ensures.0
    (skip (regions_faults (total_of (version_of t)) t) _ f regions (λ ne. first_some (libraries_faults t) (both_passes_faults t) f (c.in_err-libraries.ensures ne)))))

pub returns-in_err-owners : goal.returns-in_err-owners
returns-in_err-owners c =
    let p = err_from_is_err_and c.from_residual-in_err-owners.result c.from_residual-in_err-owners.ensures.1 in
    let f = c.in_err-owners.field-0.0 in
    let t = table_view c.args.table.now in
    let regions = in_version t c.in_ok-settings.settings.version c.total_of.result None c.in_ok-settings.ensures.1.0 c.total_of.ensures c.in_ok-regions.ensures.0 in
    let keys = ap (λ (b : Bool). first (at (unknown_key_at Top) (check b UnknownKey))) (sym c.has_only.ensures ∙ c.if-not-has_only.false) in
    rw (p.1, p.2) (skip (at (unknown_key_at Top) (check (keys_are_among top_keys t) UnknownKey)) _ f keys
    (skip (settings_faults t) _ f c.in_ok-settings.ensures.0
    (skip (regions_faults (total_of (version_of t)) t) _ f regions
    (skip (libraries_faults t) (both_passes_faults t) f c.in_ok-libraries.ensures.0 c.in_err-owners.ensures))))

pub returns : goal.returns
returns c =
    let t = table_view c.args.table.now in
    let owners = c.in_ok-owners.owners in
    let regions = in_version t c.in_ok-settings.settings.version c.total_of.result None c.in_ok-settings.ensures.1.0 c.total_of.ensures c.in_ok-regions.ensures.0 in
    let keys = ap (λ (b : Bool). first (at (unknown_key_at Top) (check b UnknownKey))) (sym c.has_only.ensures ∙ c.if-not-has_only.false) in (
      both (at (unknown_key_at Top) (check (keys_are_among top_keys t) UnknownKey)) _ keys
          (both (settings_faults t) _ c.in_ok-settings.ensures.0
          (both (regions_faults (total_of (version_of t)) t) _ regions
          (both (libraries_faults t) (both_passes_faults t) c.in_ok-libraries.ensures.0 c.in_ok-owners.ensures.0))),
      (
        c.new-machine.ensures ∙ read_is t c.in_ok-settings.settings.version c.in_ok-settings.settings.quantum c.in_ok-settings.settings.tick_micros c.in_ok-settings.settings.pool c.in_ok-regions.regions.items
            (map library_view c.in_ok-libraries.libraries.items) (map softint_view owners.softints.items) (map server_view owners.servers.items) (map task_view owners.tasks.items)
            c.in_ok-settings.ensures.1.0 c.in_ok-settings.ensures.1.1 c.in_ok-settings.ensures.1.2 c.in_ok-settings.ensures.1.3 c.in_ok-regions.ensures.1 c.in_ok-libraries.ensures.1 c.in_ok-owners.ensures.1.softints c.in_ok-owners.ensures.1.servers c.in_ok-owners.ensures.1.tasks,
        c.in_ok-owners.ensures.1.listing,
      ),
    )
