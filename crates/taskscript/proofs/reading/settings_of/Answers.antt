-- The proof of `settings_of`.
use Rattle.std.proofs.Common.{◌≡◌, codes, pos, rules}
use Rattle.std.proofs.lemmas.Result.{err_from_is_err_and}
use Rattle.toml.specs.Data.{get_member}
use Rattle.toml.specs.View.{table_view}
use Rattle.taskscript.specs.declared.place.Key.TheVariants as key
use Rattle.taskscript.specs.{declared.place.TablePlace.TheVariants.Top, Places.at, Places.key_at, Tree.optional, Tree.integer_faults, Tree.number_or}
use Rattle.taskscript.proofs.Firsts.{skip, both}
use Rattle.taskscript.proofs.reading.settings_of.Goals as goal

pub returns-in_err-pool : goal.returns-in_err-pool
returns-in_err-pool c =
    let p = err_from_is_err_and c.from_residual-in_err-pool.result c.from_residual-in_err-pool.ensures.1 in
    let f = c.in_err-pool.field-0.0 in
    let t = table_view c.args.table.now in
    rw (p.1, p.2) (skip (at (key_at Top key.Version) (optional (integer_faults (pos 1) (pos 2)) (get_member (codes "version") t))) _ f c.in_ok-version.ensures.exact.0
    (skip (at (key_at Top key.Quantum) (optional (integer_faults (pos 1) (pos 255)) (get_member (codes "quantum") t))) _ f c.in_ok-quantum.ensures.exact.0
    (skip (at (key_at Top key.TickMicros) (optional (integer_faults (pos 1) (pos 1000000)) (get_member (codes "tick_micros") t))) _ f c.in_ok-tick_micros.ensures.exact.0 c.in_err-pool.ensures.exact)))

pub returns : goal.returns
returns c =
    let t = table_view c.args.table.now in
    let version : c.in_ok-version.version ≡ number_or 1 (get_member (codes "version") t) = c.in_ok-version.ensures.exact.1 in
    let quantum : c.in_ok-quantum.quantum ≡ number_or 4 (get_member (codes "quantum") t) = c.in_ok-quantum.ensures.exact.1 in
    let tick : c.in_ok-tick_micros.tick_micros ≡ number_or 20000 (get_member (codes "tick_micros") t) = c.in_ok-tick_micros.ensures.exact.1 in
    let pool : c.in_ok-pool.pool ≡ number_or 64 (get_member (codes "pool") t) = c.in_ok-pool.ensures.exact.1 in (
      both (at (key_at Top key.Version) (optional (integer_faults (pos 1) (pos 2)) (get_member (codes "version") t))) _ c.in_ok-version.ensures.exact.0
          (both (at (key_at Top key.Quantum) (optional (integer_faults (pos 1) (pos 255)) (get_member (codes "quantum") t))) _ c.in_ok-quantum.ensures.exact.0
          (both (at (key_at Top key.TickMicros) (optional (integer_faults (pos 1) (pos 1000000)) (get_member (codes "tick_micros") t))) _ c.in_ok-tick_micros.ensures.exact.0 c.in_ok-pool.ensures.exact.0)),
      search (rules, version, quantum, tick, pool),
    )
