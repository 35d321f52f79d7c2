-- The proof of `region_in`: the region of a table, whose keys and values are judged in their order.
use Rattle.std.proofs.Common.{◌≡◌, sym, ◌∙◌, ap, Bool, codes, pos, rules}
use Rattle.std.proofs.lemmas.Result.{err_from_is_err_and}
use Rattle.toml.specs.Data.{get_member}
use Rattle.toml.specs.View.{table_view}
use Rattle.taskscript.specs.declared.place.Key.TheVariants as key
use Rattle.taskscript.specs.{declared.fault.FileFault.TheVariants.UnknownKey, Faults.check, File.region_keys, Places.at, Places.key_at, Places.unknown_key_at, Tree.required, Tree.optional, Tree.keys_are_among, Tree.integer_faults, Tree.pri_faults, Tree.number_or, Tree.pri_in}
use Rattle.execlist.specs.Order.{first}
use Rattle.taskscript.proofs.Firsts.{skip, both}
use Rattle.taskscript.proofs.regions.region_in.Goals as goal

pub returns-in_err-pri : goal.returns-in_err-pri
returns-in_err-pri c =
    let p = err_from_is_err_and c.from_residual-in_err-pri.result c.from_residual-in_err-pri.ensures.1 in
    let f = c.in_err-pri.field-0.0 in
    let t = table_view c.args.table.now in
    let keys = ap (λ (b : Bool). first (at (unknown_key_at c.args.of) (check b UnknownKey))) (sym c.has_only.ensures ∙ c.if-not-has_only.false) in
    rw (p.1, p.2) (skip (at (unknown_key_at c.args.of) (check (keys_are_among region_keys t) UnknownKey)) _ f keys
    (skip (at (key_at c.args.of key.Base) (required (integer_faults (pos 0) (pos 4294967295)) (get_member (codes "base") t))) _ f c.in_ok-base.ensures.exact.0
    (skip (at (key_at c.args.of key.Size) (required (integer_faults (pos 0) (pos 4294967295)) (get_member (codes "size") t))) _ f c.in_ok-size.ensures.exact.0
    (skip (at (key_at c.args.of key.Attrs) (optional (integer_faults (pos 0) (pos 7)) (get_member (codes "attrs") t))) (at (key_at c.args.of key.Pri) (pri_faults t)) f c.in_ok-attrs.ensures.exact.0 c.in_err-pri.ensures))))

pub returns : goal.returns
returns c =
    let t = table_view c.args.table.now in
    let keys = ap (λ (b : Bool). first (at (unknown_key_at c.args.of) (check b UnknownKey))) (sym c.has_only.ensures ∙ c.if-not-has_only.false) in
    let base : c.in_ok-base.base ≡ number_or 0 (get_member (codes "base") t) = c.in_ok-base.ensures.exact.1 in
    let size : c.in_ok-size.size ≡ number_or 0 (get_member (codes "size") t) = c.in_ok-size.ensures.exact.1 in
    let attrs : c.in_ok-attrs.attrs ≡ number_or 1 (get_member (codes "attrs") t) = c.in_ok-attrs.ensures.exact.1 in
    let pri : c.in_ok-pri.pri ≡ pri_in t = c.in_ok-pri.ensures.1 in (
      both (at (unknown_key_at c.args.of) (check (keys_are_among region_keys t) UnknownKey)) _ keys
          (both (at (key_at c.args.of key.Base) (required (integer_faults (pos 0) (pos 4294967295)) (get_member (codes "base") t))) _ c.in_ok-base.ensures.exact.0
          (both (at (key_at c.args.of key.Size) (required (integer_faults (pos 0) (pos 4294967295)) (get_member (codes "size") t))) _ c.in_ok-size.ensures.exact.0
          (both (at (key_at c.args.of key.Attrs) (optional (integer_faults (pos 0) (pos 7)) (get_member (codes "attrs") t))) (at (key_at c.args.of key.Pri) (pri_faults t)) c.in_ok-attrs.ensures.exact.0 c.in_ok-pri.ensures.0))),
      search (rules, base, size, attrs, pri),
    )
