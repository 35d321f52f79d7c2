-- The proof of `ServerHeadNamed::head_in`.
use Rattle.std.proofs.Common.{sym, ◌∙◌, ap, Bool, codes}
use Rattle.std.proofs.lemmas.Result.{err_from_is_err_and}
use Rattle.toml.specs.Data.{get_member}
use Rattle.toml.specs.View.{table_view}
use Rattle.taskscript.specs.declared.place.Key.TheVariants as key
use Rattle.script.specs.Names.{texts}
use Rattle.taskscript.specs.{declared.fault.FileFault.TheVariants.UnknownKey, Faults.check, File.server_keys, Places.at, Places.key_at, Places.unknown_key_at, Tree.required, Tree.optional, Tree.keys_are_among, Tree.pri_faults, Tree.source_faults, Tree.boolean_faults, Tree.name_faults, Tree.code_faults}
use Rattle.execlist.specs.Order.{first}
use Rattle.taskscript.proofs.Firsts.{first_some, skip}
use Rattle.taskscript.proofs.heads.ServerHeadNamed.head_in.Goals as goal

pub returns-in_err-name-clause-judged : goal.returns-in_err-name-clause-judged
returns-in_err-name-clause-judged c =
    let p = err_from_is_err_and c.from_residual.result c.from_residual.ensures.1 in
    let f = c.in_err-name.field-0.0 in
    let t = table_view c.args.table.now in
    let keys = ap (λ (b : Bool). first (at (unknown_key_at c.args.of) (check b UnknownKey))) (sym c.has_only.ensures ∙ c.if-not-has_only.false) in
    rw (p.1, p.2) (skip (at (unknown_key_at c.args.of) (check (keys_are_among server_keys t) UnknownKey)) _ f keys
    (λ ne. first_some (at (key_at c.args.of key.Name) (required (name_faults (texts c.args.names.now.items)) (get_member (codes "name") t))) _ f (c.in_err-name.ensures.judged ne)))

pub returns-in_err-source-clause-judged : goal.returns-in_err-source-clause-judged
returns-in_err-source-clause-judged c =
    let p = err_from_is_err_and c.from_residual-in_err-source.result c.from_residual-in_err-source.ensures.1 in
    let f = c.in_err-source.field-0.0 in
    let t = table_view c.args.table.now in
    let keys = ap (λ (b : Bool). first (at (unknown_key_at c.args.of) (check b UnknownKey))) (sym c.has_only.ensures ∙ c.if-not-has_only.false) in
    rw (p.1, p.2) (skip (at (unknown_key_at c.args.of) (check (keys_are_among server_keys t) UnknownKey)) _ f keys
    (skip (at (key_at c.args.of key.Name) (required (name_faults (texts c.args.names.now.items)) (get_member (codes "name") t))) _ f c.in_ok-name.ensures.judged.0
    (λ ne. first_some (at (key_at c.args.of key.Source) (required source_faults (get_member (codes "source") t))) _ f (c.in_err-source.ensures ne))))

pub returns-in_err-pri-clause-judged : goal.returns-in_err-pri-clause-judged
returns-in_err-pri-clause-judged c =
    let p = err_from_is_err_and c.from_residual-in_err-pri.result c.from_residual-in_err-pri.ensures.1 in
    let f = c.in_err-pri.field-0.0 in
    let t = table_view c.args.table.now in
    let keys = ap (λ (b : Bool). first (at (unknown_key_at c.args.of) (check b UnknownKey))) (sym c.has_only.ensures ∙ c.if-not-has_only.false) in
    rw (p.1, p.2) (skip (at (unknown_key_at c.args.of) (check (keys_are_among server_keys t) UnknownKey)) _ f keys
    (skip (at (key_at c.args.of key.Name) (required (name_faults (texts c.args.names.now.items)) (get_member (codes "name") t))) _ f c.in_ok-name.ensures.judged.0
    (skip (at (key_at c.args.of key.Source) (required source_faults (get_member (codes "source") t))) _ f c.in_ok-source.ensures.0
    (λ ne. first_some (at (key_at c.args.of key.Pri) (pri_faults t)) _ f (c.in_err-pri.ensures ne)))))

pub returns-in_err-claim-clause-judged : goal.returns-in_err-claim-clause-judged
returns-in_err-claim-clause-judged c =
    let p = err_from_is_err_and c.from_residual-in_err-claim.result c.from_residual-in_err-claim.ensures.1 in
    let f = c.in_err-claim.field-0.0 in
    let t = table_view c.args.table.now in
    let keys = ap (λ (b : Bool). first (at (unknown_key_at c.args.of) (check b UnknownKey))) (sym c.has_only.ensures ∙ c.if-not-has_only.false) in
    rw (p.1, p.2) (skip (at (unknown_key_at c.args.of) (check (keys_are_among server_keys t) UnknownKey)) _ f keys
    (skip (at (key_at c.args.of key.Name) (required (name_faults (texts c.args.names.now.items)) (get_member (codes "name") t))) _ f c.in_ok-name.ensures.judged.0
    (skip (at (key_at c.args.of key.Source) (required source_faults (get_member (codes "source") t))) _ f c.in_ok-source.ensures.0
    (skip (at (key_at c.args.of key.Pri) (pri_faults t)) _ f c.in_ok-pri.ensures.0
    (λ ne. first_some (at (key_at c.args.of key.Claim) (optional boolean_faults (get_member (codes "claim") t))) (at (key_at c.args.of key.Code) (required code_faults (get_member (codes "code") t))) f (c.in_err-claim.ensures ne))))))

pub returns-in_err-check_code-clause-judged : goal.returns-in_err-check_code-clause-judged
returns-in_err-check_code-clause-judged c =
    let p = err_from_is_err_and c.from_residual-in_err-check_code.result c.from_residual-in_err-check_code.ensures.1 in
    let f = c.in_err-check_code.field-0.0 in
    let t = table_view c.args.table.now in
    let keys = ap (λ (b : Bool). first (at (unknown_key_at c.args.of) (check b UnknownKey))) (sym c.has_only.ensures ∙ c.if-not-has_only.false) in
    rw (p.1, p.2) (skip (at (unknown_key_at c.args.of) (check (keys_are_among server_keys t) UnknownKey)) _ f keys
    (skip (at (key_at c.args.of key.Name) (required (name_faults (texts c.args.names.now.items)) (get_member (codes "name") t))) _ f c.in_ok-name.ensures.judged.0
    (skip (at (key_at c.args.of key.Source) (required source_faults (get_member (codes "source") t))) _ f c.in_ok-source.ensures.0
    (skip (at (key_at c.args.of key.Pri) (pri_faults t)) _ f c.in_ok-pri.ensures.0
    (skip (at (key_at c.args.of key.Claim) (optional boolean_faults (get_member (codes "claim") t))) (at (key_at c.args.of key.Code) (required code_faults (get_member (codes "code") t))) f c.in_ok-claim.ensures.0 c.in_err-check_code.ensures)))))
