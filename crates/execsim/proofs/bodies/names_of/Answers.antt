-- A name that differs from all before it is put in after them.
use Rattle.std.proofs.Common.{◌≡◌, ◌+◌, List, ap, refl, sym, ◌∙◌, ◌≢◌, map, take, subst, ℕ, AllPairs}
use Rattle.arrayvec.specs.ArrayString.{ArrayString}
use Rattle.script.specs.{declared.file.SoftintRecord.SoftintRecord, File.SoftintData, Names.texts, Records.softint_view}
use Rattle.execsim.proofs.{BodyNames.name_put_in, Calling.map-map_as}
use Rattle.execsim.proofs.bodies.names_of.Goals as goal

named : (xs : List SoftintRecord) → map (λ (r : SoftintRecord). r.name.bytes) xs ≡ map (λ (i : SoftintData). i.name) (map softint_view xs)
named xs = map-map_as (λ (i : SoftintData). i.name) softint_view xs

pub loop-softint-preserved : goal.loop-softint-preserved
loop-softint-preserved c =
    let all = c.args.softints.now in
    let k = c.loop-softint.softint-index in
    let differ = subst (AllPairs (λ (s t : List ℕ). s ≢ t)) (sym (named all)) c.requires in
    ap texts c.in_ok-insert.ensures.keys
    ∙ name_put_in (λ (n : ArrayString). n.bytes) (λ (r : SoftintRecord). r.name.bytes) c.loop-softint.names.keys all k c.softint-item.result.name c.softint-item.result
    c.loop-softint-test.true c.softint-item.is refl differ (c.loop-softint.invariant ∙ sym (named (take k all)))
    ∙ named (take (k + 1) all)
