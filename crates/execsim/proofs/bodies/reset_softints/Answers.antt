-- One more software interrupt is that of the file; its name, its priority and the number of its commands stay.
use Rattle.std.proofs.Common.{◌≡◌, ◌<◌, ◌≤◌, true, false, length, map, ap, arith, refl, sym, ◌∙◌, length-set}
use Rattle.std.proofs.lemmas.{List.length-map, Simd.map-map}
use Rattle.script.specs.File.{SoftintData}
use Rattle.script.specs.declared.file.SoftintRecord.{SoftintRecord}
use Rattle.script.specs.Records as records
use Rattle.execsim.specs.{declared.bodies.Softint.Softint, Resetting.softint_shape, Views.softint_view}
use Rattle.execsim.proofs.Written.{all_same, one_more_seen, same_there, seen_kept}
use Rattle.execsim.proofs.bodies.reset_softints.Goals as goal

pub returns-then-not-reset_softint-clause-names : goal.returns-then-not-reset_softint-clause-names
returns-then-not-reset_softint-clause-names c =
    let stays = ap (λ n. n.bytes) c.reset_softint.ensures.name ∙ ap (λ (s : Softint). s.name.bytes) c.index_mut.ensures.value in
    seen_kept (λ (s : SoftintData). s.name) softint_view c.loop-i.softints.items c.loop-i.i c.reset_softint.new.softint c.index_mut.result.now stays ∙ c.loop-i.invariant.names

pub returns-then-not-reset_softint-clause-pris : goal.returns-then-not-reset_softint-clause-pris
returns-then-not-reset_softint-clause-pris c =
    let stays = c.reset_softint.ensures.pri ∙ ap (λ (s : Softint). s.pri) c.index_mut.ensures.value in
    seen_kept (λ (s : SoftintData). s.pri) softint_view c.loop-i.softints.items c.loop-i.i c.reset_softint.new.softint c.index_mut.result.now stays ∙ c.loop-i.invariant.pris

pub loop-i-preserved : goal.loop-i-preserved
loop-i-preserved c =
    let file = c.args.file.now in
    let softints = c.loop-i.softints.items in
    let i = c.loop-i.i in
    let new = c.reset_softint.new.softint in
    let old = c.index_mut.result.now in
    let within : i < length softints = omega (arith, c.loop-i-test.true, c.loop-i.invariant.count) in
    record {
      same = one_more_seen softint_view records.softint_view softints file i new c.index-file-i.result within c.loop-i-test.true c.index-file-i.is
          (c.reset_softint.ensures.same c.if-not-reset_softint.false) c.loop-i.invariant.same;
      names = seen_kept (λ (s : SoftintData). s.name) softint_view softints i new old
          (ap (λ n. n.bytes) c.reset_softint.ensures.name ∙ ap (λ (s : Softint). s.name.bytes) c.index_mut.ensures.value) ∙ c.loop-i.invariant.names;
      pris = seen_kept (λ (s : SoftintData). s.pri) softint_view softints i new old
          (c.reset_softint.ensures.pri ∙ ap (λ (s : Softint). s.pri) c.index_mut.ensures.value) ∙ c.loop-i.invariant.pris;
      shapes = seen_kept softint_shape softint_view softints i new old (c.reset_softint.ensures.kept ∙ ap (λ (s : Softint). softint_shape (softint_view s)) c.index_mut.ensures.value)
          ∙ c.loop-i.invariant.shapes;
      count = length-set softints i new ∙ c.loop-i.invariant.count;
    }

-- one that has no room for that of the file: then not all have
pub returns-then-not-reset_softint-clause-answer : goal.returns-then-not-reset_softint-clause-answer
returns-then-not-reset_softint-clause-answer c = (
  λ e. cc,
  λ same.
      let softints = c.loop-i.softints.items in
      let file = c.args.file.now in
      let i = c.loop-i.i in
      let shown = λ (s : Softint). softint_shape (softint_view s) in
      let stated = λ (r : SoftintRecord). softint_shape (records.softint_view r) in
      let within : i < length softints = omega (arith, c.loop-i-test.true, c.loop-i.invariant.count) in
      let all : map shown softints ≡ map stated file = sym (map-map softint_shape softint_view softints) ∙ c.loop-i.invariant.shapes ∙ same ∙ map-map softint_shape records.softint_view file in
      let bad : true ≡ false = sym (c.reset_softint.ensures.answer.1 (same_there shown stated softints file i c.index_mut.result.now c.index-file-i.result
      within c.loop-i-test.true c.index_mut.ensures.value c.index-file-i.is all)) ∙ c.if-not-reset_softint.true in cc,
)

pub returns-clause-answer : goal.returns-clause-answer
returns-clause-answer c = (
  λ _.
      let softints = c.loop-i.softints.items in
      let file = c.args.file.now in
      let i = c.loop-i.i in
      let ends_softints : length (map softint_view softints) ≤ i = omega (arith, c.loop-i-test.false, c.loop-i.invariant.count, length-map softints softint_view) in
      let ends_file : length (map records.softint_view file) ≤ i = omega (arith, c.loop-i-test.false, length-map file records.softint_view) in
      sym c.loop-i.invariant.shapes ∙ ap (map softint_shape) (all_same (map softint_view softints) (map records.softint_view file) i ends_softints ends_file c.loop-i.invariant.same),
  λ _. refl,
)
