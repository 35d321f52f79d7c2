-- One more is bare, and then all are.
use Rattle.std.proofs.Common.{rules, arith, ◌≡◌, All, map, true, sym, subst}
use Rattle.script.specs.{Commands.command_view, File.SoftintData, Records.softint_view, declared.file.SoftintRecord.SoftintRecord}
use Rattle.statekeys.specs.Fits.{HasBareWord}
use Rattle.statekeys.proofs.BareLemmas.{all_more, all_end}
use Rattle.statekeys.proofs.bare.are_bare_softints.Goals as goal

pub loop-softint-preserved : goal.loop-softint-preserved
loop-softint-preserved c =
    let code = c.is_bare_code.ensures c.if-not-is_bare_code.false in
    let one : All HasBareWord (map command_view c.softint-item.result.code.items) = search rules in
    all_more (λ (it : SoftintData). All HasBareWord it.code) softint_view c.args.softints.now c.loop-softint.softint-index c.softint-item.result c.loop-softint-test.true c.loop-softint.invariant
    (subst (λ (x : SoftintRecord). All HasBareWord (softint_view x).code) c.softint-item.is one)

pub returns : goal.returns
returns c = λ is. all_end (λ (it : SoftintData). All HasBareWord it.code) softint_view c.args.softints.now c.loop-softint.softint-index (omega arith) c.loop-softint.invariant
