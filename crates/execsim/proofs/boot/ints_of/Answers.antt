-- The priorities and the sources are those of the records.
use Rattle.std.proofs.Common.{All, sym, subst}
use Rattle.softint.specs.{Interrupts.IsPriority, declared.interrupt.Soft.Soft}
use Rattle.script.specs.{declared.file.SoftintRecord.SoftintRecord, File.SoftintData, Records.softint_view}
use Rattle.execsim.proofs.{Accepted.all_shown, Accepted.all_under, Calling.map-map_as}
use Rattle.execsim.proofs.boot.ints_of.Goals as goal

pub new-requires-clause-priorities : goal.new-requires-clause-priorities
new-requires-clause-priorities g c =
    let of_records = all_under (λ (s : SoftintData). IsPriority s.pri) softint_view c.args.softints.now c.requires.priorities in
    let shown = all_shown IsPriority (λ (r : SoftintRecord). r.pri) c.args.softints.now of_records in
    rw c.deref.ensures.value (all_under IsPriority (λ (s : Soft). s.pri) c.in_ok-softs.softs.items (subst (All IsPriority) (sym c.in_ok-softs.ensures.pris) shown))

pub returns : goal.returns
returns g c = rw (
  c.deref.ensures.value,
  c.in_ok-softs.ensures.pris,
  c.deref-2.ensures.value,
  c.in_ok-sources.ensures.servers,
  map-map_as (λ (s : SoftintData). s.pri) softint_view c.args.softints.now,
) at c.new.ensures
