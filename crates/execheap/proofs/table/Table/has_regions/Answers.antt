-- One more region is the same; past the last one there is none.
use Rattle.std.proofs.Common.{◌≡◌, true, false, length, slice_get, ap, arith, sym, subst, take, ◌∙◌}
use Rattle.std.proofs.lemmas.Option.{slice_get-get_or}
use Rattle.execheap.specs.Table.{Tabled}
use Rattle.execheap.proofs.Alike.{none_is, none_of, past_end, same_more, same_whole}
use Rattle.execheap.proofs.table.Table.has_regions.Goals as goal

pub loop-k-preserved : goal.loop-k-preserved
loop-k-preserved g c = same_more c.args.self.now.memory.regions c.args.regions.now c.loop-k.k c.loop-k.invariant
    (ap (λ (t : Tabled). slice_get t.memory.regions c.loop-k.k) (sym c.self.view_is) ∙ sym c.region.ensures ∙ c.is_region.ensures.0 c.if-not-is_region.false
    ∙ sym (slice_get-get_or c.args.regions.now c.loop-k.k _ c.loop-k-test.true))

-- one that is not that one is not the same, nor are more
pub returns-then-not-is_region : goal.returns-then-not-is_region
returns-then-not-is_region g c = (
  λ e. cc,
  λ same.
      let bad : true ≡ false = sym (c.is_region.ensures.1 (c.region.ensures ∙ ap (λ (t : Tabled). slice_get t.memory.regions c.loop-k.k) c.self.view_is
      ∙ ap (λ xs. slice_get xs c.loop-k.k) same ∙ slice_get-get_or c.args.regions.now c.loop-k.k _ c.loop-k-test.true)) ∙ c.if-not-is_region.true in cc,
)

pub returns : goal.returns
returns g c = (
  λ none. same_whole c.args.self.now.memory.regions c.args.regions.now
      (subst (λ n. take n c.args.self.now.memory.regions ≡ take n c.args.regions.now) (let all : c.loop-k.k ≡ length c.args.regions.now = omega (arith, c.loop-k-test.false, c.loop-k.auto.k-end) in all) c.loop-k.invariant)
      (ap (λ (t : Tabled). slice_get t.memory.regions (length c.args.regions.now)) (sym c.self.view_is) ∙ sym c.region-2.ensures
      ∙ none_of c.region-2.result c.is_none.result c.is_none.ensures none),
  λ same. none_is c.region-2.result c.is_none.result c.is_none.ensures
      (c.region-2.ensures ∙ ap (λ (t : Tabled). slice_get t.memory.regions (length c.args.regions.now)) c.self.view_is
      ∙ ap (λ xs. slice_get xs (length c.args.regions.now)) same ∙ past_end c.args.regions.now),
)
