-- Clock and system time change: all objects are shown as they were.
use Rattle.std.proofs.Common.{◌≡◌, ℕ, map, refl, ap}
use Rattle.std.proofs.Math.Path.{fun_ext}
use Rattle.timerdev.specs.{Held.Held, Held.on_timer as on_held, Timing.Timer}
use Rattle.execmodel.specs.State.{Block, on_timer}
use Rattle.execheap.specs.{declared.tag.Kind.Kind, declared.tag.Tagged.Tagged, Tags.tagged, Numbered.Numbered, Numbered.object_of, Numbered.shown_heap, Numbered.shown_memory, Numbered.shown_tagged, Numbered.shown_timer, Requesting.on_timing}
use Rattle.execheap.specs.declared.tag.Kind.TheVariants as variant
use Rattle.execheap.specs.declared.tag.Tagged.TheVariants as tag

module _ (s : Numbered) (t : Held) where
  abbrev beside : Numbered
  beside = record s { timing = t }

  object_same : (k : Kind) (m : ℕ) → object_of k m beside ≡ object_of k m s
  object_same variant.List m = refl
  object_same _ m = refl

  shown_same : (x : Tagged) → shown_tagged beside x ≡ shown_tagged s x
  shown_same (tag.Object k m) = object_same k m
  shown_same _ = refl

  pub timing_beside : shown_heap beside ≡ shown_heap s
  unfolding shown_heap
  timing_beside =
      ap (λ (f : ℕ × (ℕ × ℕ) → ℕ × Block). map f s.table.memory.blocks)
      (fun_ext (λ (entry : ℕ × (ℕ × ℕ)). ap (λ o. (entry.0, record { size = entry.1.0; object = o })) (shown_same (tagged entry.1.1))))

-- a change of the times is shown if it leaves those that wait alone
pub times_shown : (f : Timer → Timer) (s : Numbered) → shown_timer (on_timing f s) ≡ f (shown_timer s)
    → shown_memory (on_timing f s) ≡ on_timer f (shown_memory s)
times_shown f s timer = λ i. record (shown_memory s) { heap = timing_beside s (on_held f s.timing) i; timer = timer i }
