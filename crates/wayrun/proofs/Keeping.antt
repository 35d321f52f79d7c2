-- What a listener has kept that still listens.
use Rattle.std.proofs.Common.{◌≡◌, ◌∙◌, ◌++◌, ap, List, [], ℕ, refl, Some, true}
use Rattle.exectrace.specs.declared.sinks.SinkState.TheVariants.{Good, Empty, Failed}
use Rattle.exectrace.specs.{declared.sinks.SinkState.SinkState, Printing.is_good, Trace.TraceLine}
use Rattle.exectrace.proofs.Pieces.{put_all}
use Rattle.wayrun.specs.{Look.Looks, Look.shown_of, declared.see.See.See}

good_is : (state : SinkState) → is_good state ≡ true → state ≡ Good
good_is Good is = refl
good_is (Empty n) is = cc
good_is Failed is = cc

-- one that had kept nothing has kept the lines that are seen
pub keeps_seen : (see after : See) (bytes kept : List ℕ) (state end : SinkState) (lines : List TraceLine)
    → Looks (record { see = see; tape = record { taken = Some bytes; state = state } }) (record { see = after; tape = record { taken = Some kept; state = end } }) lines
    → state ≡ Good → bytes ≡ [] → is_good end ≡ true → kept ≡ shown_of see lines
keeps_seen see after bytes kept state end lines looks good none listens =
    (put_all looks.puts good (good_is end listens)).took ∙ ap (λ (b : List ℕ). b ++ shown_of see lines) none
