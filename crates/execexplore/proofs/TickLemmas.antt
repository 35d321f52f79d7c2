-- The number of ticks so far, as far as 64 bits have it.
use Rattle.std.proofs.Common.{◌≡◌, ◌<◌, ◌∙◌, ℕ, ◌+◌, ◌-◌, ◌^◌, List, length, take, get_or, min, sum_by, arith, ap, sym}
use Rattle.std.proofs.lemmas.List.Sums.{sum_by_more}
use Rattle.script.specs.{Events.event_ticks, declared.event.Event.Event}

min_again : (most a more x : ℕ) → min (min (a + more) most + x) most ≡ min (a + x + more) most
min_again most a more x = grind arith

-- one action more
pub one_more : (acts : List Event) (i more ticks : ℕ) (d : Event) → i < length acts → ticks ≡ min (sum_by event_ticks (take i acts) + more) (2 ^ 64 - 1)
    → min (ticks + event_ticks (get_or acts i d)) (2 ^ 64 - 1) ≡ min (sum_by event_ticks (take (i + 1) acts) + more) (2 ^ 64 - 1)
one_more acts i more ticks d below same =
    ap (λ (t : ℕ). min (t + event_ticks (get_or acts i d)) (2 ^ 64 - 1)) same
    ∙ (min_again (2 ^ 64 - 1) (sum_by event_ticks (take i acts)) more (event_ticks (get_or acts i d))
    ∙ ap (λ (t : ℕ). min (t + more) (2 ^ 64 - 1)) (sym (sum_by_more event_ticks acts i d below)))
