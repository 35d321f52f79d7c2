-- The time that is left to a machine after each of some turns.
use Rattle.std.proofs.Common.{◌≡◌, ℕ, suc, ◌+◌, ◌*◌, ◌<◌, List, length, get_or, drop, ap, ◌∙◌, arith, sum_by, suc-mul}
use Rattle.std.proofs.lemmas.List.Sums.{sum_by-drop_more}
use Rattle.script.specs.{Events.event_ticks, declared.event.Event.Event}
use Rattle.execsim.specs.{Agreement.Seen, Time.HasTimeFor}
use Rattle.execsim.proofs.Clock.{time_for_fewer}

pub more_time : (j k t : ℕ) → (j + 1) * k + t ≡ j * k + (k + t)
more_time j k t =
    let more : j + 1 ≡ suc j = omega arith in
    let product : (j + 1) * k ≡ j * k + k = ap (λ (x : ℕ). x * k) more ∙ suc-mul j k in
    omega (arith, product)

pub time_for_one : (list : List Event) (i : ℕ) (d : Event) → i < length list → (m : Seen) → HasTimeFor (sum_by event_ticks (drop i list)) m → HasTimeFor (event_ticks (get_or list i d)) m
time_for_one list i d within m enough =
    let rest = sum_by-drop_more event_ticks list i d within in
    time_for_fewer (event_ticks (get_or list i d)) (sum_by event_ticks (drop i list)) m (omega (arith, rest)) enough
