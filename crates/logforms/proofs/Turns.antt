-- How many steps, ticks and requests events are.
use Rattle.std.proofs.Common.{◌≡◌, ℕ, ◌+◌, ◌<◌, ◌≤◌, ◌^◌, List, [], ◌∷◌, ◌++◌, length, replicate, refl, arith, sum_by}
use Rattle.std.proofs.lemmas.{List.length-replicate, List.Sums.sum_by-append, List.Sums.sum_by-cons}
use Rattle.script.specs.declared.event.Event.TheVariants.{Run, Tick, Irq}
use Rattle.script.specs.declared.event.Event.{Event}

pub turns_of_one : (n : ℕ) (e : Event) → length (replicate n e) ≡ n
turns_of_one n e = length-replicate n e

pub sum_more : (f : Event → ℕ) (list : List Event) (e : Event) → sum_by f (list ++ e ∷ []) ≡ sum_by f list + f e
sum_more f list e = omega (arith, sum_by-append f list (e ∷ []), sum_by-cons f e [])
