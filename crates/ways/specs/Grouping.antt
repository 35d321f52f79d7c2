-- Events and actions: an event text asks for several steps or ticks by one line; a way has each of them by itself.
use Rattle.std.specs.Prelude.{◌≡◌, ◌+◌, List, [], ◌∷◌, Option, None, Some}
use Rattle.script.specs.declared.event.Event.TheVariants.{Run, Tick}
use Rattle.script.specs.declared.event.Event.{Event}

-- an event before others: steps before steps are one event, and so are ticks before ticks
abbrev pub joined : Event → List Event → List Event
joined (Run n) (Run more ∷ rest) = Run (n + more) ∷ rest
joined (Tick n) (Tick more ∷ rest) = Tick (n + more) ∷ rest
joined event rest = event ∷ rest

-- the events that ask for these actions, as few as can be
abbrev pub grouped : List Event → List Event
grouped [] = []
grouped (action ∷ rest) = joined action (grouped rest)

-- two events one after the other: what one event is that asks for both, if one is
abbrev pub Joins : Event → Event → Option Event → Type 0
Joins event next (Some one) = (rest : List Event) → joined event (joined next rest) ≡ joined one rest
Joins event next None = (rest : List Event) → joined event (joined next rest) ≡ event ∷ joined next rest
