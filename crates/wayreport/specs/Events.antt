-- The text of a way.
use Rattle.std.specs.Prelude.{ℕ, ◌++◌, List, [], ◌∷◌, codes, decimal, flat_map}
use Rattle.script.specs.declared.event.Event.TheVariants.{Run, Tick, Irq}
use Rattle.script.specs.declared.event.Event.{Event}
use Rattle.softint.specs.Sources.{source_text}

-- an event, as an event text has it
abbrev pub event_text : Event → List ℕ
event_text (Run steps) = codes "run " ++ decimal steps
event_text (Tick ticks) = codes "tick " ++ decimal ticks
event_text (Irq source) = codes "irq " ++ source_text source

abbrev pub event_line : Event → List ℕ
event_line event = event_text event ++ codes "\n"

abbrev pub marked_event : Event → List ℕ
marked_event event = codes ", " ++ event_text event

-- events in one line
abbrev pub listed : List Event → List ℕ
listed [] = codes "no event"
listed (event ∷ rest) = event_text event ++ flat_map marked_event rest
