-- The entries that outcomes and tallies represent.
use Rattle.std.specs.Prelude.{ℕ, List, map}
use Rattle.std.specs.Global.{Vec}
use Rattle.script.specs.declared.event.Event.{Event}
use Rattle.ways.specs.{Tables.Entry, declared.table.Outcome.Outcome, declared.table.Tally.Tally}

abbrev pub entry_of : Outcome → Entry (List Event)
entry_of o = record { seen = o.seen.items; count = o.count; first = o.first.items }

abbrev pub entries_of : List Outcome → List (Entry (List Event))
entries_of os = map entry_of os

-- a text and its tally
abbrev pub entry_in : Vec ℕ × Tally → Entry (List Event)
entry_in p = record { seen = p.0.items; count = p.1.count; first = p.1.first.items }

abbrev pub entries_in : List (Vec ℕ × Tally) → List (Entry (List Event))
entries_in ps = map entry_in ps
