-- The entries that tallies represent.
use Rattle.std.specs.Prelude.{ℕ, List, map, string_bytes}
use Rattle.std.specs.Global.{Vec}
use Rattle.ways.specs.Tables.{Entry}
use Rattle.wayreport.specs.declared.total.Tally.{Tally}

-- a text and its tally
abbrev pub entry_in : Vec ℕ × Tally → Entry (List ℕ)
entry_in p = record { seen = p.0.items; count = p.1.count; first = string_bytes p.1.first }

abbrev pub entries_in : List (Vec ℕ × Tally) → List (Entry (List ℕ))
entries_in ps = map entry_in ps
