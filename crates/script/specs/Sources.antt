-- The sources of interrupts that the texts of events may name.
use Rattle.std.specs.Prelude.{ℕ, codes, bytes_eq, List, Option, Some, None, if◌then◌else◌}
use Rattle.softint.specs.declared.source.Source.TheVariants.{Ports, Exter}
use Rattle.softint.specs.declared.source.Source.{Source}

-- the source of a name that an event may request: PORTS or EXTER; VERTB comes with ticks alone
abbrev pub requested_source_of : List ℕ → Option Source
requested_source_of name =
    if bytes_eq name (codes "PORTS") then Some Ports
    else if bytes_eq name (codes "EXTER") then Some Exter
    else None
