-- The sources of interrupts, their names, and which of them ask to be served (RKM Libraries, Exec Interrupts).
use Rattle.std.specs.Prelude.{ℕ, pos, Bool, true, false, if◌then◌else◌, filter, Option, Some, None, List, [], ◌∷◌, codes, bytes_eq}
use Rattle.execlist.specs.Order.{chosen}
use Rattle.softint.specs.declared.source.Source.TheVariants.{Ports, Vertb, Exter}
use Rattle.softint.specs.{declared.source.Source.Source, declared.latches.Latches.Latches}

-- all sources
abbrev pub sources : List Source
sources = Ports ∷ Vertb ∷ Exter ∷ []

-- the name of a source, in the texts and in the trace
abbrev pub source_text : Source → List ℕ
source_text Ports = codes "PORTS"
source_text Vertb = codes "VERTB"
source_text Exter = codes "EXTER"

-- the source of a name, if it is the name of one
abbrev pub source_of : List ℕ → Option Source
source_of name =
    if bytes_eq name (codes "PORTS") then Some Ports
    else if bytes_eq name (codes "VERTB") then Some Vertb
    else if bytes_eq name (codes "EXTER") then Some Exter
    else None

-- the level at which a source interrupts the processor
abbrev pub level : Source → ℕ
level Ports = 2
level Vertb = 3
level Exter = 6

-- the two are the same source
abbrev pub is_source : (source other : Source) → Bool
is_source Ports Ports = true
is_source Vertb Vertb = true
is_source Exter Exter = true
is_source _ _ = false

-- a source asks to be served: its latch is set
abbrev pub is_latched : Source → Latches → Bool
is_latched Ports latches = latches.ports
is_latched Vertb latches = latches.vertb
is_latched Exter latches = latches.exter

-- no source asks to be served
abbrev pub no_latches : Latches
no_latches = record { ports = false; vertb = false; exter = false }

-- the latch of one source is set or cleared
abbrev pub with_latch : Source → Bool → Latches → Latches
with_latch Ports set latches = record latches { ports = set }
with_latch Vertb set latches = record latches { vertb = set }
with_latch Exter set latches = record latches { exter = set }

-- the source of highest level among those that ask to be served, if any does
abbrev pub highest : Latches → Option Source
highest latches = chosen (λ source. pos (level source)) (filter (λ source. is_latched source latches) sources)
