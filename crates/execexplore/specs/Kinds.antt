-- The kinds of the extras.
use Rattle.std.specs.Borrow.{Bor}
use Rattle.std.specs.Prelude.{◌≡◌, ⊤, ℕ, Bool, true, false, IsSome, List, [], ◌∷◌, ◌++◌, Option, None, Some, if◌then◌else◌}
use Rattle.std.specs.List.{list_any}
use Rattle.softint.specs.declared.source.Source.{Source}
use Rattle.softint.specs.declared.source.Source.TheVariants.{Ports, Vertb, Exter}
use Rattle.script.specs.declared.event.Event.TheVariants.{Run, Tick, Irq}
use Rattle.script.specs.{File.MachineData, File.ServerData, declared.event.Event.Event}
use Rattle.execexplore.specs.{Reporting.kinds_text, declared.failure.Failure.Failure}
use Rattle.execexplore.specs.declared.failure.Failure.TheVariants as failure

-- a server serves PORTS
abbrev pub is_ports : Source → Bool
is_ports Ports = true
is_ports Vertb = false
is_ports Exter = false

-- a server serves EXTER
abbrev pub is_exter : Source → Bool
is_exter Ports = false
is_exter Vertb = false
is_exter Exter = true

-- one of the servers serves a source of this kind
abbrev pub is_served : (Source → Bool) → List ServerData → Bool
is_served is_wanted servers = list_any (λ (s : ServerData). is_wanted s.source) servers

-- a request by a source that is served
abbrev pub request_if : Bool → Source → List Event
request_if true source = Irq source ∷ []
request_if false source = []

-- ticks, and each source that a server serves and an event may request
abbrev pub kinds_served : List ServerData → List Event
kinds_served servers = Tick 1 ∷ (request_if (is_served is_ports servers) Ports ++ request_if (is_served is_exter servers) Exter)

-- The kinds that an option lists have its text; without it they are those that the file serves.
abbrev pub AreKindsFor : Option (Bor (List ℕ)) → MachineData → List Event → Type 0
AreKindsFor None machine kinds = kinds ≡ kinds_served machine.servers
AreKindsFor (Some list) machine kinds = kinds_text kinds ≡ list.now

-- memory was refused, or the option is given and lists something else
abbrev pub IsOfKinds : Option (Bor (List ℕ)) → Failure → Type 0
IsOfKinds of failure.NoMemory = ⊤
IsOfKinds of (failure.Option sentence) = IsSome of
IsOfKinds of other = ⊥
