-- What calls on interrupts see: the software interrupts by number, which of them are caused, the latches, and the
-- servers (RKM Libraries, Exec Interrupts).
use Rattle.std.specs.Prelude.{◌≡◌, ℕ, ℤ, pos, negsuc, ◌-ℤ◌, ◌*◌, ◌⊎◌, ◌==◌, Bool, true, false, not, if◌then◌else◌, List, [], ◌∷◌, ◌++◌, length, map, filter, slice_index_or, Option, Some, None, All}
use Rattle.std.specs.List.{range_with_len}
use Rattle.execlist.specs.{Order.enqueue, Order.order, Order.without_item, Disciplines.pri_at, Lists.home, Lists.times}
use Rattle.softint.specs.declared.source.Source.TheVariants.{Ports, Vertb, Exter}
use Rattle.softint.specs.{declared.source.Source.Source, declared.latches.Latches.Latches, declared.interrupt.Soft.Soft, declared.interrupt.Server.Server, Sources.is_source, Sources.with_latch, Sources.no_latches}

pub record Interrupts : Type 0 where
  -- the priority of each software interrupt, by its number
  pub priorities : List ℤ
  -- the caused software interrupts, as they are to run
  pub caused : List ℕ
  -- which sources ask to be served
  pub latches : Latches
  -- the servers of all sources, by number
  pub servers : List Server

-- ---- software interrupts

-- the priorities that a software interrupt may have
abbrev pub IsPriority : ℤ → Type 0
IsPriority pri = (pri ≡ pos 32) ⊎ (pri ≡ pos 16) ⊎ (pri ≡ pos 0) ⊎ (pri ≡ negsuc 15) ⊎ (pri ≡ negsuc 31)

-- software interrupt i is among the caused ones
abbrev pub is_caused : ℕ → Interrupts → Bool
is_caused i m = not (times i m.caused == 0)

-- software interrupt i is among the caused ones, after those of its priority; one that is caused already stays where it
-- is (autodoc exec.library/Cause)
abbrev pub causes : ℕ → Interrupts → Interrupts
causes i m = if is_caused i m then m else record m { caused = enqueue (pri_at m.priorities) m.caused i }

-- a software interrupt is not caused any more
abbrev pub taken_off : Option ℕ → Interrupts → Interrupts
taken_off None m = m
taken_off (Some i) m = record m { caused = without_item i m.caused }

-- ---- sources

-- a source asks to be served; further requests before the serving are the same one
abbrev pub raised : Source → Interrupts → Interrupts
raised source m = record m { latches = with_latch source true m.latches }

-- a source is served, and does not ask for it any more
abbrev pub served : Option Source → Interrupts → Interrupts
served None m = m
served (Some source) m = record m { latches = with_latch source false m.latches }

-- ---- servers

-- the priority of server s
abbrev pub server_pri : List Server → ℕ → ℤ
server_pri servers s = pri_at (map (λ (v : Server). v.pri) servers) s

-- server s is one of that source
abbrev pub serves : Source → List Server → ℕ → Bool
serves source servers s = is_source (slice_index_or (map (λ (v : Server). v.source) servers) s Ports) source

-- the servers of a source as they are to run: by priority, and those of one priority in the order of their numbers
-- (autodoc exec.library/AddIntServer)
abbrev pub chain : Source → List Server → List ℕ
chain source servers = order (server_pri servers) (filter (serves source servers) (range_with_len 0 (length servers)))

-- ---- new

-- these software interrupts, none of which is caused, and these servers; no source asks to be served
abbrev pub quiet : List Soft → List Server → Interrupts
quiet softs servers = record { priorities = map (λ (s : Soft). s.pri) softs; caused = []; latches = no_latches; servers = servers }

-- no software interrupt is caused, and no source asks to be served
abbrev pub hushed : Interrupts → Interrupts
hushed m = record m { caused = []; latches = no_latches }

-- ---- what the code keeps

-- the items of some lists, one list after another
abbrev pub joined : List (List ℕ) → List ℕ
joined [] = []
joined (xs ∷ rest) = xs ++ joined rest

-- the priority of what is in header h: 32, 16, 0, -16 and -32
abbrev pub header_pri : ℕ → ℤ
header_pri h = pos 32 -ℤ pos (16 * h)

-- each caused interrupt is in the header of its priority, and each source has its chain
pub record KeepsInterrupts (headers : ℕ) (homes : List (Option ℕ)) (softs : List Soft) : Type 0 where
  pub five : headers ≡ 5
  pub each_soft : length homes ≡ length softs
  pub priorities : All (λ (s : Soft). IsPriority s.pri) softs
  pub stands : (i h : ℕ) → home homes i ≡ Some h → pri_at (map (λ (s : Soft). s.pri) softs) i ≡ header_pri h

-- each source's chain is kept
pub record IsChained (ports vertb exter : List ℕ) (servers : List Server) : Type 0 where
  pub of_ports : ports ≡ chain Ports servers
  pub of_vertb : vertb ≡ chain Vertb servers
  pub of_exter : exter ≡ chain Exter servers
