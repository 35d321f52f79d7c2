-- What a fault of a text is to the command, and how many actions an accepted text has.
use Rattle.std.proofs.Common.{◌≡◌, ◌<◌, ◌≤◌, ℕ, ◌+◌, ◌-◌, ◌^◌, min, List, [], ◌∷◌, ◌++◌, length, replicate, Result, Ok, Err, is_ok, ap, Bor, Option, arith, inl, inr, refl, flat_map, sum_by}
use Rattle.std.specs.Prelude.{⊤, ◌⊎◌}
use Rattle.std.proofs.lemmas.{List.length-append, List.length-replicate, List.Sums.sum_by-cons}
use Rattle.script.specs.{Events.AreWithin, Events.event_steps, Events.event_ticks, File.MachineData, declared.event.Event.Event}
use Rattle.script.specs.declared.event.Event.TheVariants.{Run, Tick, Irq}
use Rattle.taskscript.specs.{File.file_of, Events.script_of, declared.fault.FileFault.FileFault, declared.fault.EventFault.EventFault}
use Rattle.taskscript.specs.declared.fault.FileFault.TheVariants as file
use Rattle.taskscript.specs.declared.fault.EventFault.TheVariants as event
use Rattle.execrun.specs.declared.unread.TextFault.{TextFault}
use Rattle.execrun.specs.declared.unread.TextFault.TheVariants as text
use Rattle.ways.specs.Ways.{actions, actions_in}
use Rattle.execexplore.specs.{Failing.IsOfMachine, Failing.IsOfScript, Failing.of_machine, Failing.IsUnread, Failing.of_script, Failing.of_text, Framing.IsOfFrame, Framing.IsOneOf, Framing.IsOfSizes, Framing.IsOfTicks, Framing.IsOfWays, Kinds.IsOfKinds, declared.failure.Failure.Failure, declared.whole.Paths.Paths}
use Rattle.execexplore.specs.declared.failure.Failure.TheVariants as failure

actions_few : (e : Event) → length (actions_in e) ≤ event_steps e + event_ticks e + 1
actions_few (Run n) = let same = length-replicate n (Run 1) in omega (arith, same)
actions_few (Tick n) = let same = length-replicate n (Tick 1) in omega (arith, same)
actions_few (Irq source) = omega arith

actions_count : (list : List Event) → length (actions list) ≤ sum_by event_steps list + sum_by event_ticks list + length list
actions_count [] = omega arith
actions_count (e ∷ rest) =
    omega (arith, length-append (actions_in e) (actions rest), actions_few e, actions_count rest, sum_by-cons event_steps e rest, sum_by-cons event_ticks e rest)

-- an accepted event text has no more than 2,100,000 actions
pub few_actions : (list : List Event) → AreWithin list → length (actions list) ≤ 2100000
few_actions list within = omega (arith, actions_count list, within.steps, within.ticks, within.count)

-- the fault of a machine file
pub of_machine_fault : (machine : List ℕ) (fault : FileFault) → (¬ (fault ≡ file.OutOfMemory) → file_of machine ≡ Err fault) → IsOfMachine machine (of_machine fault)
of_machine_fault machine file.OutOfMemory is = tt
of_machine_fault machine file.NotToml is = is (λ same. cc)
of_machine_fault machine file.UnknownKey is = is (λ same. cc)
of_machine_fault machine file.MissingKey is = is (λ same. cc)
of_machine_fault machine file.BadValue is = is (λ same. cc)
of_machine_fault machine file.NameTwice is = is (λ same. cc)
of_machine_fault machine file.BadRegions is = is (λ same. cc)
of_machine_fault machine file.BadCommand is = is (λ same. cc)
of_machine_fault machine file.BadLabel is = is (λ same. cc)
of_machine_fault machine file.NotInInterrupt is = is (λ same. cc)
of_machine_fault machine file.TooMany is = is (λ same. cc)

-- the fault of an event text
pub of_script_fault : (events : List ℕ) (fault : EventFault) → (¬ (fault ≡ event.OutOfMemory) → script_of events ≡ Err fault) → IsOfScript events (of_script fault)
of_script_fault events event.OutOfMemory is = tt
of_script_fault events event.TooMany is = is (λ same. cc)
of_script_fault events (event.BadLine line) is = is (λ same. cc)

-- a text that is not at hand
pub unread_text : (path : Bor (List ℕ)) (fault : TextFault) → IsUnread (λ other. other ≡ path) (of_text path fault)
unread_text path text.NoMemory = tt
unread_text path (text.CannotRead why) = refl

-- a text at one of two paths
pub unread_machine : (paths : Paths) (why : Failure) → IsUnread (λ other. other ≡ paths.machine) why → IsUnread (IsOneOf paths) why
unread_machine paths failure.NoMemory is = tt
unread_machine paths (failure.CannotRead path reason) is = inl is
unread_machine paths other is = absurd is

pub unread_events : (paths : Paths) (why : Failure) → IsUnread (λ other. other ≡ paths.events) why → IsUnread (IsOneOf paths) why
unread_events paths failure.NoMemory is = tt
unread_events paths (failure.CannotRead path reason) is = inr is
unread_events paths other is = absurd is

above : (ticks named : ℕ) → 1000000 < ticks → named ≡ min ticks (2 ^ 64 - 1) → 1000000 < named
above ticks named many is = grind arith

module _ (machine events : List ℕ) (of : Option (Bor (List ℕ))) where
  -- a frame fails if one of its parts does
  pub by_machine : (why : Failure) → IsOfMachine machine why → IsOfFrame machine events of why
  by_machine failure.NoMemory is = tt
  by_machine (failure.Machine fault) is = is
  by_machine other is = absurd is

  pub by_script : (m : MachineData) → file_of machine ≡ Ok m → (why : Failure) → IsOfScript events why → IsOfFrame machine events of why
  by_script m read failure.NoMemory is = tt
  by_script m read (failure.Events fault) is = (ap is_ok read, is)
  by_script m read other is = absurd is

  pub by_kinds : (m : MachineData) → file_of machine ≡ Ok m → (list : List Event) → script_of events ≡ Ok list → (why : Failure) → IsOfKinds of why → IsOfFrame machine events of why
  by_kinds m read list script failure.NoMemory is = tt
  by_kinds m read list script (failure.Option sentence) is = (ap is_ok read, ap is_ok script, is)
  by_kinds m read list script other is = absurd is

  pub by_ticks : (m : MachineData) → file_of machine ≡ Ok m → (list : List Event) → script_of events ≡ Ok list → (ticks : ℕ) → (why : Failure) → IsOfTicks ticks why → IsOfFrame machine events of why
  by_ticks m read list script ticks (failure.TooManyTicks named) is = (ap is_ok read, ap is_ok script, above _ _ is.0 is.1)
  by_ticks m read list script ticks other is = absurd is

  pub by_sizes : (m : MachineData) → file_of machine ≡ Ok m → (list : List Event) → script_of events ≡ Ok list → (why : Failure) → IsOfSizes why → IsOfFrame machine events of why
  by_sizes m read list script failure.NoMemory is = tt
  by_sizes m read list script (failure.TooManyWays named most) is = (ap is_ok read, ap is_ok script)
  by_sizes m read list script other is = absurd is

  pub by_ways : (m : MachineData) → file_of machine ≡ Ok m → (list : List Event) → script_of events ≡ Ok list → (ways : ℕ) → (why : Failure) → IsOfWays ways why → IsOfFrame machine events of why
  by_ways m read list script ways (failure.TooManyWays named most) is = (ap is_ok read, ap is_ok script)
  by_ways m read list script ways other is = absurd is

  pub by_memory : (why : Failure) → why ≡ failure.NoMemory → IsOfFrame machine events of why
  by_memory why is = rw is tt
