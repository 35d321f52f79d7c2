-- What holds of every text that is accepted.
use Rattle.std.proofs.Common.{◌≡◌, ℕ, ◌+◌, ◌≤◌, All, if◌then◌else◌, Bool, true, false, List, [], ◌∷◌, ◌++◌, length, Option, Some, None, Ok, refl, subst, append_assoc, arith, append-nil}
use Rattle.std.proofs.lemmas.{Bool.Decides.nat_tests, List.Elements.All-nil}
use Rattle.toml.specs.Data.{Members}
use Rattle.script.specs.Events.{keeps_event_limits, turns, AreWithin}
use Rattle.taskscript.specs.Events.{event_of, is_skipped, events_of, fault_by, event_line_faults, event_faults as line_by_line, text_lines, script_of}
use Rattle.script.specs.{declared.event.Event.Event, File.MachineData, Machines.IsMachine}
use Rattle.taskscript.specs.{declared.fault.EventFault.EventFault, declared.fault.EventFault.TheVariants.TooMany, declared.refused.Refused.Refused, File.refusals, File.machine_of, File.placed_file_of_document, File.placed_file_of, File.file_of, Places.without_place, Tree.document_of}
use Rattle.execlist.specs.{Order.first, Answers.fault_or}
use Rattle.taskscript.proofs.{EventSizes.events_some, EventTurns.events_push, Firsts.first_left, Firsts.first_right, Machines.machine_holds}

-- ---- machine files

of_tree : (tree : Members) (m : MachineData) (fault : Option Refused) → first (refusals tree) ≡ fault → without_place (fault_or fault (machine_of tree)) ≡ Ok m → IsMachine m
of_tree tree m None none is = let same : machine_of tree ≡ m = cc in subst (λ (x : MachineData). IsMachine x) same (machine_holds tree none)
of_tree tree m (Some f) some is = absurd cc

of_document : (document : Option Members) (m : MachineData) → without_place (placed_file_of_document document) ≡ Ok m → IsMachine m
of_document None m is = absurd cc
of_document (Some tree) m is = of_tree tree m (first (refusals tree)) refl is

pub accepted_machine : (bytes : List ℕ) (m : MachineData) → file_of bytes ≡ Ok m → IsMachine m
unfolding file_of placed_file_of
accepted_machine bytes m is = of_document (document_of bytes) m is

-- ---- event texts

tells : (events : List Event) (within : Bool) → All (λ e. 1 ≤ turns e) events → keeps_event_limits events ≡ within → first (if within then [] else TooMany ∷ []) ≡ None → AreWithin events
tells events true some is h = record { some = some; steps = grind (arith, nat_tests, is); ticks = grind (arith, nat_tests, is); count = grind (arith, nat_tests, is) }
tells events false some is h = absurd cc

with_event : (event : Option Event) (number : ℕ) (events : List Event) → All (λ e. 1 ≤ turns e) events → first (fault_by event number events) ≡ None → AreWithin events
with_event None number events some h = absurd cc
with_event (Some e) number events some h = tells events (keeps_event_limits events) some refl h

after_line : (skipped : Bool) (before : List (List ℕ)) (line : List ℕ) → is_skipped line ≡ skipped → AreWithin (events_of before) → first (event_line_faults before line) ≡ None → AreWithin (events_of (before ++ line ∷ []))
after_line true before line is so_far h = rw (events_push before line, is, append-nil (events_of before)) so_far
after_line false before line is so_far h = with_event (event_of line) (length before + 1) (events_of (before ++ line ∷ [])) (events_some (before ++ line ∷ [])) (rw is at h)

after_lines : (before lines : List (List ℕ)) → AreWithin (events_of before) → first (line_by_line before lines) ≡ None → AreWithin (events_of (before ++ lines))
after_lines before [] so_far h = rw append-nil so_far
after_lines before (line ∷ lines) so_far h =
    let here = after_line (is_skipped line) before line refl so_far (first_left (event_line_faults before line) _ h) in
    rw (← append_assoc before (line ∷ []) lines) (after_lines (before ++ line ∷ []) lines here (first_right (event_line_faults before line) _ h))

of_lines : (lines : List (List ℕ)) (events : List Event) (fault : Option EventFault) → first (line_by_line [] lines) ≡ fault → fault_or fault (events_of lines) ≡ Ok events → AreWithin events
of_lines lines events None none is =
    let same : events_of lines ≡ events = cc in
    let nothing : AreWithin [] = record { some = All-nil (λ e. 1 ≤ turns e); steps = omega arith; ticks = omega arith; count = omega arith } in
    subst (λ (es : List Event). AreWithin es) same (after_lines [] lines nothing none)
of_lines lines events (Some f) some is = absurd cc

pub accepted_events : (text : List ℕ) (events : List Event) → script_of text ≡ Ok events → AreWithin events
unfolding script_of
accepted_events text events is = of_lines (text_lines text) events (first (line_by_line [] (text_lines text))) refl is
