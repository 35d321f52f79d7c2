-- The events of a text, or its first fault.
use Rattle.std.specs.Prelude.{◌≡◌, ℕ, ◌+◌, Bool, true, ◌&&◌, nat_le, ◌==◌, bytes_eq, codes, List, [], ◌∷◌, ◌++◌, length, drop, take, Option, Some, None, Result, Ok, Err, option_map, option_and_then, option_to_list, if◌then◌else◌}
use Rattle.std.specs.List.{slice_split}
use Rattle.script.specs.declared.event.Event.TheVariants.{Run, Tick, Irq}
use Rattle.taskscript.specs.declared.fault.EventFault.TheVariants.{BadLine, TooMany, OutOfMemory}
use Rattle.script.specs.{Sources.requested_source_of, declared.event.Event.Event}
use Rattle.taskscript.specs.{Numbers.decimal_of, declared.fault.EventFault.EventFault}
use Rattle.execlist.specs.{Order.first, Answers.fault_or}
use Rattle.script.specs.Events.{keeps_event_limits}

-- ---- one line

-- a number of steps or ticks: 1 to 1,000,000
abbrev pub in_turns : ℕ → Option ℕ
in_turns n = if nat_le 1 n && nat_le n 1000000 then Some n else None

-- the number of steps or ticks that digits state: 1 to 1,000,000, decimal and without leading zeros
abbrev pub turns_of : List ℕ → Option ℕ
turns_of digits = option_and_then in_turns (decimal_of digits)

-- a line begins with these bytes
abbrev pub begins_with : List ℕ → List ℕ → Bool
begins_with front line = bytes_eq (take (length front) line) front

-- the event that a line states, if it states one
unfoldable pub event_of : List ℕ → Option Event
event_of line =
    if begins_with (codes "run ") line then option_map Run (turns_of (drop 4 line))
    else if begins_with (codes "tick ") line then option_map Tick (turns_of (drop 5 line))
    else if begins_with (codes "irq ") line then option_map Irq (requested_source_of (drop 4 line))
    else None

-- a line is skipped: it is empty, or begins with #
abbrev pub is_skipped : List ℕ → Bool
is_skipped [] = true
is_skipped (b ∷ bs) = b == 35

-- ---- a text

-- the event of a line, or none if the line is skipped or states none
abbrev pub events_on : List ℕ → List Event
events_on line = if is_skipped line then [] else option_to_list (event_of line)

-- the events of some lines, in their order
abbrev pub events_of : List (List ℕ) → List Event
events_of [] = []
events_of (line ∷ lines) = events_on line ++ events_of lines

-- the fault of a line with this number: it states no event, or the events of all lines up to it are more than a text
-- may ask for
abbrev pub fault_by : Option Event → ℕ → List Event → List EventFault
fault_by None number events = BadLine number ∷ []
fault_by (Some event) number events = if keeps_event_limits events then [] else TooMany ∷ []

-- the fault of a line after the lines before it
abbrev pub event_line_faults : List (List ℕ) → List ℕ → List EventFault
event_line_faults before line =
    if is_skipped line then [] else fault_by (event_of line) (length before + 1) (events_of (before ++ line ∷ []))

-- the faults of all lines in their order, each judged by itself after the lines before it
abbrev pub event_faults : List (List ℕ) → List (List ℕ) → List EventFault
event_faults before [] = []
event_faults before (line ∷ lines) = event_line_faults before line ++ event_faults (before ++ line ∷ []) lines

-- the lines of a text, which is cut at its line feeds
abbrev pub text_lines : List ℕ → List (List ℕ)
text_lines text = slice_split (λ b. b == 10) text

-- the events of a text, or the fault of its first faulty line
unfoldable pub script_of : List ℕ → Result (List Event) EventFault
script_of text = fault_or (first (event_faults [] (text_lines text))) (events_of (text_lines text))

-- ---- what a reader of lines answers

-- Ok: there is no fault, and the value is right. Err: the first fault, unless memory was refused.
abbrev pub JudgesLines : {X : Type 0} → Result X EventFault → List EventFault → (X → Type 0) → Type 0
JudgesLines (Ok x) fs right = (first fs ≡ None) × right x
JudgesLines (Err f) fs right = ¬ (f ≡ OutOfMemory) → first fs ≡ Some f
