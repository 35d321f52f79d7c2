-- The report of a search: what was searched, and the table of what is seen.
use Rattle.std.specs.Prelude.{ℕ, ◌++◌, List, [], ◌∷◌, Option, option_map, codes, length, map, decimal, flat_map, string_bytes}
use Rattle.escape.specs.Shown.{shown}
use Rattle.script.specs.declared.event.Event.TheVariants.{Run, Tick, Irq}
use Rattle.script.specs.declared.event.Event.{Event}
use Rattle.softint.specs.Sources.{source_text}
use Rattle.ways.specs.{Ways.part_of, Ways.ways, Tables.Entry, Tables.number_where, Tables.table_of, declared.visiting.Window.Window}
use Rattle.wayrun.specs.{Seen.is_alerted, Seen.seen_of, Words.see_text, declared.see.See.See}
use Rattle.wayreport.specs.{Reports.ReportData, Reports.told, declared.report.Part.Part}
use Rattle.execexplore.specs.{declared.stretch.Stretch.Stretch, declared.frame.Frame.Frame, declared.whole.Paths.Paths}

-- ---- what was searched

abbrev pub kind_text : Event → List ℕ
kind_text (Run steps) = codes "tick"
kind_text (Tick ticks) = codes "tick"
kind_text (Irq source) = source_text source

abbrev pub marked_kind : Event → List ℕ
marked_kind kind = codes "," ++ kind_text kind

abbrev pub kinds_text : List Event → List ℕ
kinds_text [] = []
kinds_text (kind ∷ rest) = kind_text kind ++ flat_map marked_kind rest

abbrev pub names_text : Paths → List ℕ
names_text names = shown names.machine.now ++ (codes ", " ++ (shown names.events.now ++ codes ": "))

abbrev pub limits_text : (actions extra : ℕ) → List ℕ
limits_text actions extra = decimal actions ++ (codes " actions, at most " ++ (decimal extra ++ codes " more of "))

abbrev pub title_text : Paths → (extra : ℕ) → Frame → List ℕ
title_text names extra f = (names_text names ++ limits_text (length f.actions.items) extra) ++ kinds_text f.kinds.items

-- ---- what is seen

-- the ways of a part
abbrev pub ways_in : Frame → Window → List (List Event)
ways_in f window = part_of window.skip window.left (ways f.kinds.items f.sizes.most f.actions.items)

-- the part that a report names
abbrev pub part_in : Stretch → Window → Part
part_in stretch window = record { number = stretch.number; of = stretch.of; ways = window.left }

-- the report of a search that found these entries
abbrev pub report_with : Paths → See → Option Stretch → Frame → Window → (alerts : ℕ) → List (Entry (List Event)) → ReportData
report_with names see stretch f window alerts entries = record {
  title = title_text names f.sizes.most f;
  all = f.ways;
  machine = string_bytes f.machine;
  events = string_bytes f.events;
  see = see_text see;
  part = option_map (λ s. part_in s window) stretch;
  alerts = alerts;
  entries = map told entries;
}

-- the table of what is seen of the ways of a part, and how many of them end in an alert
abbrev pub table_in : See → Frame → Window → List (Entry (List Event))
table_in see f window = table_of (seen_of see f.file) [] (ways_in f window)

abbrev pub alerts_in : Frame → Window → ℕ
alerts_in f window = number_where (is_alerted f.file) (ways_in f window)

-- the report of the ways of a part
abbrev pub report_in : Paths → See → Option Stretch → Frame → Window → ReportData
report_in names see stretch f window =
    report_with names see stretch f window (alerts_in f window) (table_in see f window)
