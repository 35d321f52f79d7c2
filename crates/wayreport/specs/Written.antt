-- The reports that a search writes, and what the reader makes of them.
use Rattle.std.specs.Prelude.{◌≡◌, ◌<◌, ◌≤◌, ◌+◌, Some, ◌^◌, ℕ, ◌==◌, ◌++◌, Bool, true, false, if◌then◌else◌, List, [], ◌∷◌, codes, decimal, flat_map, length, IfSome, MatchResult, Result}
use Rattle.std.specs.{List.AllByRecursion, List.fold, List.list_all, Str.IsUtf8, Str.chars}
use Rattle.escape.specs.Shown.{is_plain_character}
use Rattle.softint.specs.Sources.{source_text}
use Rattle.script.specs.{Events.turns, Sources.requested_source_of, declared.event.Event.Event}
use Rattle.script.specs.declared.event.Event.TheVariants.{Run, Tick, Irq}
use Rattle.ways.specs.{Grouping.grouped, Tables.Entry, Ways.actions}
use Rattle.wayreport.specs.{Events.event_text, Events.listed, Events.marked_event, Parts.AreFew, Right.IsRight, declared.reading.TheConstants.REPORT_LIMIT}
use Rattle.wayreport.specs.{Reports.ReportData, Reports.text_of, Reports.ways_text, declared.report.Part.Part}
use Rattle.wayreport.specs.declared.reading.ReportFault.{ReportFault}
use Rattle.wayreport.specs.declared.reading.ReportFault.TheVariants.{OutOfMemory}

-- ---- texts

-- no byte of the text is this one
abbrev pub lacks : ℕ → List ℕ → Bool
lacks c [] = true
lacks c (b ∷ bs) = if b == c then false else lacks c bs

-- the first byte of a mark is nowhere in a text, so that the mark is nowhere in it
abbrev pub lacks_mark : List ℕ → List ℕ → Bool
lacks_mark [] text = false
lacks_mark (c ∷ cs) text = lacks c text

-- the first byte of a mark is not in the mark again, and nowhere in the text after it
abbrev pub lacks_again : List ℕ → List ℕ → Bool
lacks_again [] text = false
lacks_again (c ∷ cs) text = lacks c (cs ++ text)

-- ---- what a reader returns

-- what was read is right, or memory was refused
abbrev pub Reads : {X : Type 0} → Result X ReportFault → (X → Type 0) → Type 0
Reads result right = MatchResult result right (λ fault. fault ≡ OutOfMemory)

-- ---- what a search writes

-- a text without a line feed
abbrev pub IsOneLine : List ℕ → Type 0
IsOneLine text = lacks 10 text ≡ true

abbrev pub ended : List ℕ → List ℕ
ended line = line ++ codes "\n"

-- a text of whole lines
pub record AreLines (text : List ℕ) : Type 0 where
  pub lines : List (List ℕ)
  pub each : AllByRecursion IsOneLine lines
  pub is : text ≡ flat_map ended lines

-- an event that a line of an event text can ask for
abbrev pub IsAsked : Event → Type 0
IsAsked (Run steps) = (1 ≤ steps) × (steps ≤ 1000000)
IsAsked (Tick ticks) = (1 ≤ ticks) × (ticks ≤ 1000000)
IsAsked (Irq source) = requested_source_of (source_text source) ≡ Some source

-- the turns that some events ask for
abbrev pub turns_in : List Event → ℕ
turns_in [] = 0
turns_in (event ∷ events) = turns event + turns_in events

-- the text of a way: the fewest events that ask for its actions
pub record IsWrittenWay (text : List ℕ) : Type 0 where
  pub asked : List Event
  pub is : text ≡ listed asked
  pub each : AllByRecursion IsAsked asked
  pub few : turns_in asked ≤ 2100008
  pub fewest : grouped (actions asked) ≡ asked

pub record IsWrittenEntry (e : Entry (List ℕ)) : Type 0 where
  pub count : e.count < 2 ^ 64
  pub first : IsOneLine e.first
  pub way : IsWrittenWay e.first
  pub seen : AreLines e.seen

pub record IsWrittenPart (part : Part) : Type 0 where
  pub number : part.number < 2 ^ 32
  pub of : part.of < 2 ^ 32
  pub ways : part.ways < 2 ^ 64

-- A report of lines that a terminal shows as they are, whose numbers have 64 bits and fit together, whose first ways
-- are ways, and which has no more bytes than a report may have: as is each that a search writes.
pub record IsWritten (r : ReportData) : Type 0 where
  pub right : IsRight r
  pub size : length (text_of r) ≤ REPORT_LIMIT
  pub utf8 : IsUtf8 (text_of r)
  pub plain : list_all is_plain_character (chars (text_of r)) ≡ true
  pub parts : AreFew r.part r.all
  pub title : IsOneLine r.title
  pub machine : IsOneLine r.machine
  pub events : IsOneLine r.events
  pub see : IsOneLine r.see
  pub all : r.all < 2 ^ 64
  pub alerts : r.alerts < 2 ^ 64
  pub part : IfSome r.part IsWrittenPart
  pub outcomes : length r.entries < 2 ^ 64
  pub entries : AllByRecursion IsWrittenEntry r.entries

-- ---- the lines below the head

-- an empty line, the line over what is seen, and a line of what is seen
pub data Line : Type 0 where
  blank : Line
  heading : ℕ → ℕ → List ℕ → Line
  shown : List ℕ → Line

-- without its line feed
abbrev pub line_text : Line → List ℕ
line_text blank = []
line_text (heading number count first) = codes "outcome " ++ (decimal number ++ (codes ": " ++ (ways_text count ++ (codes ", first " ++ first))))
line_text (shown text) = codes "  " ++ text

abbrev pub lines_text : List Line → List ℕ
lines_text lines = flat_map (λ line. ended (line_text line)) lines

abbrev pub IsLine : Line → Type 0
IsLine blank = Unit {0}
IsLine (heading number count first) = (number < 2 ^ 64) × (count < 2 ^ 64) × IsOneLine first
IsLine (shown text) = IsOneLine text

-- the outcomes with a line more of what is seen of the last one
abbrev pub with_seen : List ℕ → List (Entry (List ℕ)) → List (Entry (List ℕ))
with_seen text [] = []
with_seen text (e ∷ []) = record { seen = e.seen ++ ended text; count = e.count; first = e.first } ∷ []
with_seen text (e ∷ f ∷ es) = e ∷ with_seen text (f ∷ es)

-- the outcomes after a line more
abbrev pub with_line : List (Entry (List ℕ)) → Line → List (Entry (List ℕ))
with_line es blank = es
with_line es (heading number count first) = es ++ record { seen = []; count = count; first = first } ∷ []
with_line es (shown text) = with_seen text es

-- what is seen is below an outcome
abbrev pub IsBelow : List (Entry (List ℕ)) → Line → Type 0
IsBelow es blank = Unit {0}
IsBelow es (heading number count first) = Unit {0}
IsBelow es (shown text) = 0 < length es

-- each line in its place, after these outcomes
abbrev pub ArePlaced : List (Entry (List ℕ)) → List Line → Type 0
ArePlaced es [] = Unit {0}
ArePlaced es (line ∷ lines) = IsLine line × IsBelow es line × ArePlaced (with_line es line) lines

-- The lines are placed, and make these outcomes.
abbrev pub Make : List (Entry (List ℕ)) → List ℕ → List (Entry (List ℕ)) → Type 0
Make es text found = (lines : List Line) × ArePlaced es lines × (text ≡ lines_text lines) × (fold with_line es lines ≡ found)

-- ---- the events of a line

-- The text that is left begins with an event, and with more of them each after a comma, and what they ask for is left.
pub record AreLeft (done : List Event) (rest : List ℕ) (left : ℕ) (events : List Event) : Type 0 where
  pub event : Event
  pub more : List Event
  pub is : done ++ event ∷ more ≡ events
  pub text : rest ≡ event_text event ++ flat_map marked_event more
  pub asked : IsAsked event
  pub each : AllByRecursion IsAsked more
  pub room : turns event + turns_in more ≤ left
