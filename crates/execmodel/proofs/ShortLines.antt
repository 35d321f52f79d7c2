-- How many bytes a line has at most, if names and words have at most 31, and the arguments of a call take at most 64.
use Rattle.std.proofs.Common.{ℕ, ◌+◌, ◌≤◌, lit≤, List, ◌++◌, length, length-append, arith, codes, flat_map}
use Rattle.exectrace.specs.Trace.{Argument, CallEnd, Done, Answers, Waits, TraceLine, Switch, Idle, Call, Serve, Timer, Server, Softint, Alert, argument_text, outcome_text, printed_line}

-- a printed line has at most 160 bytes, its line feed included
abbrev pub IsShort : TraceLine → Type 0
IsShort line = length (printed_line line) ≤ 160

abbrev pub IsShortText : List ℕ → Type 0
IsShortText text = length text ≤ 31

-- the arguments of a call with the spaces before them: four values, one of which may be a name in its place
abbrev pub AreShort : List Argument → Type 0
AreShort arguments = length (flat_map argument_text arguments) ≤ 64

-- a text of that many bytes at most
record HasAtMost (text : List ℕ) (n : ℕ) : Type 0 where
  pub bytes : length text ≤ n

-- a text after another
before : {some more : List ℕ} {m n : ℕ} → HasAtMost some m → HasAtMost more n → HasAtMost (some ++ more) (m + n)
before {some} {more} first second =
    let a = first.bytes in
    let b = second.bytes in
    record { bytes = omega (arith, length-append some more, a, b) }

short_line : (line : TraceLine) (n : ℕ) → HasAtMost (printed_line line) n → n ≤ 160 → IsShort line
short_line line n has few = let most = has.bytes in omega (arith, most, few)

has : (text : List ℕ) (n : ℕ) → length text ≤ n → HasAtMost text n
has text n most = record { bytes = most }

space : HasAtMost (codes " ") 1
space = record { bytes = lit≤ tt }

line_feed : HasAtMost (codes "\n") 1
line_feed = record { bytes = lit≤ tt }

-- ---- the kinds of lines

pub switch_short : (name : List ℕ) → IsShortText name → IsShort (Switch name)
switch_short name short =
    short_line (Switch name) 39 (before (before (has (codes "switch ") 7 (lit≤ tt)) (has name 31 short)) line_feed) (lit≤ tt)

pub idle_short : IsShort Idle
idle_short = lit≤ tt

pub serve_short : (source : List ℕ) → IsShortText source → IsShort (Serve source)
serve_short source short =
    short_line (Serve source) 38 (before (before (has (codes "serve ") 6 (lit≤ tt)) (has source 31 short)) line_feed) (lit≤ tt)

pub server_short : (name : List ℕ) → IsShortText name → IsShort (Server name)
server_short name short =
    short_line (Server name) 39 (before (before (has (codes "server ") 7 (lit≤ tt)) (has name 31 short)) line_feed) (lit≤ tt)

pub softint_short : (name : List ℕ) → IsShortText name → IsShort (Softint name)
softint_short name short =
    short_line (Softint name) 40 (before (before (has (codes "softint ") 8 (lit≤ tt)) (has name 31 short)) line_feed) (lit≤ tt)

pub timer_short : (value : ℕ) → IsShort (Timer value)
timer_short value = lit≤ tt

outcome_has : (outcome : CallEnd) → HasAtMost (outcome_text outcome) 13
outcome_has Done = record { bytes = lit≤ tt }
outcome_has (Answers n) = record { bytes = lit≤ tt }
outcome_has Waits = record { bytes = lit≤ tt }

pub call_short : (name word : List ℕ) (arguments : List Argument) (outcome : CallEnd) → IsShortText name → IsShortText word
    → AreShort arguments → IsShort (Call name word arguments outcome)
call_short name word arguments outcome short also few =
    let called = before (before (has name 31 short) space) (has word 31 also) in
    let with_arguments = before called (has (flat_map argument_text arguments) 64 few) in
    short_line (Call name word arguments outcome) 141 (before (before with_arguments (outcome_has outcome)) line_feed) (lit≤ tt)

pub alert_short : (code name word : List ℕ) → IsShortText code → IsShortText name → IsShortText word → IsShort (Alert code name word)
alert_short code name word few short also =
    let coded = before (has (codes "alert ") 6 (lit≤ tt)) (has code 31 few) in
    let named = before (before coded space) (has name 31 short) in
    short_line (Alert code name word) 102 (before (before (before named space) (has word 31 also)) line_feed) (lit≤ tt)
