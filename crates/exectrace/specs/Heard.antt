-- The line that is printed of what a machine says.
use Rattle.std.specs.Prelude.{ℕ, List, codes, map}
use Rattle.exectrace.specs.Trace.{TraceLine, Switch, Idle, Call, Serve, Timer, Server, Softint, Alert}
use Rattle.exectrace.specs.{Shown.shown_outcome, Short.short_argument}
use Rattle.script.specs.Words.{word_text}
use Rattle.softint.specs.Sources.{source_text}
use Rattle.script.specs.Alerts.{alert_text}
use Rattle.exectrace.specs.declared.telling.Said.{Said}
use Rattle.exectrace.specs.declared.telling.Said.TheVariants as said

-- the line of what is said
abbrev pub heard : Said → TraceLine
heard (said.Switch who) = Switch who.now.bytes
heard said.Idle = Idle
heard (said.Call by word arguments quoted ends) = Call by.now.bytes (word_text word) (map (short_argument quoted.now.bytes) arguments.now) (shown_outcome ends)
heard (said.Serve asks) = Serve (source_text asks)
heard (said.Timer request) = Timer request
heard (said.Server who) = Server who.now.bytes
heard (said.Softint who) = Softint who.now.bytes
heard (said.Alert code by word) = Alert (alert_text code) by.now.bytes (word_text word)
