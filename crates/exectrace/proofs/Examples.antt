-- One line of each kind as the definitions compute it, and a trace of two.
use Rattle.std.specs.Prelude.{◌≡◌, [], ◌∷◌, codes, refl}
use Rattle.exectrace.specs.Trace.{Value, Quoted, Done, Answers, Waits, Switch, Idle, Call, Serve, Timer, Server, Softint, Alert, value_text, printed_line, printed}

no_value : value_text 0 ≡ codes "$00000000"
no_value = refl

all_digits : value_text 0x89ABCDEF ≡ codes "$89ABCDEF"
all_digits = refl

switch_line : printed_line (Switch (codes "a")) ≡ codes "switch a\n"
switch_line = refl

idle_line : printed_line Idle ≡ codes "idle\n"
idle_line = refl

call_line : printed_line (Call (codes "a") (codes "FreeMem") (Value 0x1000 ∷ Value 8 ∷ []) Done) ≡ codes "a FreeMem $00001000 $00000008\n"
call_line = refl

bare_call_line : printed_line (Call (codes "a") (codes "Forbid") [] Done) ≡ codes "a Forbid\n"
bare_call_line = refl

answer_line : printed_line (Call (codes "a") (codes "OpenLibrary") (Quoted (codes "x.library") ∷ Value 37 ∷ []) (Answers 0x1000))
    ≡ codes "a OpenLibrary \"x.library\" $00000025 -> $00001000\n"
answer_line = refl

wait_line : printed_line (Call (codes "c") (codes "Wait") (Value 0x1000 ∷ []) Waits) ≡ codes "c Wait $00001000 waits\n"
wait_line = refl

serve_line : printed_line (Serve (codes "VERTB")) ≡ codes "serve VERTB\n"
serve_line = refl

timer_line : printed_line (Timer 0x1028) ≡ codes "timer $00001028\n"
timer_line = refl

server_line : printed_line (Server (codes "hi")) ≡ codes "server hi\n"
server_line = refl

softint_line : printed_line (Softint (codes "x")) ≡ codes "softint x\n"
softint_line = refl

alert_line : printed_line (Alert (codes "NEST") (codes "a") (codes "Permit")) ≡ codes "alert NEST a Permit\n"
alert_line = refl

two_lines : printed (Switch (codes "a") ∷ Idle ∷ []) ≡ codes "switch a\nidle\n"
two_lines = refl
