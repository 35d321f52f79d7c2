-- What the body of an interrupt leaves as it is, and what it prints.
use Rattle.std.proofs.Common.{◌≡◌, ℕ, zero, suc, ℤ, pos, Bool, true, false, List, [], ◌∷◌, ◌++◌, Option, None, Some, refl, ap, ◌∙◌, if◌then◌else◌, length, All}
use Rattle.exectrace.specs.Trace.{TraceLine, Call as CallLine, Server, Softint, Alert, Timer}
use Rattle.execlist.specs.Order.{first}
use Rattle.forbid.specs.Nesting.{Nesting}
use Rattle.scheduler.specs.Schedule.{Schedule}
use Rattle.softint.specs.{declared.latches.Latches.Latches, declared.source.Source.Source}
use Rattle.script.specs.Commands.{CommandData}
use Rattle.execmodel.specs.Requests.{answering_port, acting_at, with_reply, ended, ends_with, finishes, finishes_each, finishes_all_due, finishes_set}
use Rattle.execmodel.specs.{State.Call, State.State, State.Timer as Clock, State.Outcome, State.quiet, State.prints_line, State.andthen, State.unless_stopped, State.on_memory, State.on_timer, State.on_pending, State.Bodies, Calls.call_in_body, Pending.caused_no_more, Bodies.body_step, Bodies.runs_body, Interrupts.softint_at, Interrupts.server_at, Interrupts.runs_softint, Interrupts.runs_server, Interrupts.runs_chain, Interrupts.finishes_for}
use Rattle.softint.specs.declared.source.Source.TheVariants as source
use Rattle.timerdev.specs.Timing.{due_next, looked_at, until_next}
use Rattle.std.proofs.lemmas.List.Elements.{All-head, All-tail}
use Rattle.execmodel.proofs.{Commands.performed_fixed, LinesOf.IsOwn, LinesOf.own, LinesOf.refusing, LinesOf.body_commanded, Keeping.finishes_found}

-- ---- what bodies leave

-- which task runs, and how the tasks have nested Forbid and Disable
abbrev pub standing : Schedule → Option ℕ × List Nesting
standing s = (s.running, s.nestings)

-- and which sources ask to be served
abbrev pub steady : State → Option ℕ × List Nesting × Latches
steady s = (s.schedule.running, s.schedule.nestings, s.pending.latches)

abbrev steady_of : (List (List ℕ) × Option ℕ × List Nesting) × Latches × Bodies → Option ℕ × List Nesting × Latches
steady_of p = (p.0.1, p.0.2, p.1)

-- ---- what bodies print

-- the line of a call or an alert, one with which a body begins, or that of a request that is done
abbrev pub IsOfBody : TraceLine → Type 0
IsOfBody (CallLine name word arguments outcome) = Unit {0}
IsOfBody (Server name) = Unit {0}
IsOfBody (Softint name) = Unit {0}
IsOfBody (Alert code name word) = Unit {0}
IsOfBody (Timer request) = Unit {0}
IsOfBody _ = ⊥

abbrev pub AreOfBodies : List TraceLine → Type 0
AreOfBodies [] = Unit {0}
AreOfBodies (line ∷ lines) = IsOfBody line × AreOfBodies lines

-- what comes of a body's action
pub record Bodily (s : State) (o : Outcome) : Type 0 where
  pub same : steady o.state ≡ steady s
  pub told : AreOfBodies o.lines

told_more : (some more : List TraceLine) → AreOfBodies some → AreOfBodies more → AreOfBodies (some ++ more)
told_more [] more one other = other
told_more (line ∷ lines) more one other = (one.0, told_more lines more one.1 other)

quiet_bodily : (s : State) → Bodily s (quiet s)
quiet_bodily s = record { same = refl; told = tt }

either_bodily : (test : Bool) (s : State) (o p : Outcome) → Bodily s o → Bodily s p → Bodily s (if test then o else p)
either_bodily true s o p one other = one
either_bodily false s o p one other = other

then_bodily : (first next : State → Outcome) (s : State) → Bodily s (first s) → ((r : State) → Bodily r (next r)) → Bodily s (andthen first next s)
unfolding andthen
then_bodily first next s one other = record {
  same = (other (first s).state).same ∙ one.same;
  told = told_more (first s).lines (next (first s).state).lines one.told (other (first s).state).told;
}

going_bodily : (next : State → Outcome) → ((r : State) → Bodily r (next r)) → (s : State) → Bodily s (unless_stopped next s)
going_bodily next one s = either_bodily s.stopped s (quiet s) (next s) (quiet_bodily s) (one s)

-- ---- bodies

own_of_body : (name : List ℕ) (call : Call) (line : TraceLine) → IsOwn name call line → IsOfBody line
own_of_body name call _ (own outcome) = tt
own_of_body name call _ (refusing code) = tt

all_of_body : (name : List ℕ) (call : Call) (lines : List TraceLine) → All (IsOwn name call) lines → AreOfBodies lines
all_of_body name call [] all = tt
all_of_body name call (line ∷ lines) all =
    (own_of_body name call line (All-head (IsOwn name call) line lines all), all_of_body name call lines (All-tail (IsOwn name call) line lines all))

command_bodily : (name : List ℕ) (command : CommandData) (s : State) → Bodily s (body_step name command s)
command_bodily name command s =
    let known = body_commanded name command s in
    record {
      same = ap steady_of known.alters.others;
      told = all_of_body name (call_in_body command s.scripts) (body_step name command s).lines known.tells.lines;
    }

pub body_bodily : (name : List ℕ) (code : List CommandData) (s : State) → Bodily s (runs_body name code s)
unfolding runs_body
body_bodily name [] s = quiet_bodily s
body_bodily name (command ∷ others) s =
    then_bodily (unless_stopped (body_step name command)) (runs_body name others) s
    (going_bodily (body_step name command) (command_bodily name command) s) (body_bodily name others)

pub softint_bodily : (i : ℕ) (s : State) → Bodily s (runs_softint i s)
unfolding runs_softint
softint_bodily i s =
    let softint = softint_at i s.bodies in
    let all = then_bodily (prints_line (Softint softint.name)) (runs_body softint.name softint.code) (on_pending (caused_no_more i) s)
    (record { same = refl; told = (tt, tt) }) (body_bodily softint.name softint.code) in
    record { same = all.same; told = all.told }

server_bodily : (k : ℕ) (s : State) → Bodily s (runs_server k s)
unfolding runs_server
server_bodily k s =
    let server = server_at k s.bodies in
    then_bodily (prints_line (Server server.name)) (runs_body server.name server.code) s
    (record { same = refl; told = (tt, tt) }) (body_bodily server.name server.code)

claimed_bodily : (claim : Bool) (others : State → Outcome) → ((r : State) → Bodily r (others r)) → (s : State)
    → Bodily s ((if claim then quiet else others) s)
claimed_bodily true others one s = quiet_bodily s
claimed_bodily false others one s = one s

pub chain_bodily : (chain : List ℕ) (s : State) → Bodily s (runs_chain chain s)
unfolding runs_chain
chain_bodily [] s = quiet_bodily s
chain_bodily (k ∷ others) s =
    let claim = (server_at k s.bodies).claim in
    then_bodily (runs_server k) (unless_stopped (if claim then quiet else runs_chain others)) s (server_bodily k s)
    (going_bodily (if claim then quiet else runs_chain others) (claimed_bodily claim (runs_chain others) (chain_bodily others)))

-- ---- requests that are due

ended_steady : (error : ℤ) (request : ℕ) (s : State) → steady (ends_with error request s) ≡ steady s
ended_steady error request s =
    ap steady_of (performed_fixed (acting_at (answering_port request s.memory.heap) s.memory.heap) (on_memory (ended error request) s))

reply_bodily : (port : Option ℕ) (request : ℕ) (s : State) (o : Outcome) → Bodily s o → Bodily s (with_reply port request o)
reply_bodily None request s o one = one
reply_bodily (Some port) request s o one = record { same = one.same; told = one.told }

finished_bodily : (request : ℕ) (s : State) → Bodily s (finishes request s)
unfolding finishes
finished_bodily request s =
    reply_bodily (answering_port request s.memory.heap) request s _
    (record { same = ended_steady (pos 0) request s; told = (tt, tt) })

found_bodily : (next : State → Outcome) → ((r : State) → Bodily r (next r)) → (found : Option ℕ) (s : State) → Bodily s (finishes_found next found s)
found_bodily next one None s = quiet_bodily s
found_bodily next one (Some request) s = then_bodily (finishes request) next s (finished_bodily request s) one

each_bodily : (next : Clock → Option ℕ) (n : ℕ) (s : State) → Bodily s (finishes_each next n s)
unfolding finishes_each
each_bodily next zero s = quiet_bodily s
each_bodily next (suc n) s = found_bodily (finishes_each next n) (each_bodily next n) (next s.memory.timer) s

pub finishing_bodily : (asks : Source) (s : State) → Bodily s (finishes_for asks s)
unfolding finishes_all_due
finishing_bodily source.Ports s = quiet_bodily s
finishing_bodily source.Vertb s = each_bodily due_next _ s
finishing_bodily source.Exter s = quiet_bodily s

-- what follows a call on requests
pub set_told : (s : State) → AreOfBodies (finishes_set s).lines
unfolding finishes_set
set_told s = by_test s.memory.timer.is_set
  where
    by_test : (test : Bool)
        → AreOfBodies (if test then finishes_each until_next (length s.memory.timer.waiting) (on_memory (on_timer looked_at) s) else quiet s).lines
    by_test true = (each_bodily until_next (length s.memory.timer.waiting) (on_memory (on_timer looked_at) s)).told
    by_test false = tt

-- a serving: what is due finishes, and then the chain of servers runs
pub served_bodily : (asks : Source) (chain : List ℕ) (s : State) → Bodily s (andthen (finishes_for asks) (runs_chain chain) s)
served_bodily asks chain s = then_bodily (finishes_for asks) (runs_chain chain) s (finishing_bodily asks s) (chain_bodily chain)
