-- No body, and no request that finishes, changes what interrupts execute, or moves the clock.
use Rattle.std.proofs.Common.{◌≡◌, ℕ, zero, suc, Bool, true, false, cond, List, [], ◌∷◌, Option, None, Some, refl, length, ◌∙◌, nat_eq, pos}
use Rattle.exectrace.specs.Trace.{Timer}
use Rattle.script.specs.{declared.word.Word.Word, declared.word.plain.PlainWord.PlainWord, declared.word.task_signals.SignalWord.SignalWord, declared.word.ports.PortWord.PortWord, declared.word.interrupts.InterruptWord.InterruptWord, Commands.CommandData}
use Rattle.script.specs.declared.word.Word.TheVariants as word
use Rattle.script.specs.declared.word.plain.PlainWord.TheVariants as plain
use Rattle.script.specs.declared.word.task_signals.SignalWord.TheVariants as signals
use Rattle.script.specs.declared.word.ports.PortWord.TheVariants as ports
use Rattle.script.specs.declared.word.interrupts.InterruptWord.TheVariants as interrupts
use Rattle.msgport.specs.{declared.action.Action.Action, Port.arrival_action}
use Rattle.msgport.specs.declared.action.Action.TheVariants as action
use Rattle.execlist.specs.Order.{first}
use Rattle.execmodel.specs.Requests.{acting_at, answering_port, ended, ends_with, finishes, finishes_all_due, finishes_each, with_reply}
use Rattle.execmodel.specs.{Keeping.clock_alone, State.Bodies, State.Call, State.Timer as Clock, State.State, State.Outcome, State.quiet, State.prints_line, State.andthen, State.unless_stopped, State.on_memory, State.on_heap, Bodies.body_step, Bodies.does_in_body, Bodies.does_interrupts_by, Bodies.does_plain_by, Bodies.does_ports_by, Bodies.does_signals_by, Bodies.does_word_by, Bodies.runs_body, Calls.ByBody, Calls.argument, Calls.call_in_body, Calls.unless_by, Interrupts.finishes_for, Interrupts.runs_server, Interrupts.server_at, Pending.causes, Ports.content_of, Ports.delivered, Ports.messages_of, Ports.performed, Ports.port_alert, Ports.port_of, Ports.posted, Ports.put_alert, Ports.replied_by, Ports.reply_alert, Ports.taken_by, Signals.signal_alert}
use Rattle.timerdev.specs.Timing.{due_next}
use Rattle.softint.specs.declared.source.Source.{Source}
use Rattle.softint.specs.declared.source.Source.TheVariants as source
use Rattle.script.specs.declared.alert.Alert.{Alert}

-- what interrupts execute, and the clock of the timer
abbrev pub held : State → Bodies × Clock
held s = (s.bodies, clock_alone s.memory.timer)

abbrev pub Holds : (State → Outcome) → Type 0
Holds next = (s : State) → held (next s).state ≡ held s

keeps_performed : (act : Action) (s : State) → held (performed act s) ≡ held s
unfolding causes
keeps_performed (action.Signal task mask) s = refl
keeps_performed (action.Cause i) s = refl
keeps_performed action.Nothing s = refl

keeps_delivered : (kind port message : ℕ) (s : State) → held (delivered kind port message s) ≡ held s
unfolding delivered
keeps_delivered kind port message s = keeps_performed (arrival_action (port_of port s.memory.heap)) (on_memory (on_heap (posted kind port message)) s)

keeps_allowed : (name : List ℕ) (call : Call) (effect : State → Outcome) (alert : Option Alert) (s : State) → held (effect s).state ≡ held s
    → held (unless_by alert (ByBody name) call effect s).state ≡ held s
keeps_allowed name call effect None s kept = kept
keeps_allowed name call effect (Some code) s kept = refl

keeps_taken : (name : List ℕ) (call : Call) (port : ℕ) (message : Option ℕ) (s : State) → held (taken_by port message (ByBody name) call s).state ≡ held s
keeps_taken name call port None s = refl
keeps_taken name call port (Some message) s = refl

module _ (name : List ℕ) (call : Call) where
  keeps_plain : (is : PlainWord) → Holds (does_plain_by is (ByBody name) call)
  keeps_plain plain.Set s = refl
  keeps_plain _ s = refl

  keeps_signals : (is : SignalWord) → Holds (does_signals_by is (ByBody name) call)
  keeps_signals signals.Signal s = keeps_allowed name call _ (signal_alert (argument 0 call) (argument 1 call) s.scripts) s refl
  keeps_signals _ s = refl

  keeps_replied : (reply message : ℕ) (s : State) → held (replied_by reply (ByBody name) call message s).state ≡ held s
  keeps_replied reply message s = by_case (nat_eq reply 0) _ _ refl (keeps_delivered _ reply message s) where
    by_case : (none : Bool) (x y : Outcome) → held x.state ≡ held s → held y.state ≡ held s → held (cond none x y).state ≡ held s
    by_case true x y p q = p
    by_case false x y p q = q

  keeps_ports : (is : PortWord) → Holds (does_ports_by is (ByBody name) call)
  keeps_ports ports.PutMsg s = keeps_allowed name call _ (put_alert (argument 0 call) (argument 1 call) s.memory.heap) s
      (keeps_delivered _ (argument 0 call) (argument 1 call) s)
  keeps_ports ports.GetMsg s = keeps_allowed name call _ (port_alert (argument 0 call) s.memory.heap) s
      (keeps_taken name call (argument 0 call) (first (messages_of (argument 0 call) s.memory.heap)) s)
  keeps_ports ports.ReplyMsg s = keeps_allowed name call _ (reply_alert (argument 0 call) s.memory.heap) s
      (keeps_replied (content_of (argument 0 call) s.memory.heap).reply (argument 0 call) s)
  keeps_ports _ s = refl

  keeps_interrupts : (is : InterruptWord) → Holds (does_interrupts_by is (ByBody name) call)
  unfolding causes
  keeps_interrupts interrupts.Cause s = refl

  keeps_word : (is : Word) → Holds (does_word_by is (ByBody name) call)
  keeps_word (word.Plain is) s = keeps_plain is s
  keeps_word (word.Signals is) s = keeps_signals is s
  keeps_word (word.Ports is) s = keeps_ports is s
  keeps_word (word.Interrupts is) s = keeps_interrupts is s
  keeps_word _ s = refl

pub keeps_step : (name : List ℕ) (command : CommandData) → Holds (body_step name command)
unfolding body_step does_in_body
keeps_step name command s = let call = call_in_body command s.scripts in keeps_word name call call.word s

keeps_guarded : (next : State → Outcome) → Holds next → Holds (unless_stopped next)
keeps_guarded next keeps s = by_case s.stopped where
  by_case : (stopped : Bool) → held (cond stopped (quiet s) (next s)).state ≡ held s
  by_case true = refl
  by_case false = keeps s

pub body_keeps : (name : List ℕ) (code : List CommandData) → Holds (runs_body name code)
unfolding runs_body andthen
body_keeps name [] s = refl
body_keeps name (command ∷ others) s =
    body_keeps name others (unless_stopped (body_step name command) s).state ∙ keeps_guarded (body_step name command) (keeps_step name command) s

pub server_keeps : (k : ℕ) → Holds (runs_server k)
unfolding runs_server andthen
server_keeps k s = body_keeps (server_at k s.bodies).name (server_at k s.bodies).code s

-- ---- requests that finish

kept_reply : (port : Option ℕ) (request : ℕ) (o : Outcome) → held (with_reply port request o).state ≡ held o.state
kept_reply None request o = refl
kept_reply (Some port) request o = refl

keeps_ended : (request : ℕ) (s : State) → held (on_memory (ended (pos 0) request) s) ≡ held s
unfolding ended
keeps_ended request s = refl

pub finish_keeps : (request : ℕ) → Holds (finishes request)
unfolding finishes
finish_keeps request s =
    kept_reply (answering_port request s.memory.heap) request (prints_line (Timer request) (ends_with (pos 0) request s))
    ∙ keeps_performed (acting_at (answering_port request s.memory.heap) s.memory.heap) (on_memory (ended (pos 0) request) s)
    ∙ keeps_ended request s

-- the request that is found finishes, and then what comes next
found_keeps : (next : State → Outcome) → Holds next → (found : Option ℕ) (s : State)
    → held (elim found as (λ (x : Option ℕ). Outcome) [ None ↦ quiet s | Some request ↦ andthen (finishes request) next s ]).state ≡ held s
unfolding andthen
found_keeps next keeps None s = refl
found_keeps next keeps (Some request) s = keeps (finishes request s).state ∙ finish_keeps request s

each_keeps : (next : Clock → Option ℕ) (n : ℕ) → Holds (finishes_each next n)
unfolding finishes_each
each_keeps next zero s = refl
each_keeps next (suc n) s = found_keeps (finishes_each next n) (each_keeps next n) (next s.memory.timer) s

pub finishing_keeps : (asks : Source) → Holds (finishes_for asks)
unfolding finishes_all_due
finishing_keeps source.Ports s = refl
finishing_keeps source.Vertb s = each_keeps due_next (length s.memory.timer.waiting) s
finishing_keeps source.Exter s = refl
