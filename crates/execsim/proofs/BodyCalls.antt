-- How the machine follows the body of a software interrupt or of a server.
use Rattle.std.proofs.Common.{◌≡◌, ℕ, zero, suc, ◌+◌, ◌-◌, true, false, List, [], ◌∷◌, take, Option, None, Some, refl, ap, sym, ◌∙◌, subst, add-one, map, IfSome, codes, slice_get, option_map, unwrap_or}
use Rattle.std.proofs.lemmas.Option.{slice_get-map}
use Rattle.exectrace.specs.{Trace.Quoted, Trace.Server, Trace.Softint, Trace.Value, Short.short_argument, declared.lines.ShortArg.ShortArg}
use Rattle.exectrace.specs.Trace as trace
use Rattle.exectrace.specs.declared.lines.ShortArg.TheVariants as short
use Rattle.script.specs.declared.word.Word.TheVariants.{Plain, Signals, Interrupts}
use Rattle.script.specs.{declared.command.Command.Command, declared.variable.Variable.Variable, declared.command.Argument.Argument, declared.word.plain.PlainWord.PlainWord, Words.word_text, Commands.CommandData, Commands.argument_view, Commands.command_view}
use Rattle.script.specs.declared.word.task_signals.SignalWord.TheVariants as signals
use Rattle.script.specs.declared.word.interrupts.InterruptWord.TheVariants as interrupts
use Rattle.script.specs.declared.command.Argument.TheVariants as arguments
use Rattle.script.specs.declared.word.plain.PlainWord.TheVariants as plain
use Rattle.execmodel.specs.{State.Timer as Clock, State.Bodies, State.Call, State.Scripts, State.State, State.quiet, State.prints_line, State.andthen, State.unless_stopped, State.on_scripts, Bodies.body_step, Bodies.does_in_body, Bodies.does_plain_by, Bodies.does_word_by, Bodies.runs_body, Calls.Caller, Calls.ByBody, Calls.argument, Calls.call_in_body, Calls.done_by, Calls.evaluated_in_body, Calls.name_in, Calls.argument_number, Calls.silent_by, Calls.stored_shared, Causing.does_cause_by, Pending.softint_number, Signals.is_mask, Signals.is_task, Signals.does_signal_by, Interrupts.runs_server, Interrupts.server_at, Interrupts.softint_at}
use Rattle.execsim.specs.{declared.bodies.Body.Body, Actions.caused, Actions.does_at_place, Actions.softint_body, Agreement.Seen, Agreement.Agrees, Agreement.Follows, Agreement.Quietly, Views.code_of_body}
use Rattle.execsim.proofs.Following.{andthen-assoc, andthen-quiet, andthen-second, follows_as, follows_known, follows_nothing, quietly_as, quietly_moves, follows_says, follows_then, guarded_going, moves_scripts, reads_scripts}
use Rattle.execsim.proofs.{Caused.caused_done, Caused.one_only, Keeping.body_keeps, Signalling.signal_sent}
use Rattle.execlist.specs.Disciplines.{by_priority}
use Rattle.scheduler.specs.Dispatch.{signalled}
use Rattle.exectrace.specs.Hearing.{Hearing}

-- ---- one command

pub step_as : {H : Hearing} {m n : Seen} {a b : H.Told} (name : List ℕ) (command : CommandData) (call : Call) → call ≡ call_in_body command m.scripts
    → Follows H (does_in_body name call) m n a b → Follows H (body_step name command) m n a b
unfolding body_step
step_as name command call is follows = follows_as {g = does_in_body name call}
    (λ s e. ap (λ (c : Call). does_in_body name c s) (reads_scripts (call_in_body command) (sym is) s e)) follows

-- the command at a place of a body, by the commands that the machine holds
pub command_there : (code : List Command) (all : List CommandData) (place : ℕ) (found : Option Command) → found ≡ slice_get code place
    → map command_view code ≡ all → option_map command_view found ≡ slice_get all place
command_there code all place found at is =
    ap (option_map command_view) at ∙ sym (slice_get-map command_view code place) ∙ ap (λ l. slice_get l place) is

-- a plain word that prints nothing stores a value
pub plain_in_body : (call : Call) (word : PlainWord) (value : Option ℕ) → call.word ≡ Plain word
    → IfSome value (λ v. (by : Caller) (s : State) → does_plain_by word by call s ≡ silent_by by call v s)
    → IfSome value (λ v. (name : List ℕ) (s : State) → does_in_body name call s ≡ silent_by (ByBody name) call v s)
unfolding does_in_body
plain_in_body call word None is same = _
plain_in_body call word (Some v) is same = λ name s. ap (λ w. does_word_by w (ByBody name) call s) is ∙ same (ByBody name) s

pub silently : {m n : Seen} (name : List ℕ) (call : Call) (target : Option Variable) (value : ℕ)
    → n ≡ record m { scripts = stored_shared target value m.scripts } → call.target ≡ target → Quietly (silent_by (ByBody name) call value) m n
silently name call target value is same = quietly_as {g = λ s. quiet (on_scripts (stored_shared target value) s)}
    (λ s e. ap (λ t. quiet (on_scripts (stored_shared t value) s)) same) (quietly_moves (moves_scripts (stored_shared target value) is))

pub stored_as : {H : Hearing} {m n : Seen} {a b : H.Told} (name : List ℕ) (command : CommandData) (call : Call) (value : ℕ) → call ≡ call_in_body command m.scripts
    → ((name : List ℕ) (s : State) → does_in_body name call s ≡ silent_by (ByBody name) call value s)
    → Follows H (silent_by (ByBody name) call value) m n a b → Follows H (body_step name command) m n a b
stored_as name command call value is same follows = step_as name command call is (follows_as {g = silent_by (ByBody name) call value} (λ s e. same name s) follows)

-- Print prints the line of its call
pub printed_as : {H : Hearing} {m : Seen} {a b : H.Told} (name : List ℕ) (command : CommandData) → command.word ≡ Plain plain.Print
    → H.hears a b ((trace.Call name (codes "Print") (call_in_body command m.scripts).arguments trace.Done) ∷ []) → Follows H (body_step name command) m m a b
unfolding does_in_body
printed_as {H} {m} {a} {b} name command is puts =
    let call = call_in_body command m.scripts in
    step_as name command call refl (follows_as {g = done_by (ByBody name) call} (λ s e. ap (λ w. does_word_by w (ByBody name) call s) is)
    (follows_says _ (subst (λ w. H.hears a b ((trace.Call name (word_text w) call.arguments trace.Done) ∷ [])) (sym is) puts)))

-- Signal, which is not refused, prints the line of its call, and the task receives the signals
pub signalled_as : {H : Hearing} {m n : Seen} {a b : H.Told} (name : List ℕ) (call : Call) → call.word ≡ Signals signals.Signal
    → is_task (argument 0 call) m.scripts ≡ true → is_mask (argument 1 call) ≡ true
    → H.hears a b ((trace.Call name (codes "Signal") call.arguments trace.Done) ∷ [])
    → n ≡ record m { schedule = signalled by_priority (argument 0 call - 1) (argument 1 call) m.schedule } → Follows H (does_in_body name call) m n a b
unfolding does_in_body
signalled_as {H} {m} {n} {a} {b} name call is known masked puts moved = follows_as {g = does_signal_by (ByBody name) call}
    (λ s e. ap (λ w. does_word_by w (ByBody name) call s) is)
    (signal_sent (ByBody name) call known masked moved
    (follows_says _ (subst (λ w. H.hears a b ((trace.Call name (word_text w) call.arguments trace.Done) ∷ [])) (sym is) puts)))

-- a list with no more than its first two
two_only : {X : Type 0} (all : List X) (one two : X) → slice_get (take 2 all) 0 ≡ Some one → slice_get (take 2 all) 1 ≡ Some two → take 2 all ≡ one ∷ two ∷ []
two_only [] one two first second = absurd cc
two_only (x ∷ []) one two first second = absurd cc
two_only (x ∷ y ∷ others) one two first second =
    let e : x ≡ one = cc in
    let f : y ≡ two = cc in
    ap (λ z. z ∷ y ∷ []) e ∙ ap (λ z. one ∷ z ∷ []) f

-- a command with two arguments, of which neither is a name
pub pair_alone : (command : Command) (first second : Argument) (one two : ShortArg) (pair : Option (ℕ × ℕ)) (scripts : Scripts) → command.count ≡ 2
    → slice_get (take command.count command.arguments) 0 ≡ Some first → slice_get (take command.count command.arguments) 1 ≡ Some second
    → ((name : List ℕ) → short_argument name one ≡ evaluated_in_body scripts (argument_view name first))
    → ((name : List ℕ) → short_argument name two ≡ evaluated_in_body scripts (argument_view name second))
    → IfSome pair (λ p. one ≡ short.Value p.0) → IfSome pair (λ p. two ≡ short.Value p.1)
    → IfSome pair (λ p. (call_in_body (command_view command) scripts).arguments ≡ Value p.0 ∷ Value p.1 ∷ [])
pair_alone command first second one two None scripts count at next is also a b = _
pair_alone command first second one two (Some p) scripts count at next is also a b =
    ap (λ (l : List Argument). map (evaluated_in_body scripts) (map (argument_view command.name.bytes) l))
    (ap (λ n. take n command.arguments) count
    ∙ two_only command.arguments first second (ap (λ n. slice_get (take n command.arguments) 0) (sym count) ∙ at)
    (ap (λ n. slice_get (take n command.arguments) 1) (sym count) ∙ next))
    ∙ ap (λ x. x ∷ evaluated_in_body scripts (argument_view command.name.bytes second) ∷ [])
    (sym (is command.name.bytes) ∙ ap (short_argument command.name.bytes) a)
    ∙ ap (λ x. Value p.0 ∷ x ∷ []) (sym (also command.name.bytes) ∙ ap (short_argument command.name.bytes) b)

-- Signal of a task and a mask, which is not refused
pub signalled_pair : {H : Hearing} {m n : Seen} {a b : H.Told} (name : List ℕ) (call : Call) (other mask : ℕ) → call.word ≡ Signals signals.Signal
    → call.arguments ≡ Value other ∷ Value mask ∷ [] → is_task other m.scripts ≡ true → is_mask mask ≡ true
    → H.hears a b ((trace.Call name (codes "Signal") (Value other ∷ Value mask ∷ []) trace.Done) ∷ [])
    → n ≡ record m { schedule = signalled by_priority (other - 1) mask m.schedule } → Follows H (does_in_body name call) m n a b
signalled_pair {H} {m} {n} {a} {b} name call other mask is pair known masked puts moved =
    let first : argument 0 call ≡ other = ap (λ (l : List trace.Argument). argument_number (slice_get l 0)) pair in
    let second : argument 1 call ≡ mask = ap (λ (l : List trace.Argument). argument_number (slice_get l 1)) pair in
    signalled_as name call is (ap (λ x. is_task x m.scripts) first ∙ known) (ap is_mask second ∙ masked)
    (subst (λ (l : List trace.Argument). H.hears a b ((trace.Call name (codes "Signal") l trace.Done) ∷ [])) (sym pair) puts)
    (moved ∙ ap (λ x. record m { schedule = signalled by_priority (x - 1) mask m.schedule }) (sym first)
    ∙ ap (λ x. record m { schedule = signalled by_priority (argument 0 call - 1) x m.schedule }) (sym second))

-- a command with one argument
pub argument_alone : (command : Command) (found : Argument) (value : ShortArg) (scripts : Scripts) → command.count ≡ 1
    → slice_get (take command.count command.arguments) 0 ≡ Some found
    → ((name : List ℕ) → short_argument name value ≡ evaluated_in_body scripts (argument_view name found))
    → (call_in_body (command_view command) scripts).arguments ≡ short_argument command.name.bytes value ∷ []
argument_alone command found value scripts one is same =
    ap (λ (l : List Argument). map (evaluated_in_body scripts) (map (argument_view command.name.bytes) l))
    (ap (λ n. take n command.arguments) one
    ∙ one_only command.arguments found (ap (λ n. slice_get (take n command.arguments) 0) (sym one) ∙ is))
    ∙ ap (λ x. x ∷ []) (sym (same command.name.bytes))

-- a command whose only argument is a name
pub named_alone : (command : Command) → command.count ≡ 1 → slice_get (take command.count command.arguments) 0 ≡ Some arguments.Quoted
    → (scripts : Scripts) → (call_in_body (command_view command) scripts).arguments ≡ Quoted command.name.bytes ∷ []
named_alone command one is scripts = argument_alone command arguments.Quoted short.Quoted scripts one is (λ name. refl)

-- Cause, of a name, prints the line of its call, and the software interrupt of that name is caused
pub caused_as : {H : Hearing} {m n : Seen} {a b : H.Told} (name own : List ℕ) (call : Call) (i : ℕ) → call.word ≡ Interrupts interrupts.Cause
    → call.arguments ≡ Quoted own ∷ [] → i ≡ softint_number own m.bodies.softints
    → H.hears a b ((trace.Call name (codes "Cause") (Quoted own ∷ []) trace.Done) ∷ []) → n ≡ caused i m → Follows H (does_in_body name call) m n a b
unfolding does_in_body
caused_as {H} {m} {n} {a} {b} name own call i is alone named puts moved = follows_as {g = does_cause_by (ByBody name) call}
    (λ s e. ap (λ w. does_word_by w (ByBody name) call s) is)
    (caused_done (ByBody name) call i
    (named ∙ ap (λ (l : List trace.Argument). softint_number (unwrap_or (name_in (slice_get l 0)) []) m.bodies.softints) (sym alone)) moved
    (follows_says _ (subst (λ w. H.hears a b ((trace.Call name (word_text w) call.arguments trace.Done) ∷ [])) (sym is)
    (subst (λ (l : List trace.Argument). H.hears a b ((trace.Call name (codes "Cause") l trace.Done) ∷ [])) (sym alone) puts))))

module _ {m : Seen} (name : List ℕ) (here : Option CommandData) where
  pub place_empty : {H : Hearing} (t : H.Told) → None ≡ here → Follows H (does_at_place name here) m m t t
  place_empty {H} t none = subst (λ command. Follows H (does_at_place name command) m m t t) none (follows_nothing m t)

  pub place_done : {H : Hearing} {n : Seen} {a b : H.Told} (command : CommandData) → m.stopped ≡ false → Some command ≡ here
      → Follows H (body_step name command) m n a b → Follows H (does_at_place name here) m n a b
  place_done {H} {n} {a} {b} command going some follows =
      subst (λ command. Follows H (does_at_place name command) m n a b) some (guarded_going going follows)

-- ---- a whole body

-- a body up to a place, and the command there
body-more : (name : List ℕ) (code : List CommandData) (place : ℕ) (s : State)
    → runs_body name (take (suc place) code) s ≡ andthen (runs_body name (take place code)) (does_at_place name (slice_get code place)) s
unfolding runs_body andthen
body-more name [] zero s = refl
body-more name [] (suc place) s = refl
body-more name (command ∷ others) zero s = andthen-quiet (unless_stopped (body_step name command) s)
body-more name (command ∷ others) (suc place) s =
    andthen-second (unless_stopped (body_step name command)) (runs_body name (take (suc place) others))
    (andthen (runs_body name (take place others)) (does_at_place name (slice_get others place))) s (body-more name others place)
    ∙ andthen-assoc (unless_stopped (body_step name command)) (runs_body name (take place others)) (does_at_place name (slice_get others place)) s

pub no_command : {H : Hearing} (m : Seen) (name : List ℕ) (code : List CommandData) (t : H.Told) → Follows H (runs_body name (take 0 code)) m m t t
unfolding runs_body
no_command m name code t = follows_nothing m t

pub more_commands : {H : Hearing} {m n o : Seen} {a b c : H.Told} (body : Body) (name : List ℕ) (code : List CommandData) (place : ℕ) → code ≡ code_of_body body m.bodies
    → Follows H (runs_body name (take place code)) m n a b
    → Follows H (does_at_place name (slice_get (code_of_body body n.bodies) place)) n o b c
    → Follows H (runs_body name (take (place + 1) code)) m o a c
more_commands {H} {m} {n} {o} {a} {b} {c} body name code place is before last = rw add-one (follows_known (λ s e. follows_as
    {g = andthen (runs_body name (take place code)) (does_at_place name (slice_get code place))}
    (λ s e. body-more name code place s)
    (follows_then before (subst (λ (l : List CommandData). Follows H (does_at_place name (slice_get l place)) n o b c) (same_code s e) last))))
  where
    -- no command changes the bodies
    same_bodies : (s : State) → Agrees m s → n.bodies ≡ m.bodies
    same_bodies s e = (before.agrees s e).bodies ∙ ap (λ (x : Bodies × Clock). x.0) (body_keeps name (take place code) s) ∙ sym e.bodies

    same_code : (s : State) → Agrees m s → code_of_body body n.bodies ≡ code
    same_code s e = ap (code_of_body body) (same_bodies s e) ∙ sym is

-- ---- a software interrupt, and a server

module _ {H : Hearing} {m n : Seen} {a b c : H.Told} where
  pub softint_as : (i : ℕ) → H.hears a b ((Softint (softint_at i m.bodies).name) ∷ [])
      → Follows H (runs_body (softint_at i m.bodies).name (softint_at i m.bodies).code) m n b c → Follows H (softint_body i) m n a c
  softint_as i puts follows = follows_as
      {g = andthen (prints_line (Softint (softint_at i m.bodies).name)) (runs_body (softint_at i m.bodies).name (softint_at i m.bodies).code)}
      (λ s e. ap (λ (x : Bodies). andthen (prints_line (Softint (softint_at i x).name)) (runs_body (softint_at i x).name (softint_at i x).code) s) (sym e.bodies))
      (follows_then (follows_says _ puts) follows)

  pub server_as : (k : ℕ) → H.hears a b ((Server (server_at k m.bodies).name) ∷ [])
      → Follows H (runs_body (server_at k m.bodies).name (server_at k m.bodies).code) m n b c → Follows H (runs_server k) m n a c
  unfolding runs_server
  server_as k puts follows = follows_as
      {g = andthen (prints_line (Server (server_at k m.bodies).name)) (runs_body (server_at k m.bodies).name (server_at k m.bodies).code)}
      (λ s e. ap (λ (x : Bodies). andthen (prints_line (Server (server_at k x).name)) (runs_body (server_at k x).name (server_at k x).code) s) (sym e.bodies))
      (follows_then (follows_says _ puts) follows)
