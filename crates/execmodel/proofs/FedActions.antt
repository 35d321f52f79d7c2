-- A step, a tick, a request and the start do of a machine whose body grows what they do of the machine without that.
use Rattle.std.proofs.Common.{◌≡◌, ◌≢◌, ◌∙◌, ℕ, zero, suc, Bool, true, false, List, [], ◌∷◌, Option, None, Some, length, refl, ap, if◌then◌else◌}
use Rattle.execlist.specs.Disciplines.{by_arrival}
use Rattle.softint.specs.Sources.{source_text}
use Rattle.exectrace.specs.Trace.{Serve, Server, Softint, TraceLine}
use Rattle.script.specs.Commands.{CommandData}
use Rattle.scheduler.specs.{declared.Switch.Switch as Choice, Schedule.Schedule, Dispatch.switch_of, Dispatch.rescheduled, Dispatch.added}
use Rattle.scheduler.specs.declared.Switch.TheVariants as switch
use Rattle.softint.specs.declared.source.Source.{Source}
use Rattle.softint.specs.declared.source.Source.TheVariants as source
use Rattle.timerdev.specs.Timing.{clock_ticked}
use Rattle.execmodel.specs.State.{Call, Scripts, State, Outcome, quiet, prints_line, andthen, unless_stopped, on_schedule, on_memory, on_pending, on_timer}
use Rattle.execmodel.specs.Feeding.{fed, fed_to, and_fed, if_no_call, without_call, without_call_or_softint, at_end}
use Rattle.execmodel.specs.Interrupts.{softint_at, runs_softint, server_at, chain_of, runs_server, runs_chain, serving_counted, finishes_for, serves, servings, interrupts}
use Rattle.execmodel.specs.Step.{announced, switches, settle, ends, task_step, call_step, softint_or_task_step, step_action, acts, step, request, tick, started, all_added, starts}
use Rattle.execmodel.specs.{Calls.next_call, Calls.call_in_body, Pending.caused_no_more, Pending.with_latch_of, Pending.next_softint, Pending.next_source, Bodies.does_in_body, Bodies.body_step, Bodies.runs_body}
use Rattle.execmodel.proofs.FedScripts.{fed_count, fed_starts, fed_body_call, fed_next}
use Rattle.execmodel.proofs.FedWords.{Commutes, fed_in_body, fed_andthen, fed_finishes_all_due, fed_does}

module _ (u : ℕ) (command : CommandData) where
  fed_unless : (next : State → Outcome) (s : State) → (s.stopped ≡ false → Commutes u command next s) → Commutes u command (unless_stopped next) s
  fed_unless next s same = by_test s.stopped same
    where
      by_test : (test : Bool) → (test ≡ false → next (fed u command s) ≡ and_fed u command (next s))
          → (if test then quiet (fed u command s) else next (fed u command s)) ≡ and_fed u command (if test then quiet s else next s)
      by_test true same = refl
      by_test false same = same refl

  -- ---- interrupts

  fed_body_step : (name : List ℕ) (c : CommandData) (s : State) → Commutes u command (body_step name c) s
  unfolding body_step
  fed_body_step name c s =
      ap (λ call. does_in_body name call (fed u command s)) (fed_body_call u command c s.scripts) ∙ fed_in_body u command name (call_in_body c s.scripts) s

  fed_body : (name : List ℕ) (code : List CommandData) (s : State) → Commutes u command (runs_body name code) s
  unfolding runs_body
  fed_body name [] s = refl
  fed_body name (c ∷ others) s =
      fed_andthen u command (unless_stopped (body_step name c)) (runs_body name others) s
      (fed_unless (body_step name c) s (λ going. fed_body_step name c s)) (fed_body name others (unless_stopped (body_step name c) s).state)

  fed_says_body : (line : TraceLine) (name : List ℕ) (code : List CommandData) (s : State) → Commutes u command (andthen (prints_line line) (runs_body name code)) s
  fed_says_body line name code s = fed_andthen u command (prints_line line) (runs_body name code) s refl (fed_body name code s)

  fed_softint : (i : ℕ) (s : State) → Commutes u command (runs_softint i) s
  unfolding runs_softint
  fed_softint i s =
      let softint = softint_at i s.bodies in
      fed_says_body (Softint softint.name) softint.name softint.code (on_pending (caused_no_more i) s)

  fed_server : (k : ℕ) (s : State) → Commutes u command (runs_server k) s
  unfolding runs_server
  fed_server k s = let server = server_at k s.bodies in fed_says_body (Server server.name) server.name server.code s

  fed_claimed : (claim : Bool) (next : State → Outcome) (s : State) → Commutes u command next s → Commutes u command (if claim then quiet else next) s
  fed_claimed true next s same = refl
  fed_claimed false next s same = same

  fed_chain : (chain : List ℕ) (s : State) → Commutes u command (runs_chain chain) s
  unfolding runs_chain
  fed_chain [] s = refl
  fed_chain (k ∷ others) s =
      let claim = (server_at k s.bodies).claim in
      let r = (runs_server k s).state in
      fed_andthen u command (runs_server k) (unless_stopped (if claim then quiet else runs_chain others)) s (fed_server k s)
      (fed_unless (if claim then quiet else runs_chain others) r (λ going. fed_claimed claim (runs_chain others) r (fed_chain others r)))

  fed_finishing : (asks : Source) (s : State) → Commutes u command (finishes_for asks) s
  fed_finishing source.Ports s = refl
  fed_finishing source.Vertb s = fed_finishes_all_due u command s
  fed_finishing source.Exter s = refl

  fed_serves : (asks : Source) (s : State) → Commutes u command (serves asks) s
  unfolding serves
  fed_serves asks s =
      let chain = chain_of asks s.bodies.servers in
      let begun = on_schedule (serving_counted asks) (on_pending (with_latch_of asks false) s) in
      fed_andthen u command (prints_line (Serve (source_text asks))) (andthen (finishes_for asks) (runs_chain chain)) begun refl
      (fed_andthen u command (finishes_for asks) (runs_chain chain) begun (fed_finishing asks begun) (fed_chain chain (finishes_for asks begun).state))

  fed_servings : (n : ℕ) (s : State) → Commutes u command (servings n) s
  unfolding servings next_source
  fed_servings zero s = refl
  fed_servings (suc n) s = by_source (fed_servings n) (next_source s)
    where
      by_source : ((r : State) → Commutes u command (servings n) r) → (found : Option Source)
          → (elim found as (λ (x : Option Source). Outcome)
          [ None ↦ quiet (fed u command s) | Some asks ↦ andthen (serves asks) (unless_stopped (servings n)) (fed u command s) ])
          ≡ and_fed u command (elim found as (λ (x : Option Source). Outcome)
          [ None ↦ quiet s | Some asks ↦ andthen (serves asks) (unless_stopped (servings n)) s ])
      by_source fewer None = refl
      by_source fewer (Some asks) =
          let r = (serves asks s).state in
          fed_andthen u command (serves asks) (unless_stopped (servings n)) s (fed_serves asks s)
          (fed_unless (servings n) r (λ going. fewer r))

  -- ---- settling

  fed_announced : (choice : Option Choice) (s : State) → Commutes u command (announced choice) s
  fed_announced None s = refl
  fed_announced (Some (switch.To t)) s = refl
  fed_announced (Some switch.Idle) s = refl

  fed_switches : (s : State) → Commutes u command switches s
  unfolding switches
  fed_switches s = fed_announced (switch_of by_arrival s.schedule) (on_schedule (rescheduled by_arrival) s)

  fed_settle : (s : State) → Commutes u command settle s
  unfolding settle interrupts
  fed_settle s =
      let r = (interrupts s).state in
      fed_unless (andthen interrupts (unless_stopped switches)) s (λ going.
      fed_andthen u command interrupts (unless_stopped switches) s (fed_servings 3 s) (fed_unless switches r (λ on. fed_switches r)))

  -- ---- a step

  fed_ends : (t : ℕ) (s : State) → Commutes u command (ends t) s
  unfolding ends
  fed_ends t s = refl

  fed_call_step : (t : ℕ) (call : Option Call) (s : State) → Commutes u command (call_step t call) s
  fed_call_step t None s = fed_ends t s
  fed_call_step t (Some call) s = fed_does u command t call s

  -- task t runs, and is not found at the end of the body that grows
  fed_task_step : (running : Option ℕ) (s : State) → without_call running s.scripts ≢ Some u → Commutes u command (task_step running) s
  fed_task_step None s apart = refl
  fed_task_step (Some t) s apart =
      ap (λ call. call_step t call (fed u command s))
      (fed_next u command t s.scripts (λ same none. apart (ap (λ call. if_no_call call t) none ∙ ap Some same)))
      ∙ fed_call_step t (next_call t s.scripts) s

  fed_either : (softint : Option ℕ) (s : State) → without_call_or_softint softint s ≢ Some u → Commutes u command (softint_or_task_step softint) s
  fed_either None s apart = fed_task_step s.schedule.running s apart
  fed_either (Some i) s apart = fed_softint i s

  fed_acts : (s : State) → at_end s ≢ Some u → Commutes u command acts s
  unfolding acts step_action at_end next_softint
  fed_acts s apart =
      fed_unless step_action s (λ going. fed_either (next_softint s) s (λ here. apart (going_on s.stopped going ∙ here)))
    where
      going_on : (test : Bool) → test ≡ false → (if test then None else without_call_or_softint (next_softint s) s) ≡ without_call_or_softint (next_softint s) s
      going_on test going = ap (λ b. if b then None else without_call_or_softint (next_softint s) s) going

  pub fed_step : (s : State) → at_end s ≢ Some u → Commutes u command step s
  unfolding step
  fed_step s apart = fed_andthen u command acts settle s (fed_acts s apart) (fed_settle (acts s).state)

  -- ---- ticks, requests and the start

  pub fed_request : (asks : Source) (s : State) → Commutes u command (request asks) s
  unfolding request
  fed_request asks s =
      fed_unless (λ s. settle (on_pending (with_latch_of asks true) s)) s (λ going. fed_settle (on_pending (with_latch_of asks true) s))

  pub fed_tick : (s : State) → Commutes u command tick s
  unfolding tick
  fed_tick s =
      fed_unless (λ s. request source.Vertb (on_memory (on_timer clock_ticked) s)) s (λ going. fed_request source.Vertb (on_memory (on_timer clock_ticked) s))

  fed_added : (n : ℕ) (scripts : Scripts) (s : Schedule) → all_added (fed_to u command scripts) n s ≡ all_added scripts n s
  unfolding all_added
  fed_added zero scripts s = refl
  fed_added (suc n) scripts s =
      ap (λ (r : Schedule). started (fed_to u command scripts) n r) (fed_added n scripts s)
      ∙ ap (λ b. if b then added by_arrival n (all_added scripts n s) else all_added scripts n s) (fed_starts u command n scripts)

  pub fed_start : (s : State) → Commutes u command starts s
  unfolding starts
  fed_start s =
      ap (λ (r : Schedule). settle (record (fed u command s) { schedule = r }))
      (ap (λ n. all_added (fed_to u command s.scripts) n s.schedule) (fed_count u command s.scripts)
      ∙ fed_added (length s.scripts.programs) s.scripts s.schedule)
      ∙ fed_settle (on_schedule (all_added s.scripts (length s.scripts.programs)) s)

  -- ---- the end of a body

  -- the same task is found at the end of its body, unless that is the one that grows
  pub fed_at_end : (s : State) → at_end s ≢ Some u → at_end (fed u command s) ≡ at_end s
  unfolding at_end next_softint
  fed_at_end s apart = by_test s.stopped (λ here. apart here)
    where
      by_running : (running : Option ℕ) → without_call running s.scripts ≢ Some u
          → without_call running (fed_to u command s.scripts) ≡ without_call running s.scripts
      by_running None away = refl
      by_running (Some t) away =
          ap (λ call. if_no_call call t)
          (fed_next u command t s.scripts (λ same none. away (ap (λ call. if_no_call call t) none ∙ ap Some same)))

      by_softint : (softint : Option ℕ) → without_call_or_softint softint s ≢ Some u
          → without_call_or_softint softint (fed u command s) ≡ without_call_or_softint softint s
      by_softint None away = by_running s.schedule.running away
      by_softint (Some i) away = refl

      by_test : (test : Bool) → (if test then None else without_call_or_softint (next_softint s) s) ≢ Some u
          → (if test then None else without_call_or_softint (next_softint s) (fed u command s))
          ≡ (if test then None else without_call_or_softint (next_softint s) s)
      by_test true away = refl
      by_test false away = by_softint (next_softint s) away
