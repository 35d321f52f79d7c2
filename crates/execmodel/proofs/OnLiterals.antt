-- What an answer unfolds to compute a run on literals.
use Rattle.std.specs.Prelude.{⊤}
use Rattle.execmodel.specs.Interrupts.{by_choice, chain_of, interrupts, runs_chain, runs_server, runs_softint, serves, servings}
use Rattle.execmodel.specs.Step.{step_action, acts, all_added, does, ends, event, events, request, run, settle, starts, step, steps, switches, tick, ticks}
use Rattle.execmodel.specs.{Calls.alerted, Calls.answered, Calls.call_of, Calls.done, Calls.next_call, Calls.silent, Calls.waiting, Bodies.body_step, Bodies.does_in_body, Bodies.runs_body, Causing.does_cause, Pending.causes, Pending.next_softint, Pending.next_source, Deeds.performs, Lists.list_rules, Libraries.library_rules, LowMemory.after_asking, LowMemory.after_asking_for_object, LowMemory.gives_way, Memory.memory_deed, Nesting.nesting_rules, Objects.place_for_object, Plain.plain_rules, Ports.port_rules, Requests.request_rules, Semaphores.semaphore_rules, Signals.signal_rules, State.andthen, State.booted, Tasks.task_rules}
use Rattle.scheduler.specs.Schedule.{allocates_signal, begins, found, frees_signal, leaves, task_removed, sets_signals, takes_signals, quantum_ticked, waits_at_semaphore, waits_for}
use Rattle.scheduler.specs.Dispatch.{added, arrives, reprioritized, rescheduled, signalled, switch_of}
use Rattle.memlist.specs.{Blocks.gaps, Fit.avail, Fit.fit}
use Rattle.signals.specs.Signals.{highest_free}
use Rattle.timerdev.specs.Timing.{due_next, next_of, until_next}

unfoldable pub runs_on_literals : ⊤
unfolding step_action acts added after_asking after_asking_for_object alerted all_added allocates_signal andthen answered arrives avail begins body_step booted by_choice call_of causes chain_of does does_cause does_in_body done due_next ends event events fit found frees_signal gaps gives_way highest_free interrupts leaves library_rules list_rules memory_deed nesting_rules next_call next_of next_softint next_source performs place_for_object plain_rules port_rules task_removed reprioritized request request_rules rescheduled run runs_body runs_chain runs_server runs_softint semaphore_rules serves servings sets_signals settle signal_rules signalled silent starts step steps switch_of switches takes_signals task_rules tick quantum_ticked ticks until_next waiting waits_at_semaphore waits_for
runs_on_literals = tt
