-- In version 1 of the rules each word that takes memory takes it as it is.
use Rattle.std.proofs.Common.{◌≡◌, ℕ, Bool, false, [], Option, None, Some, refl, ap, ◌∙◌, negsuc, if◌then◌else◌, nat_eq, unwrap_or, ◌++◌}
use Rattle.std.specs.Int.{cast_signed, w32}
use Rattle.signals.specs.Signals.{grant}
use Rattle.scheduler.specs.Schedule.{signals_of}
use Rattle.script.specs.declared.alert.Alert.{Alert}
use Rattle.execmodel.specs.State.{Call, Object, ListHead, Memory, State, Outcome, andthen, on_memory}
use Rattle.execmodel.specs.{Calls.argument, Calls.name_argument, Calls.answered, Calls.unless, Deeds.performs, Deeds.allots, LowMemory.after_asking, LowMemory.after_asking_for_object, Libraries.library_to_open, Libraries.base_opened, Libraries.library_opened, Libraries.opening, Libraries.opened, Libraries.does_open_library, Lists.is_list, Lists.is_node, Lists.list_size, Lists.node_size, Lists.new_node_alert, Lists.list_deed, Memory.alloc_alert, Memory.allocates_block, Memory.makes_object, Memory.memory_deed, Memory.place_for, Memory.placed, Objects.place_for_object, Ports.is_message, Ports.message_size, Ports.port_alert, Ports.reply_port_alert, Ports.makes_port, Ports.does_create_msg_port, Ports.does_new_msg, Semaphores.is_semaphore, Semaphores.semaphore_size, Semaphores.does_new_sem, Requests.is_request, Requests.request_size, Requests.does_create_io_request, Requests.finishes_set, Step.run, VersionOne.UnaskedWordsTakeMemoryAsItIs, VersionOne.VersionOneTakesMemoryAsItIs}
use Rattle.execmodel.proofs.Versions.{not_asked, not_asked_for_object, not_asked_for_port, not_asked_to_open, libraries_are_asked_in_version_two}

same_unless : (alert : Option Alert) (t : ℕ) (call : Call) (f g : State → Outcome) (s : State) → f s ≡ g s
    → unless alert t call f s ≡ unless alert t call g s
same_unless None t call f g s e = e
same_unless (Some code) t call f g s e = refl

-- a block is placed among the blocks alone
blocks_alone : (size : ℕ) (object : Object) (place : Option ℕ) (memory : Memory)
    → record memory { heap = (placed size object place memory).heap } ≡ placed size object place memory
blocks_alone size object None memory = refl
blocks_alone size object (Some address) memory = refl

-- a value that takes memory takes it as it is, if nothing is asked before
unasked_deed : (alert : Option Alert) (asked : Memory → Memory) (place : Memory → Option ℕ) (size : ℕ) (object : Object) (t : ℕ) (call : Call)
    (s : State) → asked s.memory ≡ s.memory
    → performs (allots alert asked place size object) t call s
    ≡ unless alert t call (λ s. allocates_block t call size object (place s.memory) s) s
unfolding performs
unasked_deed alert asked place size object t call s e =
    same_unless alert t call _ _ s
    (ap (λ (m : Memory). answered t call (unwrap_or (place m) 0)
    (record s { memory = record s.memory { heap = (placed size object (place m) m).heap } })) e
    ∙ ap (λ (m : Memory). answered t call (unwrap_or (place s.memory) 0) (record s { memory = m }))
    (blocks_alone size object (place s.memory) s.memory))

-- an object is made in the memory as it is
unasked_object : (t : ℕ) (call : Call) (kind : Object → Bool) (size : ℕ) (object : Object) (s : State) → s.memory.asks ≡ false
    → makes_object t call kind size object (on_memory (after_asking_for_object kind size) s) ≡ makes_object t call kind size object s
unasked_object t call kind size object s e =
    ap (λ (m : Memory). makes_object t call kind size object (record s { memory = m })) (not_asked_for_object kind size s.memory e)

-- two actions do the same before a third
same_before : (first other next : State → Outcome) (s : State) → first s ≡ other s → andthen first next s ≡ andthen other next s
unfolding andthen
same_before first other next s e =
    ap (λ (a : Outcome). record {
      state = (next a.state).state;
      lines = a.lines ++ (next a.state).lines;
      marks = a.marks ++ (next a.state).marks;
    }) e

pub unasked_words_take_memory_as_it_is : UnaskedWordsTakeMemoryAsItIs
unfolding does_create_msg_port does_new_msg does_new_sem does_create_io_request does_open_library opening opened memory_deed list_deed
unasked_words_take_memory_as_it_is t call s e =
    let bit = grant (negsuc 0) (signals_of s.schedule t) in
    let found = library_to_open (unwrap_or (name_argument 0 call) []) (argument 1 call) s.memory in
    record {
      alloc_mem = unasked_deed (alloc_alert (argument 1 call)) (after_asking (argument 0 call) (argument 1 call))
          (place_for (argument 0 call) (argument 1 call)) (argument 0 call) _ t call s (not_asked (argument 0 call) (argument 1 call) s.memory e);
      new_list = unasked_deed None (after_asking_for_object is_list list_size) (place_for_object is_list list_size) list_size (ListHead []) t call s
          (not_asked_for_object is_list list_size s.memory e);
      new_node = unasked_deed (new_node_alert (cast_signed w32 (argument 0 call))) (after_asking_for_object is_node node_size)
          (place_for_object is_node node_size) node_size _ t call s (not_asked_for_object is_node node_size s.memory e);
      create_msg_port = ap (λ (m : Memory). makes_port t call bit (record s { memory = m })) (not_asked_for_port bit s.memory e);
      new_msg = same_unless (reply_port_alert (argument 0 call) s.memory.heap) t call _ _ s (unasked_object t call is_message message_size _ s e);
      new_sem = unasked_object t call is_semaphore semaphore_size _ s e;
      create_io_request =
          same_before _ _ finishes_set s
          (ap (λ (o : Outcome). if nat_eq (argument 0 call) 0 then answered t call 0 s else o)
          (same_unless (port_alert (argument 0 call) s.memory.heap) t call _ _ s (unasked_object t call is_request request_size _ s e)));
      open_library =
          ap (λ (m : Memory). answered t call (unwrap_or (base_opened found m) 0) (record s { memory = library_opened found m }))
          (not_asked_to_open found s.memory e);
    }

pub version_one_takes_memory_as_it_is : VersionOneTakesMemoryAsItIs
version_one_takes_memory_as_it_is machine list is one t call =
    unasked_words_take_memory_as_it_is t call (run machine list).state
    (libraries_are_asked_in_version_two machine list is ∙ ap (λ version. nat_eq version 2) one)
