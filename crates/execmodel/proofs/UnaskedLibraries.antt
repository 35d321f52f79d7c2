-- Where libraries are not asked, a loaded library changes by the calls on it alone.
use Rattle.std.proofs.Common.{◌⊎◌, inl, inr, ◌≡◌, ℕ, ◌+◌, ◌-◌, Bool, true, false, [], List, Option, None, Some, refl, sym, ap, ◌∙◌, subst, ◌≢◌, ◌&&◌, if◌then◌else◌, nat_eq, unwrap_or}
use Rattle.memlist.specs.{declared.region.Region.Region, Memory.IsWellFormed}
use Rattle.memlist.proofs.Answered.{cases_eq}
use Rattle.script.specs.declared.alert.Alert.{Alert}
use Rattle.script.specs.declared.word.Word.{Word}
use Rattle.script.specs.declared.word.Word.TheVariants as group
use Rattle.script.specs.declared.word.libraries.LibraryWord.{LibraryWord}
use Rattle.script.specs.declared.word.libraries.LibraryWord.TheVariants as libraries
use Rattle.execlib.specs.Libraries.{public_memory}
use Rattle.execmodel.specs.State.{Call, Library, Heap, Memory, State, Outcome, quiet, andthen, on_heap}
use Rattle.execmodel.specs.Libraries.{is_library_at, count_of, is_delayed, with_library, after_expunge, base_of, library_at, library_to_open, base_opened, base_or_place, entered_or_loaded, library_opened, opening, opened, ready_to_open, closed, close_alert, library_alert, does_libraries, does_open_library, does_close_library, does_rem_library, does_lib_open_cnt}
use Rattle.execmodel.specs.{Calls.argument, Calls.name_argument, Calls.answered, Calls.alerted, Calls.done, Calls.unless, Calls.next_call, Pending.next_softint, Places.block_at, Places.extents, Places.freed, Places.place_for, Places.placed, Step.does, Step.does_word, Step.ends, Step.settle, Step.call_step, Step.task_step, Step.softint_or_task_step, Step.step_action, Step.acts, Step.step, Step.tick, Step.run, Laws.Action, Laws.OneStep, Laws.OneTick, Laws.OneRequest, Laws.outcome_of, Laws.IsToCall}
use Rattle.execmodel.specs.VersionOne.{StaysCounted, ChangesByItsCall, opens, closes, removes, goes_by_removal, goes_by_last_close, UnaskedLibrariesStay}
use Rattle.execmodel.proofs.BlocksAfter.{is_of_libraries}
use Rattle.execmodel.proofs.Libraries.{Meets, untouched, taken, recounted_at, expunged_at, moves_meet, Kept, kept, further, same_count, same_mark, counted, counted_open, counted_mark, still_library, block_elsewhere, block_rid_there, block_placed_there, fresh_there, asked_keep, taken_keep}
use Rattle.execmodel.proofs.{Heaps.rid, Heaps.true_is_not_false, Heaps.both_true, WithoutFinishing.does_itself, WithoutFinishing.ends_followed, WithoutFinishing.call_works, BlocksAfter.MayExpunge, Posts.IsTidy, Stretches.of_softint, Stretches.of_set, Stretches.of_settle, Stretches.of_request, Stretches.ticked, Taking.Takes, Taking.nothing, Taking.places, Taking.recounts, Taking.yields, Taking.number_is, NoStraysLaw.tidy_in_every_state, Versions.not_asked_to_open, RequestsAfter.Works, RequestsAfter.by_moves, RequestsAfter.by_asking, RequestsAfter.by_taking}

-- ---- words that are not on libraries

-- neither of two tests holds
neither : {A : Type 0} (b c : Bool) → b ≡ false → c ≡ false → (b ≡ true) ⊎ (c ≡ true) → A
neither b c one other (inl is) = true_is_not_false (sym is ∙ one)
neither b c one other (inr is) = true_is_not_false (sym is ∙ other)

takes_same : (asks may_count : Bool) (regions : List Region) (old new : Heap) → Takes asks may_count regions old new → asks ≡ false
    → may_count ≡ false → IsWellFormed regions (extents old) → (base : ℕ) → is_library_at base old ≡ true
    → block_at base new ≡ block_at base old
takes_same asks may_count regions old new nothing unasked none formed base is = refl
takes_same asks may_count regions old new (places size reqs address object fresh fits) unasked none formed base is =
    block_placed_there base address _ old (fresh_there regions size reqs address base old formed fits is)
takes_same asks may_count regions old new (recounts other count delayed there more may rest) unasked none formed base is =
    neither asks may_count unasked none may
takes_same asks may_count regions old new (yields other there closed_now may rest) unasked none formed base is = true_is_not_false (sym may ∙ unasked)

-- no call on anything else expunges a library
expunges_none : {A : Type 0} (call : Call) (base : ℕ) (heap : Heap) → is_of_libraries call.word ≡ false → MayExpunge call base heap → A
expunges_none call base heap none (inl removing) = true_is_not_false (sym (ap is_of_libraries removing.word) ∙ none)
expunges_none call base heap none (inr last) = true_is_not_false (sym (ap is_of_libraries last.word) ∙ none)

met_same : (asks : Bool) (regions : List Region) (call : Call) (base : ℕ) (old new : Heap) → Meets asks regions call base old new → asks ≡ false
    → is_of_libraries call.word ≡ false → IsWellFormed regions (extents old) → is_library_at base old ≡ true
    → block_at base new ≡ block_at base old
met_same asks regions call base old new (untouched e) unasked none formed is = e
met_same asks regions call base old new (taken how) unasked none formed is =
    takes_same asks (is_of_libraries call.word) regions old new how unasked none formed base is
met_same asks regions call base old new (recounted_at other count delayed there may e) unasked none formed is =
    true_is_not_false (sym may ∙ none)
met_same asks regions call base old new (expunged_at other may e) unasked none formed is = expunges_none call other old none may

-- a word is on libraries, or it is another
word_of_libraries : (word : Word) → is_of_libraries word ≡ true → (named : LibraryWord) × (word ≡ group.Libraries named)
word_of_libraries (group.Libraries named) is = (named, refl)
word_of_libraries _ is = true_is_not_false (sym is)

-- ---- over every action

-- a library is as it was in that heap, or is changed by a call on it
abbrev Stays : ℕ → State → Heap → Type 0
Stays base s heap = (block_at base heap ≡ block_at base s.memory.heap) ⊎ ChangesByItsCall base s heap

-- it is counted so further, if its block stays
counted_further : (base count : ℕ) (delayed : Bool) (old mid new : Heap) → StaysCounted base count delayed old mid
    → (is_library_at base mid ≡ true → block_at base new ≡ block_at base mid) → StaysCounted base count delayed old new
counted_further base count delayed old mid new one same =
    let e = same one.stays.loaded in
    record {
      stays = further base old mid new one.stays same;
      count = same_count base mid new e ∙ one.count;
      mark = same_mark base mid new e ∙ one.mark;
    }

module _ (base : ℕ) (s : State) (tidy : IsTidy s) (is : is_library_at base s.memory.heap ≡ true) (unasked : s.memory.asks ≡ false) where
  abbrev heap : Heap
  heap = s.memory.heap

  changed_further : (mid new : Heap) → ChangesByItsCall base s mid → (is_library_at base mid ≡ true → block_at base new ≡ block_at base mid)
      → ChangesByItsCall base s new
  changed_further mid new (opens call how) same = opens call (counted_further base _ _ heap mid new how same)
  changed_further mid new (closes call how) same = closes call (counted_further base _ _ heap mid new how same)
  changed_further mid new (removes call how) same = removes call (counted_further base _ _ heap mid new how same)
  changed_further mid new (goes_by_removal call) same = goes_by_removal call
  changed_further mid new (goes_by_last_close call) same = goes_by_last_close call

  -- so it is after what leaves each library as it is
  stays_further : (mid new : Heap) → Stays base s mid → (is_library_at base mid ≡ true → block_at base new ≡ block_at base mid) → Stays base s new
  stays_further mid new (inl e) same = inl (same (still_library base heap mid is e) ∙ e)
  stays_further mid new (inr changes) same = inr (changed_further mid new changes same)

  -- the library at a base is counted so
  counted_so : (count : ℕ) (delayed : Bool) → StaysCounted base count delayed heap (with_library base count delayed heap)
  counted_so count delayed = record {
    stays = counted base count delayed heap is;
    count = counted_open base count delayed heap is;
    mark = counted_mark base count delayed heap is;
  }

  elsewhere : (other count : ℕ) (delayed : Bool) → base ≢ other → block_at base (with_library other count delayed heap) ≡ block_at base heap
  unfolding with_library
  elsewhere other count delayed apart = block_elsewhere base other _ heap apart

  -- ---- the words on libraries

  refused_stays : (alert : Option Alert) (t : ℕ) (call : Call) (effect : State → Outcome) → Stays base s (effect s).state.memory.heap
      → Stays base s (unless alert t call effect s).state.memory.heap
  unfolding alerted
  refused_stays None t call effect stays = stays
  refused_stays (Some code) t call effect stays = inl refl

  either_stays : (test : Bool) (o p : Outcome) → Stays base s o.state.memory.heap → Stays base s p.state.memory.heap
      → Stays base s (if test then o else p).state.memory.heap
  either_stays true o p one other = one
  either_stays false o p one other = other

  loaded_stays : (i : ℕ) (place : Option ℕ) → place_for (library_at i s.memory).size public_memory s.memory ≡ place
      → Stays base s (placed (library_at i s.memory).size (Library i 1 false) place s.memory).heap
  loaded_stays i None fits = inl refl
  loaded_stays i (Some address) fits =
      inl (block_placed_there base address _ heap
      (fresh_there s.memory.regions (library_at i s.memory).size public_memory address base heap tidy.formed fits is))

  module _ (t : ℕ) (call : Call) (to_call : IsToCall t call s) where
    abbrev wanted : Option ℕ
    wanted = library_to_open (unwrap_or (name_argument 0 call) []) (argument 1 call) s.memory

    module _ (word : call.word ≡ group.Libraries libraries.OpenLibrary) where
      finds : (i : ℕ) (at : Option ℕ) → wanted ≡ Some i → base_of i heap ≡ at
          → opening (unwrap_or (name_argument 0 call) []) (argument 1 call) s.memory ≡ base_or_place at i s.memory
      unfolding opening
      finds i at found there =
          ap (λ f. base_opened f (ready_to_open f s.memory)) found
          ∙ ap (base_opened (Some i)) (not_asked_to_open (Some i) s.memory unasked)
          ∙ ap (λ b. base_or_place b i s.memory) there

      entered_stays : (i : ℕ) (at : Option ℕ) → wanted ≡ Some i → base_of i heap ≡ at → Stays base s (entered_or_loaded at i s.memory).heap
      entered_stays i None found there = loaded_stays i (place_for (library_at i s.memory).size public_memory s.memory) refl
      entered_stays i (Some other) found there =
          cases_eq base other
          (λ same. inr (opens
          (record { t = t; call = call; calls = to_call; word = word; finds = finds i (Some other) found there ∙ ap (λ k. Some k) (sym same) })
          (subst (λ k. StaysCounted base (count_of base heap + 1) false heap (with_library k (count_of k heap + 1) false heap)) same
          (counted_so (count_of base heap + 1) false))))
          (λ apart. inl (elsewhere other _ false apart))

      opened_stays : (found : Option ℕ) → wanted ≡ found → Stays base s (library_opened found s.memory).heap
      opened_stays None e = inl refl
      opened_stays (Some i) e = entered_stays i (base_of i heap) e refl

      open_stays : Stays base s (does_open_library t call s).state.memory.heap
      unfolding does_open_library answered opened
      open_stays =
          subst (λ (m : Memory). Stays base s (library_opened wanted m).heap) (sym (not_asked_to_open wanted s.memory unasked))
          (opened_stays wanted refl)

    module _ (word : call.word ≡ group.Libraries libraries.CloseLibrary) where
      closed_stays : (other : ℕ) (test : Bool) → argument 0 call ≡ other → (nat_eq (count_of other heap) 1 && is_delayed other heap) ≡ test
          → Stays base s (if test then freed other s.memory
          else on_heap (with_library other (count_of other heap - 1) (is_delayed other heap)) s.memory).heap
      closed_stays other true names e =
          cases_eq base other
          (λ same. both_true (nat_eq (count_of other heap) 1) (is_delayed other heap) e
          (λ one delayed. inr (goes_by_last_close (record {
            t = t;
            call = call;
            calls = to_call;
            word = word;
            names = names ∙ sym same;
            once = ap (λ k. count_of k heap) same ∙ number_is (count_of other heap) 1 one;
            delayed = ap (λ k. is_delayed k heap) same ∙ delayed;
          }))))
          (λ apart. inl (block_rid_there base other heap apart))
      closed_stays other false names e =
          cases_eq base other
          (λ same. inr (closes (record { t = t; call = call; calls = to_call; word = word; names = names ∙ sym same })
          (subst (λ k. StaysCounted base (count_of base heap - 1) (is_delayed base heap) heap
          (with_library k (count_of k heap - 1) (is_delayed k heap) heap)) same
          (counted_so (count_of base heap - 1) (is_delayed base heap)))))
          (λ apart. inl (elsewhere other _ _ apart))

      close_stays : Stays base s (does_close_library t call s).state.memory.heap
      unfolding does_close_library done closed
      close_stays =
          either_stays (nat_eq (argument 0 call) 0) _ _ (inl refl)
          (refused_stays (close_alert (argument 0 call) heap) t call _ (closed_stays (argument 0 call) _ refl refl))

    module _ (word : call.word ≡ group.Libraries libraries.RemLibrary) where
      removed_stays : (other : ℕ) (test : Bool) → argument 0 call ≡ other → nat_eq (count_of other heap) 0 ≡ test
          → Stays base s (if test then freed other s.memory else on_heap (with_library other (count_of other heap) true) s.memory).heap
      removed_stays other true names e =
          cases_eq base other
          (λ same. inr (goes_by_removal (record {
            t = t;
            call = call;
            calls = to_call;
            word = word;
            names = names ∙ sym same;
            none = ap (λ k. count_of k heap) same ∙ number_is (count_of other heap) 0 e;
          })))
          (λ apart. inl (block_rid_there base other heap apart))
      removed_stays other false names e =
          cases_eq base other
          (λ same. inr (removes (record { t = t; call = call; calls = to_call; word = word; names = names ∙ sym same })
          (subst (λ k. StaysCounted base (count_of base heap) true heap (with_library k (count_of k heap) true heap)) same
          (counted_so (count_of base heap) true))))
          (λ apart. inl (elsewhere other _ true apart))

      rem_stays : Stays base s (does_rem_library t call s).state.memory.heap
      unfolding does_rem_library done after_expunge
      rem_stays = refused_stays (library_alert (argument 0 call) heap) t call _ (removed_stays (argument 0 call) _ refl refl)

    library_stays : (named : LibraryWord) → call.word ≡ group.Libraries named → Stays base s (does_libraries named t call s).state.memory.heap
    unfolding does_lib_open_cnt answered
    library_stays libraries.OpenLibrary word = open_stays word
    library_stays libraries.CloseLibrary word = close_stays word
    library_stays libraries.RemLibrary word = rem_stays word
    library_stays libraries.LibOpenCnt word = refused_stays (library_alert (argument 0 call) heap) t call _ (inl refl)

    -- ---- any word

    worked_same : (o : Outcome) → Works t call s o → is_of_libraries call.word ≡ false → block_at base o.state.memory.heap ≡ block_at base heap
    worked_same o (by_moves makes same) none =
        met_same s.memory.asks s.memory.regions call base heap o.state.memory.heap
        (moves_meet s.memory.asks s.memory.regions t call heap o.marks o.state.memory.heap makes.1 tidy.formed base is) unasked none tidy.formed is
    worked_same o (by_asking regions asks) none = asked_keep s o.marks o.state.memory.heap o.state.memory.timer.waiting asks base is
    worked_same o (by_taking port request regions same marks e lives) none =
        ap (λ h. block_at base h) e ∙ taken_keep port request heap (lives tidy) base is

    done_stays : (test : Bool) → is_of_libraries call.word ≡ test → Stays base s (does t call s).state.memory.heap
    unfolding does
    done_stays true of =
        let named = word_of_libraries call.word of in
        subst (λ w. Stays base s (does_word w t call s).state.memory.heap) (sym named.1) (library_stays named.0 named.1)
    done_stays false of =
        ends_followed (λ r. Stays base s r.memory.heap)
        (λ r there. stays_further r.memory.heap _ there (of_set (Kept base) (kept base) r)) t call s
        (inl (worked_same (does_itself t call s) (call_works t call s) of))

  called : (t : ℕ) (call : Option Call) → next_softint s ≡ None → s.schedule.running ≡ Some t → next_call t s.scripts ≡ call
      → Stays base s (call_step t call s).state.memory.heap
  unfolding ends
  called t None first runs calls = inl refl
  called t (Some call) first runs calls =
      done_stays t call (record { first = first; runs = runs; calls = calls }) (is_of_libraries call.word) refl

  tried : (running : Option ℕ) → next_softint s ≡ None → s.schedule.running ≡ running → Stays base s (task_step running s).state.memory.heap
  tried None first runs = inl refl
  tried (Some t) first runs = called t (next_call t s.scripts) first runs refl

  chosen : (found : Option ℕ) → next_softint s ≡ found → Stays base s (softint_or_task_step found s).state.memory.heap
  chosen None first = tried s.schedule.running first refl
  chosen (Some i) first = inl (of_softint (Kept base) (kept base) i s is)

  acted : (test : Bool) → Stays base s (if test then quiet s else step_action s).state.memory.heap
  unfolding step_action
  acted true = inl refl
  acted false = chosen (next_softint s) refl

  at_action : (action : Action)
      → (block_at base (outcome_of action s).state.memory.heap ≡ block_at base heap)
      ⊎ ((action ≡ OneStep) × ChangesByItsCall base s (outcome_of action s).state.memory.heap)
  unfolding step tick andthen acts
  at_action OneStep =
      elim (stays_further (acts s).state.memory.heap (settle (acts s).state).state.memory.heap (acted s.stopped) (of_settle (Kept base) (kept base) (acts s).state)) [
        | inl stays ↦ inl stays
        | inr changes ↦ inr (refl, changes)
      ]
  at_action OneTick = inl (ticked (Kept base) (kept base) (λ r there. refl) s is)
  at_action (OneRequest asks) = inl (of_request (Kept base) (kept base) asks s is)

pub unasked_libraries_stay : UnaskedLibrariesStay
unasked_libraries_stay base machine list action is unasked there =
    at_action base (run machine list).state (tidy_in_every_state machine list is) there unasked action
