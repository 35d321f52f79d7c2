-- A schedule to which a task is joined, and that it is as sound as it was.
use Rattle.std.proofs.Common.{◌≡◌, ℕ, zero, suc, ℤ, List, [], ◌∷◌, ◌++◌, Option, length, slice_index_or, refl, sym, ap, ◌∙◌}
use Rattle.taskq.specs.{Tasks.Tasks, Tasks.state_at, declared.TaskState.TaskState}
use Rattle.taskq.specs.declared.TaskState.TheVariants.{Absent}
use Rattle.signals.specs.Signals.{SignalSets, initial_sets}
use Rattle.forbid.specs.Nesting.{Nesting, initial_nesting}
use Rattle.scheduler.specs.{Joining.joined_by, Schedule.Schedule, Sound.IsSoundSchedule, Sound.is_running}

one_longer : {A : Type 0} (x : A) (xs : List A) → length (xs ++ x ∷ []) ≡ suc (length xs)
one_longer x [] = refl
one_longer x (y ∷ xs) = ap suc (one_longer x xs)

-- what is read is the same, if the new one is what is read past the end
get_same : {A : Type 0} (t : ℕ) (d : A) (xs : List A) → slice_index_or (xs ++ d ∷ []) t d ≡ slice_index_or xs t d
get_same zero d [] = refl
get_same (suc t) d [] = refl
get_same zero d (y ∷ xs) = refl
get_same (suc t) d (y ∷ xs) = get_same t d xs

-- the parts with one more task are those of the schedule with one more task
pub joined : (pri : ℤ) (name : List ℕ) (y : Schedule) (queue : Tasks) (signals : List SignalSets) (nestings : List Nesting)
    → queue.ready ≡ y.queue.ready → queue.states ≡ y.queue.states ++ Absent ∷ [] → queue.pris ≡ y.queue.pris ++ pri ∷ []
    → queue.names ≡ y.queue.names ++ name ∷ [] → signals ≡ y.signals ++ initial_sets ∷ [] → nestings ≡ y.nestings ++ initial_nesting ∷ []
    → record y { queue = queue; signals = signals; nestings = nestings } ≡ joined_by pri name y
joined pri name y queue signals nestings ready states pris names sets nests = λ i. record y {
  queue = record { ready = ready i; states = states i; pris = pris i; names = names i };
  signals = sets i;
  nestings = nests i;
}

pub joined_sound : (old states : List TaskState) (running : Option ℕ) (signals_before signals : List SignalSets) (nestings_before nestings : List Nesting)
    → states ≡ old ++ Absent ∷ [] → signals ≡ signals_before ++ initial_sets ∷ [] → nestings ≡ nestings_before ++ initial_nesting ∷ []
    → IsSoundSchedule old running signals_before nestings_before → IsSoundSchedule states running signals nestings
joined_sound old states running signals_before signals nestings_before nestings more sets nests sound =
    let longer = sym (ap length more ∙ one_longer Absent old) in
    record {
      signals_of_each = ap length sets ∙ one_longer initial_sets signals_before ∙ ap suc sound.signals_of_each ∙ longer;
      nestings_of_each = ap length nests ∙ one_longer initial_nesting nestings_before ∙ ap suc sound.nestings_of_each ∙ longer;
      one_runs = λ t. ap (λ (xs : List TaskState). is_running (state_at xs t)) more ∙ ap is_running (get_same t Absent old) ∙ sound.one_runs t;
    }
