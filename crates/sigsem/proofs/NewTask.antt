-- Semaphores at which one more task may wait: what always holds stays.
use Rattle.std.proofs.Common.{◌≡◌, ℕ, zero, suc, List, [], ◌∷◌, ◌++◌, Option, None, slice_index_or, refl, sym, subst, ◌∙◌}
use Rattle.sigsem.specs.{NewTask.with_new_task, Semaphores.Semaphores, Semaphores.KeepsSemaphores}

-- what is read is the same, if the new one is what is read past the end
get_same : {A : Type 0} (t : ℕ) (d : A) (xs : List A) → slice_index_or (xs ++ d ∷ []) t d ≡ slice_index_or xs t d
get_same zero d [] = refl
get_same (suc t) d [] = refl
get_same zero d (y ∷ xs) = refl
get_same (suc t) d (y ∷ xs) = get_same t d xs

joined_keeps : {m : Semaphores} → KeepsSemaphores m → KeepsSemaphores (with_new_task m)
joined_keeps {m} keeps = record {
  each_queue = keeps.each_queue;
  counted = keeps.counted;
  owned = λ t s e. keeps.owned t s (sym (get_same t None m.places) ∙ e);
}

-- a record of the copied queues, and of one more place, is the one with room for one more task
pub joins : (m : Semaphores) (queues : List (List ℕ)) (places : List (Option ℕ)) → queues ≡ m.queues → places ≡ m.places ++ None ∷ []
    → with_new_task m ≡ record m { queues = queues; places = places }
joins m queues places same more = λ i. record m { queues = sym same i; places = sym more i }

-- the queues are copied, and the places have one more
pub copied_keeps : {m : Semaphores} (queues : List (List ℕ)) (places : List (Option ℕ)) → KeepsSemaphores m → queues ≡ m.queues
    → places ≡ m.places ++ None ∷ [] → KeepsSemaphores (record m { queues = queues; places = places })
copied_keeps {m} queues places keeps same more =
    subst (λ (x : Semaphores). KeepsSemaphores x) (joins m queues places same more) (joined_keeps keeps)
