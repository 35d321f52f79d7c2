-- One more task may wait at semaphores: what always holds stays, and the memory shows one more task.
use Rattle.std.proofs.Common.{◌≡◌, ℕ, suc, ◌+◌, List, [], ◌∷◌, ◌++◌, length, map, refl, ap, sym, ◌∙◌, subst, arith, None, Option, is_some, Result, Ok, Err, OnOk, OnErr}
use Rattle.std.proofs.Math.Path.{fun_ext}
use Rattle.std.proofs.lemmas.List.{length-map}
use Rattle.sigsem.specs.{NewTask.with_new_task, Semaphores.Semaphores}
use Rattle.execmodel.specs.State.{Object, Block, Memory}
use Rattle.execheap.specs.Numbered.{Numbered, Fits, IsKept, IsKnown, Shape, object_of, places, own_shape, shown_entry, shown_heap, shown_memory, shown_tagged}
use Rattle.execheap.specs.{declared.tag.Kind.Kind, declared.tag.Tagged.Tagged, NewTask.with_one_more_task, Tags.tagged, Table.pool_of}
use Rattle.execheap.specs.declared.tag.Kind.TheVariants as variant
use Rattle.execheap.specs.declared.tag.Tagged.TheVariants as tag
use Rattle.execheap.proofs.InTime.{in_time_beside}

one_longer : {A : Type 0} (x : A) (xs : List A) → length (xs ++ x ∷ []) ≡ suc (length xs)
one_longer x [] = refl
one_longer x (y ∷ xs) = ap suc (one_longer x xs)

pub kept_joined : {s : Numbered} → IsKept s → IsKept (with_one_more_task s)
kept_joined {s} kept = record {
  live_nodes = kept.live_nodes;
  live_lists = kept.live_lists;
  each_list = kept.each_list;
  each_node = kept.each_node;
  in_step = in_step;
  apt = record { own_signals = kept.apt.own_signals; each_task = one_longer None s.sems.places ∙ ap suc kept.apt.each_task };
  in_time = in_time_beside kept.in_time refl refl refl refl;
} where
  in_step : (k : Kind) → Fits (own_shape k (with_one_more_task s)) (pool_of k s.table)
  in_step variant.Port = kept.in_step variant.Port
  in_step variant.Message = kept.in_step variant.Message
  in_step variant.Semaphore = kept.in_step variant.Semaphore
  in_step variant.Request = kept.in_step variant.Request
  in_step _ = tt

-- what holds of the semaphores' parts holds of the same semaphores
pub kept_same : {s : Numbered} (q : Semaphores) → IsKept s → q ≡ s.sems → IsKept (record s { sems = q })
kept_same {s} q kept same = subst (λ (x : Semaphores). IsKept (record s { sems = x })) (sym same) kept

module _ (s : Numbered) where
  object_same : (k : Kind) (m : ℕ) → object_of k m (with_one_more_task s) ≡ object_of k m s
  object_same variant.Semaphore m = refl
  object_same _ m = refl

  shown_same : (x : Tagged) → shown_tagged (with_one_more_task s) x ≡ shown_tagged s x
  shown_same (tag.Object k m) = object_same k m
  shown_same _ = refl

  heap_same : shown_heap (with_one_more_task s) ≡ shown_heap s
  unfolding shown_heap
  heap_same =
      ap (λ (f : ℕ × (ℕ × ℕ) → ℕ × Block). map f s.table.memory.blocks)
      (fun_ext (λ (entry : ℕ × (ℕ × ℕ)). ap (λ (object : Object). (entry.0, record { size = entry.1.0; object = object })) (shown_same (tagged entry.1.1))))

  -- the memory has one more task, and all else is shown as before
  pub joined_shown : shown_memory (with_one_more_task s) ≡ record (shown_memory s) { tasks = suc s.tasks }
  joined_shown = λ i. record (shown_memory s) { heap = heap_same i; tasks = suc s.tasks }

-- each semaphore has a queue
pub each_queue : {s : Numbered} → IsKnown s → length s.sems.queues ≡ s.table.pool
each_queue {s} known =
    known.sems.each_queue ∙ sym (length-map s.sems.sems.slots is_some)
    ∙ ap (λ (shape : Shape). length shape.held) (known.sound.kept.in_step variant.Semaphore)
    ∙ length-map (places variant.Semaphore s) is_some ∙ known.sound.table.each variant.Semaphore

-- the objects with other semaphores, and one task more
pub added_objects : (s : Numbered) (q : Semaphores) → q ≡ with_new_task s.sems → record s { sems = q; tasks = s.tasks + 1 } ≡ with_one_more_task s
added_objects s q is = (λ i. record s { sems = is i; tasks = s.tasks + 1 }) ∙ ap (λ n. record s { sems = with_new_task s.sems; tasks = n }) (let more : s.tasks + 1 ≡ suc s.tasks = omega arith in more)

-- ---- what an answer says, whether memory was refused or not

module _ {X E : Type 0} (old new : Numbered) (memory : Memory) (is : shown_memory old ≡ memory) where
  pub memory_joined : (result : Result X E) → OnOk result (new ≡ with_one_more_task old) → OnOk result (shown_memory new ≡ record memory { tasks = suc memory.tasks })
  memory_joined (Ok x) next = ap shown_memory next ∙ joined_shown old ∙ ap (λ (m : Memory). record m { tasks = suc m.tasks }) is
  memory_joined (Err e) next = tt

  pub memory_kept : (result : Result X E) → OnErr result (new ≡ old) → OnErr result (shown_memory new ≡ memory)
  memory_kept (Ok x) same = tt
  memory_kept (Err e) same = ap shown_memory same ∙ is
