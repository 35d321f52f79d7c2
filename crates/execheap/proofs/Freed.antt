-- The objects of a memory in which all was freed: no object lives, and the messages of the requests stay.
use Rattle.std.proofs.Common.{◌≡◌, ℕ, ◌+◌, ◌-◌, ◌<◌, ◌≤◌, List, [], Bool, map, length, drop, replicate, refl, ap, sym, ◌∙◌, subst, arith, None, Option, is_some, IsTrue, get_or-drop, length-append, length-drop}
use Rattle.std.proofs.lemmas.List.{get_or-append_right, get_or_append_left, length-map, length-replicate}
use Rattle.execlist.specs.{Lists.blank, Pool.Pooled, Pool.all_free, Pool.free_below, Pool.slot}
use Rattle.execlist.proofs.Pools.{slot_new}
use Rattle.msgport.specs.{declared.message.Message.Message, Ports.all_freed, Ports.is_message, Ports.no_ports}
use Rattle.sigsem.specs.Semaphores.{no_sems}
use Rattle.timerdev.specs.Timing.{new_timer}
use Rattle.execheap.specs.{declared.tag.Kind.Kind, Table.pool_of, Numbered.IsKept, Numbered.IsSoundHeap, Numbered.Numbered, Numbered.Shape, Numbered.shape, Numbered.shown_library, Numbered.shown_memory}
use Rattle.execheap.specs.declared.tag.Kind.TheVariants as variant
use Rattle.execheap.specs.Table as table
use Rattle.execheap.proofs.{Empty.kept_with, Empty.unused_with, Empty.with_shown, Reserved.IsReserved}

-- each number from the pool on is that of a request's message
pub message_there : (s : Numbered) → IsKept s → (m : ℕ) → s.table.pool ≤ m → m < length s.ports.messages.slots → IsTrue (is_message m s.ports)
message_there s kept m from to = subst (λ n. IsTrue (is_message n s.ports)) (let same : s.table.pool + (m - s.table.pool) ≡ m = omega (arith, from) in same)
    (kept.in_time.made (m - s.table.pool) (omega (arith, from, to, kept.in_time.each_message)))

-- the messages that stay
pub reserved_below : (pool : ℕ) (q : Pooled Message) → length q.slots ≡ pool + pool → ((m : ℕ) → pool ≤ m → m < length q.slots → IsTrue (is_some (slot q.slots m)))
    → IsReserved (pool + pool) pool (free_below pool q)
reserved_below pool q size there = record {
  free = refl;
  size = length-append (empty pool) (drop pool q.slots) ∙ (λ i. length-replicate {A = Option Message} pool None i + length-drop pool q.slots i)
      ∙ (let same : pool + (length q.slots - pool) ≡ pool + pool = omega (arith, size) in same);
  empty = λ n small. get_or_append_left (empty pool) (drop pool q.slots) None n (omega (arith, small, length-replicate {A = Option Message} pool None)) ∙ slot_new Message pool n;
  there = λ n from to. ap is_some (get_or-append_right (empty pool) (drop pool q.slots) pool n None (length-replicate {A = Option Message} pool None) from
      ∙ get_or-drop pool q.slots (n - pool) None
      ∙ ap (λ m. slot q.slots m) (let same : pool + (n - pool) ≡ n = omega (arith, from) in same)) ∙ there n from (omega (arith, to, size));
} where
  empty : ℕ → List (Option Message)
  empty k = replicate k None

-- all is freed, as each part reports it
abbrev pub freed : Bool → ℕ → Numbered → Numbered
freed asks tick_micros s = record {
  table = table.unused s.table.memory.regions s.table.pool s.table.libs.known asks;
  sequences = replicate (length s.sequences) [];
  homes = replicate (length s.homes) None;
  keys = replicate (length s.homes) blank;
  ports = all_freed s.table.pool s.ports;
  sems = no_sems (length s.sems.sems.slots) (length s.sems.places);
  requests = all_free (length s.requests.slots);
  timing = record { room = s.timing.room; timer = new_timer tick_micros };
  tasks = s.tasks;
}

-- as many numbers
as_many : {A B : Type 0} (p : Pooled A) (q : Pooled B) → shape p ≡ shape q → length p.slots ≡ length q.slots
as_many p q same = sym (length-map p.slots is_some) ∙ ap (λ (of : Shape). length of.held) same ∙ length-map q.slots is_some

module _ (s : Numbered) (sound : IsSoundHeap s) (asks : Bool) (tick_micros : ℕ) where
  of_pool : (kind : Kind) → length (pool_of kind s.table).slots ≡ s.table.pool
  of_pool kind = sound.table.each kind

  lists : length s.sequences ≡ s.table.pool
  lists = sound.kept.each_list ∙ of_pool variant.List

  nodes : length s.homes ≡ s.table.pool
  nodes = sound.kept.each_node ∙ of_pool variant.Node

  ports : length s.ports.ports.slots ≡ s.table.pool
  ports = as_many s.ports.ports (pool_of variant.Port s.table) (sound.kept.in_step variant.Port) ∙ of_pool variant.Port

  sems : length s.sems.sems.slots ≡ s.table.pool
  sems = as_many s.sems.sems (pool_of variant.Semaphore s.table) (sound.kept.in_step variant.Semaphore) ∙ of_pool variant.Semaphore

  requests : length s.requests.slots ≡ s.table.pool
  requests = as_many s.requests (pool_of variant.Request s.table) (sound.kept.in_step variant.Request) ∙ of_pool variant.Request

  freed_is : freed asks tick_micros s ≡ unused_with (free_below s.table.pool s.ports.messages) s.table.memory.regions s.table.pool s.tasks s.table.libs.known asks tick_micros
  freed_is = λ i. record {
    table = table.unused s.table.memory.regions s.table.pool s.table.libs.known asks;
    sequences = replicate (lists i) [];
    homes = replicate (nodes i) None;
    keys = replicate (nodes i) blank;
    ports = record (no_ports (ports i) (sound.kept.in_time.each_message i)) { messages = free_below s.table.pool s.ports.messages };
    sems = no_sems (sems i) (sound.kept.apt.each_task i);
    requests = all_free (requests i);
    timing = record { room = sound.kept.in_time.each_time i; timer = new_timer tick_micros };
    tasks = s.tasks;
  }

  stay : IsReserved (s.table.pool + s.table.pool) s.table.pool (free_below s.table.pool s.ports.messages)
  stay = reserved_below s.table.pool s.ports.messages sound.kept.in_time.each_message (message_there s sound.kept)

  -- it is kept
  pub freed_kept : (new : Numbered) → new ≡ freed asks tick_micros s → IsKept new
  freed_kept new is = subst IsKept (sym (is ∙ freed_is))
      (kept_with (free_below s.table.pool s.ports.messages) s.table.memory.regions s.table.pool s.tasks s.table.libs.known asks tick_micros stay)

  -- it is shown as a memory that was not used
  pub freed_shown : (new : Numbered) → new ≡ freed asks tick_micros s → shown_memory new
      ≡ record {
        regions = s.table.memory.regions;
        libraries = map shown_library s.table.libs.known;
        asks = asks;
        pool = s.table.pool;
        tasks = s.tasks;
        heap = [];
        public = [];
        timer = new_timer tick_micros;
      }
  freed_shown new is = ap shown_memory (is ∙ freed_is)
      ∙ with_shown (free_below s.table.pool s.ports.messages) s.table.memory.regions s.table.pool s.tasks s.table.libs.known asks tick_micros
