-- The memory of a machine at first: no object lives.
use Rattle.std.proofs.Common.{◌≡◌, ℕ, ◌+◌, ◌-◌, List, [], Bool, map, true, false, refl, ap, sym, ◌∙◌, subst, arith, None, Option, is_some, unwrap_or, ◌&&◌}
use Rattle.std.proofs.lemmas.List.{length-replicate}
use Rattle.execlib.specs.Libraries.{Description}
use Rattle.memlist.specs.declared.region.Region.{Region}
use Rattle.execlist.proofs.Pools.{slot_new}
use Rattle.execlist.specs.Pool.{Pooled, all_free}
use Rattle.iorequest.specs.{declared.request.Request.Request, Request.idle_request, Request.is_under_way}
use Rattle.sigsem.specs.declared.semaphore.Sem.{Sem}
use Rattle.msgport.specs.{declared.message.Message.Message, Ports.no_ports, Port.Port}
use Rattle.timerdev.specs.Timing.{new_timer}
use Rattle.execheap.specs.Numbered.{Fits, IsInTime, IsKept, Numbered, is_way_at, own_shape, shown_heap, shown_library, shown_memory}
use Rattle.execheap.specs.{declared.tag.Kind.Kind, Table.pool_of, Changes.reserved, Changes.unused}
use Rattle.execheap.specs.declared.tag.Kind.TheVariants as variant
use Rattle.execheap.specs.Table as table
use Rattle.execheap.proofs.{Reserved.IsReserved, Reserved.all_reserved, Reserved.front_new, Reserved.reserved_beside, Stepping.shape_new}

-- the messages of the requests at first
made_unused : (pool : ℕ) → IsReserved (pool + pool) pool (reserved pool (no_ports pool (pool + pool))).messages
made_unused pool = subst (λ k. IsReserved (pool + pool) k (reserved pool (no_ports pool (pool + pool))).messages)
    (let same : pool + pool - pool ≡ pool = omega arith in same) (all_reserved pool pool (pool + pool) (omega arith))

-- all else of the ports at first
ports_unused : (pool : ℕ) → reserved pool (no_ports pool (pool + pool))
    ≡ record (no_ports pool (pool + pool)) { messages = (reserved pool (no_ports pool (pool + pool))).messages }
ports_unused pool = reserved_beside pool (no_ports pool (pool + pool))

-- no object lives, and these are the messages
abbrev pub unused_with : Pooled Message → List Region → (pool tasks : ℕ) → List Description → Bool → ℕ → Numbered
unused_with messages regions pool tasks known asks tick_micros = record (unused regions pool tasks known asks tick_micros) {
  ports = record (no_ports pool (pool + pool)) { messages = messages };
}

none_way : (pool r : ℕ) → is_way_at r (all_free pool) ≡ false
none_way pool r = ap (λ o. is_some o && is_under_way (unwrap_or o (idle_request 0))) (slot_new Request pool r)

module _ (messages : Pooled Message) (regions : List Region) (pool tasks : ℕ) (known : List Description) (asks : Bool) (tick_micros : ℕ) where
  in_time_with : IsReserved (pool + pool) pool messages → IsInTime (unused_with messages regions pool tasks known asks tick_micros)
  in_time_with made = record {
    each_message = made.size;
    each_time = refl;
    made = λ r small. made.there (pool + r) (omega arith) (omega (arith, small));
    held = λ r. sym (none_way pool r);
    none_held = λ m small. refl;
    waits = λ r. sym (none_way pool r);
    live = λ r p there. (let bad : false ≡ true = ap is_some (sym (slot_new ℕ (pool + pool) (pool + r)) ∙ there) in cc);
    at_reply_port = λ r p there. (let bad : false ≡ true = ap is_some (sym (slot_new ℕ (pool + pool) (pool + r)) ∙ there) in cc);
    early = omega arith;
    near = omega arith;
  }

  in_step_with : IsReserved (pool + pool) pool messages → (k : Kind) → Fits (own_shape k (unused_with messages regions pool tasks known asks tick_micros)) (pool_of k (table.unused regions pool known asks))
  in_step_with made variant.Port = shape_new Port pool
  in_step_with made variant.Message = front_new pool messages made
  in_step_with made variant.Semaphore = shape_new Sem pool
  in_step_with made variant.Request = shape_new Request pool
  in_step_with made variant.List = tt
  in_step_with made variant.Node = tt

  pub kept_with : IsReserved (pool + pool) pool messages → IsKept (unused_with messages regions pool tasks known asks tick_micros)
  kept_with made = record {
    live_nodes = λ n linked. (let bad : false ≡ true = ap is_some (sym (slot_new ℕ pool n)) ∙ linked in cc);
    live_lists = λ n h linked. (let bad : false ≡ true = ap is_some (sym (slot_new ℕ pool n) ∙ linked) in cc);
    each_list = length-replicate pool [] ∙ sym (length-replicate {A = Option ℕ} pool None);
    each_node = refl;
    in_step = in_step_with made;
    apt = record {
      own_signals = λ p lives. (let bad : false ≡ true = ap is_some (sym (slot_new Port pool p)) ∙ lives in cc);
      each_task = length-replicate {A = Option ℕ} tasks None;
    };
    in_time = in_time_with made;
  }

  pub with_shown : shown_memory (unused_with messages regions pool tasks known asks tick_micros)
      ≡ record {
        regions = regions;
        libraries = map shown_library known;
        asks = asks;
        pool = pool;
        tasks = tasks;
        heap = [];
        public = [];
        timer = new_timer tick_micros;
      }
  unfolding shown_heap
  with_shown = refl

-- at first the messages are those of the requests
unused_is : (regions : List Region) (pool tasks : ℕ) (known : List Description) (asks : Bool) (tick_micros : ℕ) → unused regions pool tasks known asks tick_micros
    ≡ unused_with (reserved pool (no_ports pool (pool + pool))).messages regions pool tasks known asks tick_micros
unused_is regions pool tasks known asks tick_micros = λ i. record (unused regions pool tasks known asks tick_micros) { ports = ports_unused pool i }

pub kept_unused : (regions : List Region) (pool tasks : ℕ) (known : List Description) (asks : Bool) (tick_micros : ℕ) → IsKept (unused regions pool tasks known asks tick_micros)
kept_unused regions pool tasks known asks tick_micros =
    let messages = (reserved pool (no_ports pool (pool + pool))).messages in
    subst IsKept (sym (unused_is regions pool tasks known asks tick_micros)) (kept_with messages regions pool tasks known asks tick_micros (made_unused pool))

pub unused_shown : (regions : List Region) (pool tasks : ℕ) (known : List Description) (asks : Bool) (tick_micros : ℕ) → shown_memory (unused regions pool tasks known asks tick_micros)
    ≡ record {
      regions = regions;
      libraries = map shown_library known;
      asks = asks;
      pool = pool;
      tasks = tasks;
      heap = [];
      public = [];
      timer = new_timer tick_micros;
    }
unused_shown regions pool tasks known asks tick_micros =
    let messages = (reserved pool (no_ports pool (pool + pool))).messages in
    ap shown_memory (unused_is regions pool tasks known asks tick_micros) ∙ with_shown messages regions pool tasks known asks tick_micros
