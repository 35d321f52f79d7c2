-- What the calls on objects by number make of them.
use Rattle.std.specs.Prelude.{Bool, ℕ, zero, suc, ℤ, ◌+◌, ◌-◌, List, [], ◌∷◌, ◌++◌, drop, length, replicate, slice_set, take, Option, None, Some}
use Rattle.execlist.specs.{Order.enqueue, Order.first, Order.without_item, Lists.KeyData, Lists.blank, Lists.home, Lists.last, Lists.pri_of, Lists.put_after, Lists.sequence, Pool.all_free}
use Rattle.execlib.specs.Libraries.{Description}
use Rattle.memlist.specs.declared.region.Region.{Region}
use Rattle.msgport.specs.Ports.{MessagePorts, message_made, no_ports}
use Rattle.timerdev.specs.Timing.{new_timer}
use Rattle.sigsem.specs.Semaphores.{Semaphores, no_sems}
use Rattle.execheap.specs.Table as table
use Rattle.execheap.specs.Numbered.{Numbered}

-- that many messages are made, one for each request
abbrev pub reserved : ℕ → MessagePorts → MessagePorts
reserved zero ports = ports
reserved (suc n) ports = message_made 0 0 (reserved n ports)

-- no block, no object of a pool of that many of each kind, that many tasks that may wait at semaphores, none of these
-- libraries loaded, and a clock at 0 with ticks of that many microseconds
abbrev pub unused : List Region → (pool tasks : ℕ) → List Description → Bool → ℕ → Numbered
unused regions pool tasks known asks tick_micros = record {
  table = table.unused regions pool known asks;
  sequences = replicate pool [];
  homes = replicate pool None;
  keys = replicate pool blank;
  ports = reserved pool (no_ports pool (pool + pool));
  sems = no_sems pool tasks;
  requests = all_free pool;
  timing = record { room = pool; timer = new_timer tick_micros };
  tasks = tasks;
}

-- the key of a node with that priority, and that name or none
abbrev pub key_with : ℤ → Option (List ℕ) → KeyData
key_with pri name = record { pri = pri; name = name }

-- ---- what ports and semaphores hold

-- an action on the semaphores
abbrev pub on_semaphores : (Semaphores → Semaphores) → Numbered → Numbered
on_semaphores f s = record s { sems = f s.sems }

-- an action on the ports and the messages
abbrev pub on_ports : (MessagePorts → MessagePorts) → Numbered → Numbered
on_ports f s = record s { ports = f s.ports }

-- ---- nodes linked and unlinked

-- node n is in list h, which has these nodes
abbrev pub linked : ℕ → ℕ → List ℕ → Numbered → Numbered
linked h n nodes s = record s { sequences = slice_set s.sequences h nodes; homes = slice_set s.homes n (Some h) }

abbrev pub at_head : ℕ → ℕ → Numbered → Numbered
at_head h n s = linked h n (n ∷ sequence s.sequences h) s

abbrev pub at_tail : ℕ → ℕ → Numbered → Numbered
at_tail h n s = linked h n (sequence s.sequences h ++ n ∷ []) s

abbrev pub queued : ℕ → ℕ → Numbered → Numbered
queued h n s = linked h n (enqueue (pri_of s.keys) (sequence s.sequences h) n) s

abbrev pub put : ℕ → ℕ → Option ℕ → Numbered → Numbered
put h n pred s = linked h n (put_after pred n (sequence s.sequences h)) s

-- a node or none is in no list, and list h has these nodes
abbrev pub unlinked : ℕ → Option ℕ → List ℕ → Numbered → Numbered
unlinked h None nodes s = record s { sequences = slice_set s.sequences h nodes }
unlinked h (Some n) nodes s = record s { sequences = slice_set s.sequences h nodes; homes = slice_set s.homes n None }

-- node n leaves the list that has it
abbrev pub left_out : ℕ → Option ℕ → Numbered → Numbered
left_out n None s = s
left_out n (Some h) s = unlinked h (Some n) (without_item n (sequence s.sequences h)) s

abbrev pub taken_out : ℕ → Numbered → Numbered
taken_out n s = left_out n (home s.homes n) s

abbrev pub head_taken : ℕ → Numbered → Numbered
head_taken h s = unlinked h (first (sequence s.sequences h)) (drop 1 (sequence s.sequences h)) s

abbrev pub tail_taken : ℕ → Numbered → Numbered
tail_taken h s =
    unlinked h (last (sequence s.sequences h)) (take (length (sequence s.sequences h) - 1) (sequence s.sequences h)) s
