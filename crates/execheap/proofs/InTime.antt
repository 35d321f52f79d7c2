-- The requests and their messages go on agreeing if calls leave them alone.
use Rattle.std.proofs.Common.{◌≡◌, ℕ, ◌+◌, ◌<◌, ◌≤◌, ◌^◌, length, ap, sym, ◌∙◌, subst, arith, Some, nat_lt, Option, is_some, slice_set, IsSome, IsTrue, length-set}
use Rattle.execlist.proofs.Pools.{slot_other}
use Rattle.execlist.specs.{Lists.home, Lists.times, Pool.Pooled, Pool.slot}
use Rattle.iorequest.specs.{declared.request.Request.Request as TimerRequest, Requests.request_at}
use Rattle.msgport.specs.{declared.message.Message.Message, Ports.MessagePorts, Ports.is_message}
use Rattle.timerdev.specs.{Held.Held, Timing.is_waiting}
use Rattle.execheap.specs.declared.tag.Kind.TheVariants as variant
use Rattle.execheap.specs.{Table.slots_of, Numbered.Numbered, Numbered.IsInTime, Numbered.is_way_at, Numbered.message_of_request, Numbered.places}

-- what is held and waits is the same, the message of each request is there, and is in a port only if it was
pub record IsAlong (s u : Numbered) : Type 0 where
  pub timing : u.timing ≡ s.timing
  pub holding : u.ports.holding ≡ s.ports.holding
  pub way : (r : ℕ) → is_way_at r u.requests ≡ is_way_at r s.requests
  pub reply : (r p : ℕ) → home s.ports.places (message_of_request r s) ≡ Some p → (request_at r u.requests).port ≡ (request_at r s.requests).port
  pub each_message : length u.ports.messages.slots ≡ length s.ports.messages.slots
  pub made : (r : ℕ) → r < s.table.pool → IsTrue (is_message (message_of_request r s) s.ports) → IsTrue (is_message (message_of_request r s) u.ports)
  pub queued : (r p : ℕ) → home u.ports.places (message_of_request r s) ≡ Some p → home s.ports.places (message_of_request r s) ≡ Some p

-- requests whose replies are in ports live on, and these ports keep their addresses
pub record IsAbout (s u : Numbered) : Type 0 where
  pub pool : u.table.pool ≡ s.table.pool
  pub live : (r p : ℕ) → home s.ports.places (message_of_request r s) ≡ Some p → IsSome (slot (places variant.Request s) r) → IsSome (slot (places variant.Request u) r)
  pub port : (r p a : ℕ) → home s.ports.places (message_of_request r s) ≡ Some p → slot (places variant.Port s) p ≡ Some a → slot (places variant.Port u) p ≡ Some a

module _ {s u : Numbered} (t : IsInTime s) (along : IsAlong s u) (about : IsAbout s u) where
  was : (r p : ℕ) → home u.ports.places (message_of_request r u) ≡ Some p → home s.ports.places (message_of_request r s) ≡ Some p
  was r p there = along.queued r p (ap (λ n. home u.ports.places (n + r)) (sym about.pool) ∙ there)

  pub in_time_kept : IsInTime u
  in_time_kept = record {
    each_message = along.each_message ∙ t.each_message ∙ ap (λ n. n + n) (sym about.pool);
    each_time = ap (λ (m : Held). m.room) along.timing ∙ t.each_time ∙ sym about.pool;
    made = λ r small. let less : r < s.table.pool = subst (λ n. r < n) about.pool small in
        subst (λ n. IsTrue (is_message (n + r) u.ports)) (sym about.pool) (along.made r less (t.made r less));
    held = λ r. (λ i. nat_lt 0 (times (about.pool i + r) (along.holding i))) ∙ t.held r ∙ sym (along.way r);
    none_held = λ m small. ap (λ held. nat_lt 0 (times m held)) along.holding ∙ t.none_held m (subst (λ n. m < n) about.pool small);
    waits = λ r. ap (λ (m : Held). is_waiting r m.timer) along.timing ∙ t.waits r ∙ sym (along.way r);
    live = λ r p there. about.live r p (was r p there) (t.live r p (was r p there));
    at_reply_port = λ r p there. about.port r p (request_at r s.requests).port (was r p there) (t.at_reply_port r p (was r p there))
        ∙ ap Some (sym (along.reply r p (was r p there)));
    early = subst (λ (m : Held). m.timer.clock + 2 ^ 54 ≤ 2 ^ 64) (sym along.timing) t.early;
    near = subst (λ (m : Held). m.timer.system ≤ m.timer.clock + 2 ^ 53) (sym along.timing) t.near;
  }

-- ---- all beside the table is the same

-- the same ports, requests and times
pub along_same : {s u : Numbered} → u.ports ≡ s.ports → u.requests ≡ s.requests → u.timing ≡ s.timing → IsAlong s u
along_same {s} {u} ports requests timing = record {
  timing = timing;
  holding = ap (λ (q : MessagePorts). q.holding) ports;
  way = λ r. ap (is_way_at r) requests;
  reply = λ r p there. ap (λ (q : Pooled TimerRequest). (request_at r q).port) requests;
  each_message = ap (λ (q : MessagePorts). length q.messages.slots) ports;
  made = λ r small is. subst (λ (q : MessagePorts). IsTrue (is_message (message_of_request r s) q)) (sym ports) is;
  queued = λ r p there. ap (λ (q : MessagePorts). home q.places (message_of_request r s)) (sym ports) ∙ there;
}

-- the same messages in the same ports
pub along_messages : {s u : Numbered} → u.ports.messages ≡ s.ports.messages → u.ports.places ≡ s.ports.places → u.ports.holding ≡ s.ports.holding
    → u.requests ≡ s.requests → u.timing ≡ s.timing → IsAlong s u
along_messages {s} {u} messages places holding requests timing = record {
  timing = timing;
  holding = holding;
  way = λ r. ap (is_way_at r) requests;
  reply = λ r p there. ap (λ (q : Pooled TimerRequest). (request_at r q).port) requests;
  each_message = λ i. length (messages i).slots;
  made = λ r small is. (λ i. is_some (slot (messages i).slots (message_of_request r s))) ∙ is;
  queued = λ r p there. ap (λ all. home all (message_of_request r s)) (sym places) ∙ there;
}

-- a message of the table is made, another one or freed
pub along_message : {s u : Numbered} (n : ℕ) (o : Option Message) → n < s.table.pool → u.ports.messages.slots ≡ slice_set s.ports.messages.slots n o
    → u.ports.places ≡ s.ports.places → u.ports.holding ≡ s.ports.holding → u.requests ≡ s.requests → u.timing ≡ s.timing → IsAlong s u
along_message {s} {u} n o small slots places holding requests timing = record {
  timing = timing;
  holding = holding;
  way = λ r. ap (is_way_at r) requests;
  reply = λ r p there. ap (λ (q : Pooled TimerRequest). (request_at r q).port) requests;
  each_message = ap length slots ∙ length-set s.ports.messages.slots n o;
  made = λ r less is. ap (λ all. is_some (slot all (message_of_request r s))) slots
      ∙ ap is_some (slot_other s.ports.messages.slots n (message_of_request r s) o (λ same. omega (arith, small, same))) ∙ is;
  queued = λ r p there. ap (λ all. home all (message_of_request r s)) (sym places) ∙ there;
}

-- the same table
pub about_same : {s u : Numbered} → u.table ≡ s.table → IsAbout s u
about_same {s} {u} same = record {
  pool = λ i. (same i).pool;
  live = λ r p there lives. (λ i. is_some (slot (slots_of variant.Request (same i)) r)) ∙ lives;
  port = λ r p a there lives. (λ i. slot (slots_of variant.Port (same i)) p) ∙ lives;
}

-- other lists, nodes and semaphores
pub in_time_beside : {s u : Numbered} → IsInTime s → u.table ≡ s.table → u.ports ≡ s.ports → u.requests ≡ s.requests → u.timing ≡ s.timing → IsInTime u
in_time_beside t table ports requests timing = in_time_kept t (along_same ports requests timing) (about_same table)
