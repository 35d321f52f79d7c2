-- A port or a message that changes, put at a port or taken off one: by number and by address it is the same.
use Rattle.std.proofs.Common.{◌≡◌, ℕ, ◌<◌, List, [], ◌∷◌, ◌++◌, Bool, true, false, drop, map, length, slice_set, refl, ap, sym, ◌∙◌, arith, Option, Some, None, if◌then◌else◌, is_some, nat_eq, option_map, unwrap_or, ◌&&◌, IsTrue}
use Rattle.std.proofs.lemmas.List.{drop-map, map-append}
use Rattle.std.proofs.Math.Path.{fun_ext}
use Rattle.execlist.specs.{Order.first, Lists.sequence, Pool.slot}
use Rattle.execlist.proofs.Pools.{slot_known}
use Rattle.memlist.specs.Memory.{IsWellFormed}
use Rattle.msgport.specs.{declared.message.Message.Message as Content, declared.action.PortAction.PortAction, Port.Port, Port.new_port, Ports.MessagePorts, Ports.message_at, Ports.messages_of, Ports.new_message, Ports.port_at, Ports.with_message, Ports.with_port}
use Rattle.msgport.specs.Ports as ports
use Rattle.execmodel.specs.{State.Object, State.MsgPort, State.Message, State.Block, State.Heap, State.on_heap, Objects.replaced}
use Rattle.execmodel.specs.Ports as model
use Rattle.execheap.specs.Numbered.{IsSoundHeap, Numbered, address_in, message_places, object_of, places, shown_heap, shown_memory, shown_public, shown_tagged}
use Rattle.execheap.specs.{declared.tag.Kind.Kind, declared.tag.Tagged.Tagged, Tags.is_same, Tags.tagged, Table.number_at, Changes.on_ports}
use Rattle.execheap.specs.declared.tag.Kind.TheVariants as variant
use Rattle.execheap.specs.declared.tag.Tagged.TheVariants as tag
use Rattle.execheap.proofs.{Linked.some_is, Mapped.first-map, Relisted.Tells, Relisted.item_set, Relisted.object_replaced, Matching.number_live, MessagePlaces.place_message, Shown.content_shown, Shown.message_at_shown, Shown.messages_shown, Shown.port_shown, Shown.tells, Tagging.either_number}

-- ---- other ports, and the same blocks

pub heap_beside : (s : Numbered) (q : MessagePorts) (heap : Heap) {public : List _} → shown_heap (record s { ports = q }) ≡ heap
    → map (shown_public (record s { ports = q })) q.public ≡ public
    → shown_memory (record s { ports = q }) ≡ record (shown_memory s) { heap = heap; public = public }
heap_beside s q heap is listed = λ i. record (shown_memory s) { heap = is i; public = listed i }

module _ (s : Numbered) (q : MessagePorts) where
  abbrev beside : Numbered
  beside = record s { ports = q }

  -- the same objects if the ports, their messages and what these hold are the same
  module _ (ports : q.ports ≡ s.ports.ports) (queues : q.queues ≡ s.ports.queues) (messages : q.messages ≡ s.ports.messages) where
    object_same : (k : Kind) (m : ℕ) → object_of k m beside ≡ object_of k m s
    object_same variant.Port m =
        λ i. MsgPort (unwrap_or (slot (ports i).slots m) (new_port 0 0)) (map (address_in (message_places s)) (sequence (queues i) m))
    object_same variant.Message m = λ i. Message (unwrap_or (slot (messages i).slots m) (new_message 0 0))
    object_same _ m = refl

    shown_same : (x : Tagged) → shown_tagged beside x ≡ shown_tagged s x
    shown_same (tag.Object k m) = object_same k m
    shown_same _ = refl

    pub objects_beside : shown_heap beside ≡ shown_heap s
    unfolding shown_heap
    objects_beside =
        ap (λ (f : ℕ × (ℕ × ℕ) → ℕ × Block). map f s.table.memory.blocks)
        (fun_ext (λ (entry : ℕ × (ℕ × ℕ)). ap (λ o. (entry.0, record { size = entry.1.0; object = o })) (shown_same (tagged entry.1.1))))

  -- ---- one port is another, or has other messages

  module _ (p address : ℕ) (port : Port) (queue : List ℕ) (messages : q.messages ≡ s.ports.messages)
      (ports : (m : ℕ) → port_at m q ≡ (if nat_eq m p then port else port_at m s.ports))
      (queues : (m : ℕ) → messages_of m q ≡ (if nat_eq m p then queue else messages_of m s.ports)) where
    abbrev replaced_port : Object
    replaced_port = MsgPort port (map (address_in (message_places s)) queue)

    either_port : (b : Bool) (port other : Port) (queue rest : List ℕ)
        → MsgPort (if b then port else other) (map (address_in (message_places s)) (if b then queue else rest))
        ≡ (if b then MsgPort port (map (address_in (message_places s)) queue) else MsgPort other (map (address_in (message_places s)) rest))
    either_port true port other queue rest = refl
    either_port false port other queue rest = refl

    port_set : (k : Kind) (m : ℕ) → object_of k m beside ≡ (if is_same k variant.Port && nat_eq m p then replaced_port else object_of k m s)
    port_set variant.Port m =
        (λ i. MsgPort (ports m i) (map (address_in (message_places s)) (queues m i)))
        ∙ either_port (nat_eq m p) port (port_at m s.ports) queue (messages_of m s.ports)
    port_set variant.Message m = λ i. Message (unwrap_or (slot (messages i).slots m) (new_message 0 0))
    port_set _ m = refl

    pub with_port_shown : Tells s address variant.Port p
        → shown_heap beside ≡ model.with_port address port (map (address_in (message_places s)) queue) (shown_heap s)
    unfolding model.with_port
    with_port_shown told = object_replaced s beside address replaced_port variant.Port p port_set told refl

  -- ---- one message is another

  module _ (m address : ℕ) (content : Content) (ports : q.ports ≡ s.ports.ports) (queues : q.queues ≡ s.ports.queues)
      (messages : (n : ℕ) → message_at n q ≡ (if nat_eq n m then content else message_at n s.ports)) where
    either_content : (b : Bool) (content other : Content) → Message (if b then content else other) ≡ (if b then Message content else Message other)
    either_content true content other = refl
    either_content false content other = refl

    content_set : (k : Kind) (n : ℕ) → object_of k n beside ≡ (if is_same k variant.Message && nat_eq n m then Message content else object_of k n s)
    content_set variant.Port n =
        λ i. MsgPort (unwrap_or (slot (ports i).slots n) (new_port 0 0)) (map (address_in (message_places s)) (sequence (queues i) n))
    content_set variant.Message n = ap Message (messages n) ∙ either_content (nat_eq n m) content (message_at n s.ports)
    content_set _ n = refl

    pub with_content_shown : Tells s address variant.Message m → model.is_message_at address (shown_heap s) ≡ true
        → shown_heap beside ≡ model.with_content address content (shown_heap s)
    unfolding model.with_content
    with_content_shown told begins =
        object_replaced s beside address (Message content) variant.Message m content_set told refl
        ∙ sym (ap (λ b. if b then map (replaced address (Message content)) (shown_heap s) else shown_heap s) begins)

-- ---- an item that is written

either_item : {A : Type 0} (b : Bool) (item : A) (o : Option A) (other : A) → unwrap_or (if b then Some item else o) other ≡ (if b then item else unwrap_or o other)
either_item true item o other = refl
either_item false item o other = refl

pub written_at : {A : Type 0} (slots : List (Option A)) (n : ℕ) (item other : A) → n < length slots → (k : ℕ)
    → unwrap_or (slot (slice_set slots n (Some item)) k) other ≡ (if nat_eq k n then item else unwrap_or (slot slots k) other)
written_at slots n item other known k = ap (λ o. unwrap_or o other) (item_set slots n (Some item) None k known) ∙ either_item (nat_eq k n) item (slot slots k) other

pub same_at : {A : Type 0} (f : ℕ → A) (p k : ℕ) → f k ≡ (if nat_eq k p then f p else f k)
same_at f p k = either_number k p (λ b. f k ≡ (if b then f p else f k)) (λ same. ap f same) (λ other. refl)

pub item_known : {A : Type 0} (slots : List (Option A)) (n : ℕ) → IsTrue (is_some (slot slots n)) → n < length slots
item_known slots n live = let item = some_is (slot slots n) live in slot_known slots n item.0 item.1

-- if none is first there is none
pub none_left : (xs : List ℕ) → first xs ≡ None → xs ≡ drop 1 xs
none_left [] none = refl
none_left (x ∷ xs) none = let bad : true ≡ false = ap is_some none in cc

-- ---- the changes, if a number begins at an address

module _ (s : Numbered) (p port : ℕ) (found : number_at variant.Port port s.table ≡ Some p) (told : Tells s port variant.Port p) (live : IsTrue (ports.is_port p s.ports)) where
  pub action_heap : (act : PortAction) → shown_heap (on_ports (with_port p (record (port_at p s.ports) { action = act })) s) ≡ model.with_action act port (shown_heap s)
  unfolding model.with_action
  action_heap act =
      with_port_shown s (with_port p (record (port_at p s.ports) { action = act }) s.ports) p port (record (port_at p s.ports) { action = act })
      (messages_of p s.ports) refl
      (written_at s.ports.ports.slots p (record (port_at p s.ports) { action = act }) (new_port 0 0) (item_known s.ports.ports.slots p live))
      (same_at (λ m. messages_of m s.ports) p) told
      ∙ (λ i. model.with_port port (record (sym (port_shown s port p found) i) { action = act }) (sym (messages_shown s port p found) i) (shown_heap s))

  module _ (queued : p < length s.ports.queues) where
    pub appended_heap : (m message : ℕ) → address_in (message_places s) m ≡ message
        → shown_heap (on_ports (ports.appended p m) s) ≡ model.appended port message (shown_heap s)
    unfolding model.appended
    appended_heap m message is =
        with_port_shown s (ports.appended p m s.ports) p port (port_at p s.ports) (messages_of p s.ports ++ m ∷ []) refl
        (same_at (λ k. port_at k s.ports) p) (λ k. item_set s.ports.queues p (messages_of p s.ports ++ m ∷ []) [] k queued) told
        ∙ (λ i. model.with_port port (sym (port_shown s port p found) i) (more i) (shown_heap s))
      where
        more : map (address_in (message_places s)) (messages_of p s.ports ++ m ∷ []) ≡ model.messages_of port (shown_heap s) ++ message ∷ []
        more =
            map-append (address_in (message_places s)) (messages_of p s.ports) (m ∷ [])
            ∙ ap (λ a. map (address_in (message_places s)) (messages_of p s.ports) ++ a ∷ []) is
            ∙ ap (λ queue. queue ++ message ∷ []) (sym (messages_shown s port p found))

    -- the first message is taken off, if there is one
    pub taken_off_heap : (o : Option ℕ) → first (messages_of p s.ports) ≡ o → shown_heap (on_ports (ports.taken_off p o) s) ≡ model.taken_off port (shown_heap s)
    unfolding model.taken_off
    taken_off_heap o is =
        off o is
        ∙ (λ i. model.with_port port (sym (port_shown s port p found) i) (fewer i) (shown_heap s))
      where
        fewer : map (address_in (message_places s)) (drop 1 (messages_of p s.ports)) ≡ drop 1 (model.messages_of port (shown_heap s))
        fewer = sym (ap (drop 1) (messages_shown s port p found) ∙ drop-map (address_in (message_places s)) 1 (messages_of p s.ports))

        off : (o : Option ℕ) → first (messages_of p s.ports) ≡ o
            → shown_heap (on_ports (ports.taken_off p o) s) ≡ model.with_port port (port_at p s.ports) (map (address_in (message_places s)) (drop 1 (messages_of p s.ports))) (shown_heap s)
        off None none =
            with_port_shown s s.ports p port (port_at p s.ports) (messages_of p s.ports) refl
            (same_at (λ k. port_at k s.ports) p) (same_at (λ k. messages_of k s.ports) p) told
            ∙ ap (λ queue. model.with_port port (port_at p s.ports) (map (address_in (message_places s)) queue) (shown_heap s)) (none_left (messages_of p s.ports) none)
        off (Some m) is =
            with_port_shown s (ports.taken_off p (Some m) s.ports) p port (port_at p s.ports) (drop 1 (messages_of p s.ports)) refl
            (same_at (λ k. port_at k s.ports) p) (λ k. item_set s.ports.queues p (drop 1 (messages_of p s.ports)) [] k queued) told

module _ (s : Numbered) (m message : ℕ) (found : number_at variant.Message message s.table ≡ Some m) (told : Tells s message variant.Message m) (live : IsTrue (ports.is_message m s.ports)) where
  content_heap : (content : Content) → shown_heap (on_ports (with_message m content) s) ≡ model.with_content message content (shown_heap s)
  content_heap content =
      with_content_shown s (with_message m content s.ports) m message content refl refl
      (written_at s.ports.messages.slots m content (new_message 0 0) (item_known s.ports.messages.slots m live)) told
      (message_at_shown s message ∙ ap is_some found)

  pub word_heap : (value : ℕ) → shown_heap (on_ports (with_message m (record (message_at m s.ports) { word = value })) s) ≡ model.with_message_word message value (shown_heap s)
  unfolding model.with_message_word
  word_heap value =
      content_heap (record (message_at m s.ports) { word = value })
      ∙ (λ i. model.with_content message (record (sym (content_shown s message m found) i) { word = value }) (shown_heap s))

  pub typed_heap : (kind : ℕ) → shown_heap (on_ports (ports.typed kind m) s) ≡ model.typed kind message (shown_heap s)
  unfolding model.typed
  typed_heap kind =
      content_heap (record (message_at m s.ports) { kind = kind })
      ∙ (λ i. model.with_content message (record (sym (content_shown s message m found) i) { kind = kind }) (shown_heap s))

-- ---- the memory that is shown

module _ {s : Numbered} (sound : IsSoundHeap s) (held : ports.IsSoundPorts s.ports) (formed : IsWellFormed s.table.memory.regions s.table.memory.blocks) where
  module _ (p port : ℕ) (here : slot (places variant.Port s) p ≡ Some port) (live : IsTrue (ports.is_port p s.ports)) where
    port_begins : number_at variant.Port port s.table ≡ Some p
    port_begins = number_live sound.table variant.Port p port here

    port_told : Tells s port variant.Port p
    port_told = tells sound.table formed variant.Port p port here

    has_queue : p < length s.ports.queues
    has_queue = omega (arith, held.each_queue, item_known s.ports.ports.slots p live)

    pub action_shown : (act : PortAction) → shown_memory (on_ports (with_port p (record (port_at p s.ports) { action = act })) s) ≡ on_heap (model.with_action act port) (shown_memory s)
    action_shown act = heap_beside s (with_port p (record (port_at p s.ports) { action = act }) s.ports) (model.with_action act port (shown_heap s))
        (action_heap s p port port_begins port_told live act) refl

    pub taken_off_shown : shown_memory (on_ports (ports.taken_off p (first (messages_of p s.ports))) s) ≡ on_heap (model.taken_off port) (shown_memory s)
    taken_off_shown = by_first (first (messages_of p s.ports)) refl
      where
        by_first : (o : Option ℕ) → first (messages_of p s.ports) ≡ o → shown_memory (on_ports (ports.taken_off p o) s) ≡ on_heap (model.taken_off port) (shown_memory s)
        by_first None is = heap_beside s (ports.taken_off p None s.ports) (model.taken_off port (shown_heap s))
            (taken_off_heap s p port port_begins port_told live has_queue None is) refl
        by_first (Some m) is = heap_beside s (ports.taken_off p (Some m) s.ports) (model.taken_off port (shown_heap s))
            (taken_off_heap s p port port_begins port_told live has_queue (Some m) is) refl

    module _ (m message : ℕ) (there : slot (places variant.Message s) m ≡ Some message) (lives : IsTrue (ports.is_message m s.ports)) where
      pub posted_shown : (kind : ℕ) → shown_memory (on_ports (ports.posted kind p m) s) ≡ on_heap (model.posted kind port message) (shown_memory s)
      unfolding model.posted
      posted_shown kind =
          let typed : Numbered = on_ports (ports.typed kind m) s in
          heap_beside s (ports.posted kind p m s.ports) (model.posted kind port message (shown_heap s))
          (appended_heap typed p port port_begins port_told live has_queue m message
          (ap (λ o. unwrap_or o 0) (place_message sound.table m message there))
          ∙ ap (model.appended port message) (typed_heap s m message (number_live sound.table variant.Message m message there) (tells sound.table formed variant.Message m message there) lives kind)) refl

  module _ (m message : ℕ) (there : slot (places variant.Message s) m ≡ Some message) (lives : IsTrue (ports.is_message m s.ports)) where
    message_begins : number_at variant.Message message s.table ≡ Some m
    message_begins = number_live sound.table variant.Message m message there

    message_told : Tells s message variant.Message m
    message_told = tells sound.table formed variant.Message m message there

    pub word_shown : (value : ℕ) → shown_memory (on_ports (with_message m (record (message_at m s.ports) { word = value })) s) ≡ on_heap (model.with_message_word message value) (shown_memory s)
    word_shown value = heap_beside s (with_message m (record (message_at m s.ports) { word = value }) s.ports) (model.with_message_word message value (shown_heap s))
        (word_heap s m message message_begins message_told lives value) refl

    pub typed_shown : (kind : ℕ) → shown_memory (on_ports (ports.typed kind m) s) ≡ on_heap (model.typed kind message) (shown_memory s)
    typed_shown kind = heap_beside s (ports.typed kind m s.ports) (model.typed kind message (shown_heap s))
        (typed_heap s m message message_begins message_told lives kind) refl

-- ---- what is looked at

module _ {s : Numbered} (sound : IsSoundHeap s) where
  pub first_message_shown : (p port : ℕ) → slot (places variant.Port s) p ≡ Some port
      → first (model.messages_of port (shown_heap s)) ≡ option_map (address_in (message_places s)) (first (messages_of p s.ports))
  first_message_shown p port here =
      ap first (messages_shown s port p (number_live sound.table variant.Port p port here)) ∙ first-map (address_in (message_places s)) (messages_of p s.ports)

  pub port_of_shown : (p port : ℕ) → slot (places variant.Port s) p ≡ Some port → model.port_of port (shown_heap s) ≡ port_at p s.ports
  port_of_shown p port here = port_shown s port p (number_live sound.table variant.Port p port here)

  pub content_of_shown : (m message : ℕ) → slot (places variant.Message s) m ≡ Some message → model.content_of message (shown_heap s) ≡ message_at m s.ports
  content_of_shown m message here = content_shown s message m (number_live sound.table variant.Message m message here)
