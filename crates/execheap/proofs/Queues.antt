-- Queues, read one after another: what is read by number is what is shown by address.
use Rattle.std.proofs.Common.{◌≡◌, ◌≢◌, ℕ, suc, ◌-◌, ◌≤◌, List, [], ◌∷◌, Bool, true, false, map, length, refl, ap, sym, ◌∙◌, arith, Some, None, Option, find, is_some, nat_eq, ◌==◌, ◌||◌, if◌then◌else◌, unwrap_or, option_map, IfSome, IsSome, ne_eqb}
use Rattle.std.specs.List.{AllByRecursion, list_any}
use Rattle.execlist.specs.{Lists.home, Lists.is_at, Lists.is_named, Lists.part_after, Lists.part_from, Lists.sequence, Lists.times, Order.first, Pool.slot}
use Rattle.memlist.specs.{Blocks.Blocks, Memory.IsWellFormed}
use Rattle.memlist.proofs.Headers.{from_eq}
use Rattle.msgport.specs.Ports as ports
use Rattle.msgport.specs.Ports.{messages_of}
use Rattle.sigsem.specs.Semaphores as sems
use Rattle.sigsem.specs.Semaphores.{Semaphores, waiters_of, waits_at}
use Rattle.timerdev.specs.{DueTimes.due_of, Timing.Waiting}
use Rattle.execmodel.specs.{Lists.is_list, Lists.is_list_at, Lists.nodes_of, Lists.nodes_of_object, Objects.is_kind, Objects.object_at, Ports.has_message, Ports.is_called, Ports.is_port, Ports.is_port_at, Ports.is_queued, Ports.messages_of_object, Semaphores.is_semaphore, Semaphores.is_semaphore_at, Semaphores.waiters_of_object, State.Block, State.ListHead, State.MsgPort, State.Object, State.PublicPort, State.Semaphore}
use Rattle.execmodel.specs.Ports as model
use Rattle.execmodel.specs.Semaphores as semaphores
use Rattle.execheap.specs.declared.tag.Kind.TheVariants as variant
use Rattle.execheap.specs.Numbered.{Numbered, IsSoundHeap, IsSpace, address_in, message_places, places, shown_entry, shown_heap, shown_public, shown_timer, shown_waiting}
use Rattle.execheap.specs.{declared.tag.Tagged.Tagged, Tags.tagged, Table.number_at, Queues.port_named, Queues.port_with}
use Rattle.execheap.specs.declared.tag.Tagged.TheVariants as tag
use Rattle.execheap.proofs.MessagePlaces.{by_number, home_placed, messages_apart, place_below, place_from, standing_placed}
use Rattle.execheap.proofs.{Entries.all_then, BlockViews.beyond, Linked.some_is, Linked.standing_lives, Linked.told_apart, Linked.turned, Mapped.find-map, Mapped.first-map, Mapped.members, Mapped.part_after-map, Matching.number_live, Public.each, Queued.Has, Queued.has_shown, Queued.is_queued_shown, Queued.port_placed, RequestsShown.waiting_apart, RequestsShown.waiting_placed, Shown.list_at_shown, Shown.port_at_shown, Shown.semaphore_at_shown, Shown.tells, Tagging.is_object, Waits.waiting_members}

-- nothing comes after what no member represents
after_none : (f : ℕ → ℕ) (a : ℕ) (xs : List ℕ) → AllByRecursion (λ x. (f x == a) ≡ false) xs → part_after a (map f xs) ≡ []
after_none f a [] apart = refl
after_none f a (x ∷ xs) apart = ap (λ b. if b then map f xs else part_after a (map f xs)) apart.0 ∙ after_none f a xs apart.1

-- nothing comes after what is not there
after_absent : (n : ℕ) (xs : List ℕ) → times n xs ≡ 0 → part_after n xs ≡ []
after_absent n [] none = refl
after_absent n (x ∷ xs) none = elim (x == n) as (λ b. (if b then suc (times n xs) else times n xs) ≡ 0 → (if b then xs else part_after n xs) ≡ []) [
  | true ↦ λ more. absurd (omega (arith, more))
  | false ↦ λ rest. after_absent n xs rest
] none

-- what is read of a sequence by numbers, given the number of the address
after_number : (f : ℕ → ℕ) (n a : ℕ) (xs : List ℕ) → f n ≡ a → AllByRecursion (λ x. (f x == f n) ≡ (x == n)) xs
    → first (part_from (Some a) (map f xs)) ≡ option_map f (first (part_from (Some n) xs))
after_number f n a xs is alike =
    ap (λ b. first (part_after b (map f xs))) (sym is) ∙ ap first (part_after-map f n xs alike) ∙ first-map f (part_after n xs)

-- ---- nothing is read of what is not a queue

no_nodes : (o : Option Object) → is_kind is_list o ≡ false → nodes_of_object o ≡ []
no_nodes None other = refl
no_nodes (Some (ListHead nodes)) other = let bad : true ≡ false = other in cc
no_nodes (Some _) other = refl

no_messages : (o : Option Object) → is_kind is_port o ≡ false → messages_of_object o ≡ []
no_messages None other = refl
no_messages (Some (MsgPort port messages)) other = let bad : true ≡ false = other in cc
no_messages (Some _) other = refl

no_waiters : (o : Option Object) → is_kind is_semaphore o ≡ false → waiters_of_object o ≡ []
no_waiters None other = refl
no_waiters (Some (Semaphore sem waiters)) other = let bad : true ≡ false = other in cc
no_waiters (Some _) other = refl

none_from : (after : Option ℕ) (xs : List ℕ) → xs ≡ [] → first (part_from after xs) ≡ None
none_from None xs none = ap first none
none_from (Some n) xs none = ap (λ ys. first (part_after n ys)) none

module _ (s : Numbered) (a : ℕ) (after : Option ℕ) where
  nodes_none : number_at variant.List a s.table ≡ None → nodes_of a (shown_heap s) ≡ []
  unfolding nodes_of is_list_at
  nodes_none none = no_nodes (object_at a (shown_heap s)) (list_at_shown s a ∙ ap is_some none)

  pub no_list : number_at variant.List a s.table ≡ None → first (part_from after (nodes_of a (shown_heap s))) ≡ None
  no_list none = none_from after (nodes_of a (shown_heap s)) (nodes_none none)

  messages_none : number_at variant.Port a s.table ≡ None → model.messages_of a (shown_heap s) ≡ []
  unfolding model.messages_of is_port_at
  messages_none none = no_messages (object_at a (shown_heap s)) (port_at_shown s a ∙ ap is_some none)

  pub no_port_there : number_at variant.Port a s.table ≡ None → first (part_from after (model.messages_of a (shown_heap s))) ≡ None
  no_port_there none = none_from after (model.messages_of a (shown_heap s)) (messages_none none)

  waiters_none : number_at variant.Semaphore a s.table ≡ None → semaphores.waiters_of a (shown_heap s) ≡ []
  unfolding semaphores.waiters_of is_semaphore_at
  waiters_none none = no_waiters (object_at a (shown_heap s)) (semaphore_at_shown s a ∙ ap is_some none)

  pub no_semaphore : number_at variant.Semaphore a s.table ≡ None → first (part_from after (semaphores.waiters_of a (shown_heap s))) ≡ None
  no_semaphore none = none_from after (semaphores.waiters_of a (shown_heap s)) (waiters_none none)

-- ---- the nodes of a list

module _ {s : Numbered} (sound : IsSoundHeap s) (space : IsSpace s) (h : ℕ) where
  abbrev nodes : List ℕ
  nodes = map (address_in (places variant.Node s)) (sequence s.sequences h)

  pub next_node : (n a : ℕ) → slot (places variant.Node s) n ≡ Some a
      → first (part_from (Some a) nodes) ≡ option_map (address_in (places variant.Node s)) (first (part_from (Some n) (sequence s.sequences h)))
  next_node n a here = after_number (address_in (places variant.Node s)) n a (sequence s.sequences h) (ap (λ o. unwrap_or o 0) here)
      (told_apart sound space h n a here)

  pub no_node : (a : ℕ) → number_at variant.Node a s.table ≡ None → first (part_from (Some a) nodes) ≡ None
  no_node a none = ap first (after_none (address_in (places variant.Node s)) a (sequence s.sequences h)
      (members (λ n. (address_in (places variant.Node s) n == a) ≡ false) (sequence s.sequences h) (λ n stands.
      let lives = some_is (slot (places variant.Node s) n) (standing_lives sound space h n stands) in
      ne_eqb (address_in (places variant.Node s) n) a (λ same.
      let bad : false ≡ true = ap is_some (sym none ∙ number_live sound.table variant.Node n a
      (lives.1 ∙ ap Some (ap (λ o. unwrap_or o 0) (sym lives.1) ∙ same))) in cc))))

-- ---- the messages of a port

-- if neither a message nor a request begins at an address, nothing that may be in a port does
pub none_placed : {s : Numbered} → IsSoundHeap s → (a : ℕ) → number_at variant.Message a s.table ≡ None → number_at variant.Request a s.table ≡ None
    → (m : ℕ) → slot (message_places s) m ≢ Some a
none_placed {s} sound a message request m at = by_number m s.table.pool
    (λ below. let bad : false ≡ true = ap is_some (sym message
    ∙ number_live sound.table variant.Message m a (sym (place_below sound.table m below) ∙ at)) in cc)
    (λ from. let bad : false ≡ true = ap is_some (sym request
    ∙ number_live sound.table variant.Request (m - s.table.pool) a (sym (place_from sound.table m from) ∙ at)) in cc)

-- what is in a port has an address
pub placed_if : {s : Numbered} → IsSoundHeap s → ports.IsSoundPorts s.ports → (p : ℕ) (o : Option ℕ) → IfSome o (λ m. home s.ports.places m ≡ Some p)
    → IfSome o (λ m. IsSome (slot (message_places s) m))
placed_if sound held p None there = tt
placed_if sound held p (Some m) there = home_placed sound held p m there

module _ {s : Numbered} (sound : IsSoundHeap s) (held : ports.IsSoundPorts s.ports) where
  abbrev messages : ℕ → List ℕ
  messages p = map (address_in (message_places s)) (messages_of p s.ports)

  pub next_message : (p m a : ℕ) → slot (message_places s) m ≡ Some a
      → first (part_from (Some a) (messages p)) ≡ option_map (address_in (message_places s)) (first (part_from (Some m) (messages_of p s.ports)))
  next_message p m a here = after_number (address_in (message_places s)) m a (messages_of p s.ports) (ap (λ o. unwrap_or o 0) here)
      (messages_apart sound held p m a here)

  -- the address of nothing that may be in a port is in none
  module _ (a : ℕ) (none : (m : ℕ) → slot (message_places s) m ≢ Some a) where
    none_alike : (p : ℕ) → AllByRecursion (λ m. (address_in (message_places s) m == a) ≡ false) (messages_of p s.ports)
    none_alike p = members (λ m. (address_in (message_places s) m == a) ≡ false) (messages_of p s.ports) (λ m stands.
        let placed = standing_placed sound held p m stands in
        ne_eqb (address_in (message_places s) m) a (λ same. none m (placed.1 ∙ ap Some (ap (λ o. unwrap_or o 0) (sym placed.1) ∙ same))))

    pub no_message : (p : ℕ) → first (part_from (Some a) (messages p)) ≡ None
    no_message p = ap first (after_none (address_in (message_places s)) a (messages_of p s.ports) (none_alike p))

    none_has : (x : Tagged) → Has a s x ≡ false
    none_has (tag.Object variant.Port p) = any_none (address_in (message_places s)) a (messages_of p s.ports) (none_alike p) where
      any_none : (f : ℕ → ℕ) (a : ℕ) (xs : List ℕ) → AllByRecursion (λ x. (f x == a) ≡ false) xs → list_any (λ other. other == a) (map f xs) ≡ false
      any_none f a [] apart = refl
      any_none f a (x ∷ xs) apart = (λ i. apart.0 i || any_none f a xs apart.1 i)
    none_has _ = refl

  -- ---- the port that has a message

  -- the entry that passes a test which one key alone passes
  found_at : {A : Type 0} (test : A → Bool) (key : A → ℕ) (b : ℕ) (es : List A) → AllByRecursion (λ e. nat_eq (key e) b ≡ test e) es
      → list_any test es ≡ true → option_map key (find test es) ≡ Some b
  found_at test key b [] told any = let bad : false ≡ true = any in cc
  found_at test key b (e ∷ es) told any = elim (test e)
      as (λ t. test e ≡ t → t || list_any test es ≡ true → option_map key (if t then Some e else find test es) ≡ Some b) [
        | true ↦ λ here rest. ap Some (from_eq (key e) b (told.0 ∙ here))
        | false ↦ λ here rest. found_at test key b es told.1 rest
      ] refl any

  found_none : {A : Type 0} (test : A → Bool) (es : List A) → list_any test es ≡ false → find test es ≡ None
  found_none test [] none = refl
  found_none test (e ∷ es) none = elim (test e) as (λ t. t || list_any test es ≡ false → (if t then Some e else find test es) ≡ None) [
    | true ↦ λ bad. let no : true ≡ false = bad in cc
    | false ↦ λ rest. found_none test es rest
  ] none

  -- by entries
  any_entries : (a : ℕ) (es : Blocks) → list_any (has_message a) (map (shown_entry s) es) ≡ list_any (λ (e : ℕ × (ℕ × ℕ)). Has a s (tagged e.1.1)) es
  any_entries a [] = refl
  any_entries a (e ∷ es) = ap (λ b. Has a s (tagged e.1.1) || b) (any_entries a es)

  find_entries : (a : ℕ) (es : Blocks) → option_map (λ (entry : ℕ × Block). entry.0) (find (has_message a) (map (shown_entry s) es))
      ≡ option_map (λ (e : ℕ × (ℕ × ℕ)). e.0) (find (λ (e : ℕ × (ℕ × ℕ)). Has a s (tagged e.1.1)) es)
  find_entries a es =
      ap (option_map (λ (entry : ℕ × Block). entry.0)) (find-map (shown_entry s) (has_message a) (λ (e : ℕ × (ℕ × ℕ)). Has a s (tagged e.1.1)) es
      (each (λ (e : ℕ × (ℕ × ℕ)). has_message a (shown_entry s e) ≡ Has a s (tagged e.1.1)) (λ e. refl) es))
      ∙ both (find (λ (e : ℕ × (ℕ × ℕ)). Has a s (tagged e.1.1)) es)
    where
      both : (o : Option (ℕ × (ℕ × ℕ))) → option_map (λ (entry : ℕ × Block). entry.0) (option_map (shown_entry s) o) ≡ option_map (λ (e : ℕ × (ℕ × ℕ)). e.0) o
      both None = refl
      both (Some e) = refl

  no_port : (a : ℕ) → is_queued a (shown_heap s) ≡ false → port_with a (shown_heap s) ≡ None
  unfolding is_queued port_with
  no_port a none = ap (option_map (λ (entry : ℕ × Block). entry.0)) (found_none (has_message a) (shown_heap s) none)

  none_entries : (a : ℕ) → ((m : ℕ) → slot (message_places s) m ≢ Some a) → (es : Blocks)
      → list_any (λ (e : ℕ × (ℕ × ℕ)). Has a s (tagged e.1.1)) es ≡ false
  none_entries a none [] = refl
  none_entries a none (e ∷ es) =
      ap (λ b. b || list_any (λ (f : ℕ × (ℕ × ℕ)). Has a s (tagged f.1.1)) es) (none_has a none (tagged e.1.1)) ∙ none_entries a none es

  none_queued : (a : ℕ) → ((m : ℕ) → slot (message_places s) m ≢ Some a) → is_queued a (shown_heap s) ≡ false
  unfolding is_queued shown_heap
  none_queued a none = any_entries a s.table.memory.blocks ∙ none_entries a none s.table.memory.blocks

  pub port_with_none : (a : ℕ) → ((m : ℕ) → slot (message_places s) m ≢ Some a) → port_with a (shown_heap s) ≡ None
  port_with_none a none = no_port a (none_queued a none)

  module _ (formed : IsWellFormed s.table.memory.regions s.table.memory.blocks) (m a : ℕ) (here : slot (message_places s) m ≡ Some a) where
    -- of all objects the port that has a message has it
    has_is : (p : ℕ) → home s.ports.places m ≡ Some p → (x : Tagged) → Has a s x ≡ is_object variant.Port p x
    has_is p there (tag.Object variant.Port j) = has_shown sound held m a here j ∙ ap (λ o. is_at o j) there ∙ turned p j
    has_is p there _ = refl

    at_port : (p : ℕ) → home s.ports.places m ≡ Some p → is_queued a (shown_heap s) ≡ true
        → port_with a (shown_heap s) ≡ Some (address_in (places variant.Port s) p)
    unfolding is_queued port_with shown_heap
    at_port p there queued =
        let port = port_placed sound held p (held.live_port m p there) in
        find_entries a s.table.memory.blocks
        ∙ found_at (λ (e : ℕ × (ℕ × ℕ)). Has a s (tagged e.1.1)) (λ (e : ℕ × (ℕ × ℕ)). e.0) port.0 s.table.memory.blocks
        (all_then (λ (e : ℕ × (ℕ × ℕ)) same. same ∙ sym (has_is p there (tagged e.1.1))) s.table.memory.blocks
        (tells sound.table formed variant.Port p port.0 port.1))
        (sym (any_entries a s.table.memory.blocks) ∙ queued)
        ∙ ap Some (sym (ap (λ o. unwrap_or o 0) port.1))

    pub port_with_shown : port_with a (shown_heap s) ≡ option_map (address_in (places variant.Port s)) (home s.ports.places m)
    port_with_shown = elim (home s.ports.places m)
        as (λ o. home s.ports.places m ≡ o → port_with a (shown_heap s) ≡ option_map (address_in (places variant.Port s)) o) [
          | None ↦ λ none. no_port a (is_queued_shown sound held m a here ∙ ap is_some none)
          | Some p ↦ λ there. at_port p there (is_queued_shown sound held m a here ∙ ap is_some there)
        ] refl

-- ---- public ports

pub public_shown : (s : Numbered) (name : List ℕ)
    → port_named name (map (shown_public s) s.ports.public) ≡ option_map (address_in (places variant.Port s)) (find (is_named s.ports.keys name) s.ports.public)
public_shown s name =
    ap (option_map (λ (port : PublicPort). port.port)) (find-map (shown_public s) (is_called name) (is_named s.ports.keys name) s.ports.public
    (each (λ q. is_called name (shown_public s q) ≡ is_named s.ports.keys name q) (λ q. refl) s.ports.public))
    ∙ both (find (is_named s.ports.keys name) s.ports.public)
  where
    both : (o : Option ℕ) → option_map (λ (port : PublicPort). port.port) (option_map (shown_public s) o) ≡ option_map (address_in (places variant.Port s)) o
    both None = refl
    both (Some q) = refl

-- ---- the tasks that wait for a semaphore

pub no_waiter : (q : Semaphores) → sems.IsSoundSemaphores q → (n t : ℕ) → length q.places ≤ t → first (part_from (Some t) (waiters_of n q)) ≡ None
no_waiter q sound n t far = ap first (after_absent t (waiters_of n q)
    (sound.stands n t ∙ ap (λ o. if is_at o n then 1 else 0) (beyond q.places t None far)))

-- ---- the requests that wait

none_found : {A B : Type 0} (f : A → B) (test : B → Bool) (xs : List A) → AllByRecursion (λ x. test (f x) ≡ false) xs → find test (map f xs) ≡ None
none_found f test [] all = refl
none_found f test (x ∷ xs) all = ap (λ b. if b then Some (f x) else find test (map f xs)) all.0 ∙ none_found f test xs all.1

module _ {s : Numbered} (sound : IsSoundHeap s) (request : ℕ) where
  pub due_shown : (r : ℕ) → slot (places variant.Request s) r ≡ Some request → due_of request (shown_timer s) ≡ due_of r s.timing.timer
  unfolding due_of
  due_shown r here =
      ap (option_map (λ (w : Waiting). w.due)) (find-map (shown_waiting s) (λ (w : Waiting). w.request == request) (λ (w : Waiting). w.request == r)
      s.timing.timer.waiting (waiting_apart sound r request here))
      ∙ both (find (λ (w : Waiting). w.request == r) s.timing.timer.waiting)
    where
      both : (o : Option Waiting) → option_map (λ (w : Waiting). w.due) (option_map (shown_waiting s) o) ≡ option_map (λ (w : Waiting). w.due) o
      both None = refl
      both (Some w) = refl

  pub due_none : number_at variant.Request request s.table ≡ None → due_of request (shown_timer s) ≡ None
  unfolding due_of
  due_none none = ap (option_map (λ (w : Waiting). w.due))
      (none_found (shown_waiting s) (λ (w : Waiting). w.request == request) s.timing.timer.waiting
      (waiting_members (λ (w : Waiting). ((shown_waiting s w).request == request) ≡ false) s.timing.timer.waiting (λ w stands.
      let placed = waiting_placed sound w.request stands in
      ne_eqb (address_in (places variant.Request s) w.request) request (λ same.
      let bad : false ≡ true = ap is_some (sym none ∙ number_live sound.table variant.Request w.request request
      (placed.1 ∙ ap Some (ap (λ o. unwrap_or o 0) (sym placed.1) ∙ same))) in cc))))
