-- What is in a port, a message or a request: by number it has a place, by address one port has it.
use Rattle.std.proofs.Common.{◌≡◌, ℕ, [], ◌∷◌, Bool, true, false, map, refl, ap, sym, ◌∙◌, Some, None, is_some, ◌==◌, ◌||◌, unwrap_or, IsTrue}
use Rattle.std.specs.List.{list_any}
use Rattle.execlist.specs.{Lists.home, Lists.is_at, Pool.slot}
use Rattle.memlist.specs.Blocks.{Blocks}
use Rattle.memlist.proofs.Answered.{nat_eq-same}
use Rattle.msgport.specs.Ports as ports
use Rattle.msgport.specs.Ports.{messages_of}
use Rattle.execmodel.specs.Ports.{has_message, is_queued, messages_in}
use Rattle.execheap.specs.declared.tag.Kind.TheVariants as variant
use Rattle.execheap.specs.Numbered.{Numbered, IsSoundHeap, address_in, message_places, shown_entry, shown_heap, shown_tagged, places}
use Rattle.execheap.specs.{declared.tag.Tagged.Tagged, Tags.tag_of, Tags.tagged, Table.pool_of}
use Rattle.execheap.specs.declared.tag.Tagged.TheVariants as tag
use Rattle.execheap.proofs.{Linked.any_found, Linked.some_is, Stepping.shape_lives, Mapped.stands-map, Matching.number_small, MessagePlaces.messages_apart, MessagePlaces.stands_in_port, Tagging.read_tag}

-- ---- the port that has an address, among entries

-- an address is among the messages of an object
abbrev pub Has : ℕ → Numbered → Tagged → Bool
Has a s x = list_any (λ other. other == a) (messages_in (shown_tagged s x))

in_entries : (s : Numbered) (a : ℕ) → (es : Blocks)
    → list_any (has_message a) (map (shown_entry s) es) ≡ list_any (λ (e : ℕ × (ℕ × ℕ)). Has a s (tagged e.1.1)) es
in_entries s a [] = refl
in_entries s a (e ∷ es) = ap (λ b. Has a s (tagged e.1.1) || b) (in_entries s a es)

in_none : (test : Tagged → Bool) → ((x : Tagged) → test x ≡ false) → (es : Blocks) → list_any (λ (e : ℕ × (ℕ × ℕ)). test (tagged e.1.1)) es ≡ false
in_none test none [] = refl
in_none test none (e ∷ es) = ap (λ b. b || list_any (λ (f : ℕ × (ℕ × ℕ)). test (tagged f.1.1)) es) (none (tagged e.1.1)) ∙ in_none test none es

at_self : (p : ℕ) → is_at (Some p) p ≡ true
at_self p = nat_eq-same p

module _ {s : Numbered} (sound : IsSoundHeap s) (held : ports.IsSoundPorts s.ports) where
  -- a port that lives has an address
  pub port_placed : (p : ℕ) → IsTrue (ports.is_port p s.ports) → (a : ℕ) × (slot (places variant.Port s) p ≡ Some a)
  port_placed p live = some_is (slot (places variant.Port s) p) (shape_lives (pool_of variant.Port s.table) s.ports.ports (sound.kept.in_step variant.Port) p ∙ live)

  module _ (m a : ℕ) (here : slot (message_places s) m ≡ Some a) where
    -- an address is in the messages of a port if its number has that port
    pub has_shown : (p : ℕ) → list_any (λ other. other == a) (map (address_in (message_places s)) (messages_of p s.ports)) ≡ is_at (home s.ports.places m) p
    has_shown p =
        ap (λ x. list_any (λ other. other == x) (map (address_in (message_places s)) (messages_of p s.ports))) (sym (ap (λ o. unwrap_or o 0) here))
        ∙ stands-map (address_in (message_places s)) m (messages_of p s.ports) (messages_apart sound held p m a here) ∙ stands_in_port sound held p m

    has_nowhere : home s.ports.places m ≡ None → (x : Tagged) → Has a s x ≡ false
    has_nowhere none (tag.Object variant.Port j) = has_shown j ∙ ap (λ o. is_at o j) none
    has_nowhere none _ = refl

    queued_there : (p : ℕ) → home s.ports.places m ≡ Some p → is_queued a (shown_heap s) ≡ true
    unfolding shown_heap is_queued
    queued_there p there =
        let port = port_placed p (held.live_port m p there) in
        in_entries s a s.table.memory.blocks
        ∙ any_found (Has a s) port.0 (tag_of variant.Port p) s.table.memory.blocks
        (ap (Has a s) (read_tag variant.Port p (number_small sound.table variant.Port p port.0 port.1))
        ∙ has_shown p ∙ ap (λ o. is_at o p) there ∙ at_self p)
        (sound.table.matched.complete variant.Port p port.0 port.1)

    queued_nowhere : home s.ports.places m ≡ None → is_queued a (shown_heap s) ≡ false
    unfolding shown_heap is_queued
    queued_nowhere none = in_entries s a s.table.memory.blocks ∙ in_none (Has a s) (has_nowhere none) s.table.memory.blocks

    -- it is queued by address if it is by number
    pub is_queued_shown : is_queued a (shown_heap s) ≡ ports.is_queued m s.ports
    is_queued_shown = elim (home s.ports.places m) as (λ o. home s.ports.places m ≡ o → is_queued a (shown_heap s) ≡ is_some o) [
      | None ↦ λ none. queued_nowhere none
      | Some p ↦ λ there. queued_there p there
    ] refl
