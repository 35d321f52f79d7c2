-- What shows the same if others change.
use Rattle.std.proofs.Common.{◌≡◌, ℕ, List, true, false, map, ap, refl, sym, ◌∙◌, Some, None, Option, if◌then◌else◌, IsSome, unwrap_or, ◌==◌, ◌++◌}
use Rattle.std.specs.List.{list_any}
use Rattle.execlist.specs.{Lists.home, Lists.is_at, Lists.sequence, Lists.times, Lists.key_at, Pool.slot}
use Rattle.msgport.specs.Ports.{messages_of, port_at}
use Rattle.timerdev.specs.Timing.{Waiting, is_waiting}
use Rattle.execmodel.specs.State.{ListHead, MsgPort}
use Rattle.execheap.specs.{declared.tag.Kind.Kind, Table.Tabled, Table.slots_of, Numbered.Numbered, Numbered.address_in, Numbered.object_of, Numbered.places, Numbered.shown_public, Numbered.shown_timer, Numbered.shown_waiting}
use Rattle.execheap.specs.declared.tag.Kind.TheVariants as variant
use Rattle.execheap.proofs.{Mapped.map_agree, Mapped.members, Mapped.stands_by_times, Waits.waiting_members}

-- ---- objects that show the addresses of others

-- an object shows the same if nodes, messages and requests keep their addresses
pub objects_kept : (s : Numbered) (t : Tabled) → slots_of variant.Node t ≡ places variant.Node s → slots_of variant.Message t ≡ places variant.Message s
    → slots_of variant.Request t ≡ places variant.Request s → (k : Kind) (m : ℕ) → object_of k m (record s { table = t }) ≡ object_of k m s
objects_kept s t nodes messages requests variant.List m = ap (λ all. ListHead (map (address_in all) (sequence s.sequences m))) nodes
objects_kept s t nodes messages requests variant.Port m =
    λ i. MsgPort (port_at m s.ports) (map (address_in (messages i ++ requests i)) (messages_of m s.ports))
objects_kept s t nodes messages requests _ m = refl

-- the public ports show the same if ports keep their addresses
pub public_kept : (s u : Numbered) → places variant.Port u ≡ places variant.Port s → u.ports.keys ≡ s.ports.keys → u.ports.public ≡ s.ports.public
    → map (shown_public u) u.ports.public ≡ map (shown_public s) s.ports.public
public_kept s u ports keys public = λ i. map (λ p. record { port = address_in (ports i) p; key = key_at (keys i) p }) (public i)

-- the timer shows the same if requests keep their addresses
pub timer_kept : (s u : Numbered) → places variant.Request u ≡ places variant.Request s → u.timing ≡ s.timing → shown_timer u ≡ shown_timer s
timer_kept s u requests timing = λ i. record (timing i).timer {
  waiting = map (λ (w : Waiting). record w { request = address_in (requests i) w.request }) (timing i).timer.waiting;
}

-- the timer shows the same if those that wait keep their addresses
pub timer_beside : (s u : Numbered) → u.timing ≡ s.timing
    → ((r : ℕ) → is_waiting r s.timing.timer ≡ true → slot (places variant.Request u) r ≡ slot (places variant.Request s) r)
    → shown_timer u ≡ shown_timer s
timer_beside s u timing same =
    ap (λ timing. shown_timer (record u { timing = timing })) timing
    ∙ ap (λ waiting. record s.timing.timer { waiting = waiting })
    (map_agree (shown_waiting (record u { timing = s.timing })) (shown_waiting s) s.timing.timer.waiting
    (waiting_members (λ w. shown_waiting (record u { timing = s.timing }) w ≡ shown_waiting s w) s.timing.timer.waiting
    (λ w there. λ i. record w { request = unwrap_or (same w.request there i) 0 })))

-- objects of some numbers have the same addresses if those of these numbers do
pub addresses_kept : (all other : List (Option ℕ)) (numbers : List ℕ)
    → ((m : ℕ) → list_any (λ other. other == m) numbers ≡ true → slot other m ≡ slot all m)
    → map (address_in other) numbers ≡ map (address_in all) numbers
addresses_kept all other numbers same = map_agree (address_in other) (address_in all) numbers
    (members (λ m. address_in other m ≡ address_in all m) numbers (λ m there. ap (λ o. unwrap_or o 0) (same m there)))

-- ---- the addresses of the nodes of a list

pub at_home : (o : Option ℕ) (h : ℕ) → is_at o h ≡ true → IsSome o
at_home None h e = let bad : false ≡ true = e in cc
at_home (Some k) h e = refl

-- a list shows the same nodes if those that are linked keep their addresses
pub nodes_beside : (s : Numbered) (t : Tabled) (h : ℕ) → ((n : ℕ) → times n (sequence s.sequences h) ≡ (if is_at (home s.homes n) h then 1 else 0))
    → ((m : ℕ) → IsSome (home s.homes m) → slot (slots_of variant.Node t) m ≡ slot (places variant.Node s) m)
    → map (address_in (slots_of variant.Node t)) (sequence s.sequences h) ≡ map (address_in (places variant.Node s)) (sequence s.sequences h)
nodes_beside s t h stands same = addresses_kept (places variant.Node s) (slots_of variant.Node t) (sequence s.sequences h)
    (λ m there. same m (at_home (home s.homes m) h (sym (stands_by_times m (sequence s.sequences h) (is_at (home s.homes m) h) (stands m)) ∙ there)))
