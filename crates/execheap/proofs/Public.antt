-- Public ports: by number and by address they are the same, in one order.
use Rattle.std.proofs.Common.{◌≡◌, ℕ, ◌<◌, List, [], ◌∷◌, Bool, true, false, cond, map, length, refl, ap, sym, ◌∙◌, ℤ, Some, None, Option, codes, filter, find, if◌then◌else◌, is_some, not, option_map, unwrap_or, ◌==◌, ◌||◌, ◌≢◌, IsTrue, get_or-set_other}
use Rattle.std.specs.List.{AllByRecursion, list_any}
use Rattle.std.proofs.lemmas.Grind.{get_or-set_at}
use Rattle.execlist.specs.{Order.enqueue, Order.first, Lists.KeyData, Lists.blank, Lists.is_named, Lists.pri_of, Pool.slot}
use Rattle.msgport.specs.Ports as ports
use Rattle.msgport.specs.Ports.{MessagePorts, keyed, made_private, made_public}
use Rattle.execmodel.specs.{State.Memory, State.PublicPort, Lists.or_none, Ports.add_port_alert, Ports.delete_alert, Ports.is_called, Ports.is_port_at, Ports.is_public, Ports.port_alert, Ports.port_or_none, Ports.priority_of_public, Ports.rem_port_alert, Ports.under, Tasks.is_priority}
use Rattle.execmodel.specs.Ports as model
use Rattle.execheap.specs.declared.tag.Kind.TheVariants as variant
use Rattle.execheap.specs.Numbered.{Numbered, IsSoundHeap, address_in, message_places, shown_heap, shown_memory, shown_public, places}
use Rattle.execheap.specs.{Changes.on_ports, Listing.listed}
use Rattle.iorequest.specs.Requests.{is_under_way_at}
use Rattle.execheap.proofs.{AwaitedPorts.awaited_shown, Alerts.handle_unless, Alerts.is_some_map, Alerts.is_there, Alerts.link_if, Alerts.refused_first, Mapped.Alike, Mapped.alike_apart, Mapped.cond-map, Mapped.enqueue-map, Mapped.find-map, Mapped.first-map, Mapped.map_agree, Mapped.members, Mapped.stands_by_times, Posted.heap_beside, Posted.objects_beside, Queued.port_placed, Matching.number_live, Matching.number_same, Shown.messages_shown}
use Rattle.script.specs.declared.alert.Alert.TheVariants as an_alert
use Rattle.script.specs.declared.alert.Alert.{Alert}

-- ---- sequences

-- those that pass a test of what represents them
pub filter-map : {A B : Type 0} (f : A → B) (other : B → Bool) (wanted : A → Bool) (xs : List A) → AllByRecursion (λ x. other (f x) ≡ wanted x) xs
    → filter other (map f xs) ≡ map f (filter wanted xs)
filter-map f other wanted [] same = refl
filter-map f other wanted (x ∷ xs) same =
    (λ i. cond (same.0 i) (f x ∷ filter-map f other wanted xs same.1 i) (filter-map f other wanted xs same.1 i))
    ∙ cond-map (map f) (wanted x) (x ∷ filter wanted xs) (filter wanted xs)

any-map : {A B : Type 0} (f : A → B) (other : B → Bool) (wanted : A → Bool) (xs : List A) → AllByRecursion (λ x. other (f x) ≡ wanted x) xs
    → list_any other (map f xs) ≡ list_any wanted xs
any-map f other wanted [] same = refl
any-map f other wanted (x ∷ xs) same = λ i. same.0 i || any-map f other wanted xs same.1 i

pub each : {A : Type 0} (P : A → Type 0) → ((x : A) → P x) → (xs : List A) → AllByRecursion P xs
each P all [] = tt
each P all (x ∷ xs) = (all x, each P all xs)

-- ---- one test of a call

-- a port must not be in use, and then come the other tests
abbrev port_if : Bool → Option Alert → Option Alert
port_if used next = if used then Some an_alert.Port else next

-- the tests of a port that is to be freed
abbrev in_use : ℕ → Memory → Option Alert
in_use port memory =
    port_if (is_some (first (model.messages_of port memory.heap))) (port_if (is_public port memory) (port_if (model.is_awaited_at port memory.heap) None))

either_use : (has public awaited : Bool) → port_if has (port_if public (port_if awaited None)) ≡ port_if (has || (public || awaited)) None
either_use true public awaited = refl
either_use false true awaited = refl
either_use false false awaited = refl

-- a priority is to be one, and then come the other tests
abbrev value_unless : Bool → Option Alert → Option Alert
value_unless fits next = if not fits then Some an_alert.Value else next

module _ {s : Numbered} (sound : IsSoundHeap s) (held : ports.IsSoundPorts s.ports) where
  -- ---- which ports are public

  -- a port is among the public ones if it is public
  pub stands_public : (p : ℕ) → list_any (λ other. other == p) s.ports.public ≡ ports.is_public p s.ports
  stands_public p = stands_by_times p s.ports.public (ports.is_public p s.ports) (held.stands_public p)

  -- and lives
  pub public_lives : (p : ℕ) → list_any (λ other. other == p) s.ports.public ≡ true → IsTrue (ports.is_port p s.ports)
  public_lives p stands = held.live_public p (sym (stands_public p) ∙ stands)

  -- one that is not public is none of them
  pub no_public : (p : ℕ) → IsTrue (not (ports.is_public p s.ports)) → (q : ℕ) → list_any (λ other. other == q) s.ports.public ≡ true → q ≢ p
  no_public p private q stands same =
      let bad : true ≡ false = sym private ∙ ap not (sym (stands_public p) ∙ ap (λ r. list_any (λ other. other == r) s.ports.public) (sym same) ∙ stands) in cc

  module _ (p port : ℕ) (here : slot (places variant.Port s) p ≡ Some port) where
    address_is : address_in (places variant.Port s) p ≡ port
    address_is = ap (λ o. unwrap_or o 0) here

    apart : (q : ℕ) → IsTrue (ports.is_port q s.ports) → address_in (places variant.Port s) q ≡ address_in (places variant.Port s) p → q ≡ p
    apart q there same =
        let other = port_placed sound held q there in
        number_same sound.table variant.Port q p port
        (other.1 ∙ ap Some (ap (λ o. unwrap_or o 0) (sym other.1) ∙ same ∙ address_is)) here

    ports_apart : Alike (address_in (places variant.Port s)) p s.ports.public
    ports_apart = alike_apart (address_in (places variant.Port s)) p s.ports.public (λ q stands same. apart q (public_lives q stands) same)

    -- a public port is reported by its address
    told_public : AllByRecursion (λ q. ((shown_public s q).port == port) ≡ (q == p)) s.ports.public
    told_public = subst_address (sym address_is) ports_apart
      where
        subst_address : {a : ℕ} → port ≡ a → AllByRecursion (λ q. (address_in (places variant.Port s) q == a) ≡ (q == p)) s.ports.public
            → AllByRecursion (λ q. (address_in (places variant.Port s) q == port) ≡ (q == p)) s.ports.public
        subst_address same all = rw same all

    pub is_public_shown : is_public port (shown_memory s) ≡ ports.is_public p s.ports
    is_public_shown =
        any-map (shown_public s) (λ (public : PublicPort). public.port == port) (λ q. q == p) s.ports.public told_public ∙ stands_public p

    -- ---- a port that is public no more

    pub made_private_shown : shown_memory (on_ports (made_private p) s) ≡ model.made_private port (shown_memory s)
    unfolding model.made_private
    made_private_shown = heap_beside s (made_private p s.ports) (shown_heap s) (objects_beside s (made_private p s.ports) refl refl refl)
        (sym (filter-map (shown_public s) (λ (public : PublicPort). not (public.port == port)) (λ q. not (q == p)) s.ports.public
        (negated s.ports.public told_public)))
      where
        negated : (xs : List ℕ) → AllByRecursion (λ q. ((shown_public s q).port == port) ≡ (q == p)) xs
            → AllByRecursion (λ q. not ((shown_public s q).port == port) ≡ not (q == p)) xs
        negated [] all = tt
        negated (x ∷ xs) all = (ap not all.0, negated xs all.1)

    -- ---- a port that becomes public

    module _ (name : List ℕ) (pri : ℤ) (known : p < length s.ports.keys) (private : IsTrue (not (ports.is_public p s.ports))) where
      abbrev public_now : Numbered
      public_now = on_ports (made_public p name pri) s

      -- those that were public show the same
      public_before : AllByRecursion (λ q. shown_public public_now q ≡ shown_public s q) s.ports.public
      public_before = members (λ q. shown_public public_now q ≡ shown_public s q) s.ports.public
          (λ q stands. ap (λ (key : KeyData). record { port = address_in (places variant.Port s) q; key = key })
          (get_or-set_other s.ports.keys p q (record { pri = pri; name = Some name }) blank (no_public p private q stands)))

      own_public : shown_public public_now p ≡ under port name pri
      own_public = λ i. record { port = address_is i; key = get_or-set_at s.ports.keys p p (record { pri = pri; name = Some name }) blank refl known i }

      public_put : map (shown_public public_now) (enqueue (pri_of (keyed p name pri s.ports.keys)) s.ports.public p)
          ≡ enqueue priority_of_public (map (shown_public s) s.ports.public) (under port name pri)
      public_put =
          sym (enqueue-map (shown_public public_now) priority_of_public (pri_of (keyed p name pri s.ports.keys)) s.ports.public p
          (each (λ q. priority_of_public (shown_public public_now q) ≡ pri_of (keyed p name pri s.ports.keys) q) (λ q. refl) s.ports.public) refl)
          ∙ ap (λ all. enqueue priority_of_public all (shown_public public_now p)) (map_agree (shown_public public_now) (shown_public s) s.ports.public public_before)
          ∙ ap (enqueue priority_of_public (map (shown_public s) s.ports.public)) own_public

      pub made_public_shown : shown_memory public_now ≡ listed port name pri (shown_memory s)
      unfolding listed
      made_public_shown =
          heap_beside s (made_public p name pri s.ports) (shown_heap s) (objects_beside s (made_public p name pri s.ports) refl refl refl) public_put

    -- ---- the alerts of a port that begins at the address

    module _ (there : port_alert port (shown_heap s) ≡ None) where
      begins : is_port_at port (shown_heap s) ≡ true
      unfolding port_alert
      begins = is_there (is_port_at port (shown_heap s)) there

      pub delete_found : {used : Bool}
          → (ports.has_messages p s.ports || (ports.is_public p s.ports || list_any (is_under_way_at port) s.requests.slots)) ≡ used
          → delete_alert port (shown_memory s) ≡ port_if used None
      unfolding delete_alert
      delete_found is =
          ap (λ b. handle_unless b (in_use port (shown_memory s))) begins
          ∙ (λ i. port_if (has_shown i) (port_if (is_public_shown i) (port_if (awaited_shown sound port i) None)))
          ∙ either_use (ports.has_messages p s.ports) (ports.is_public p s.ports) (list_any (is_under_way_at port) s.requests.slots)
          ∙ ap (λ b. port_if b None) is
        where
          has_shown : is_some (first (model.messages_of port (shown_heap s))) ≡ ports.has_messages p s.ports
          has_shown =
              ap (λ messages. is_some (first messages)) (messages_shown s port p (number_live sound.table variant.Port p port here))
              ∙ ap is_some (first-map (address_in (message_places s)) (ports.messages_of p s.ports))
              ∙ is_some_map (address_in (message_places s)) (first (ports.messages_of p s.ports))

      pub private_found : (pri : ℤ) {public : Bool} → is_priority pri ≡ true → ports.is_public p s.ports ≡ public
          → add_port_alert port pri (shown_memory s) ≡ link_if public None
      unfolding add_port_alert
      private_found pri fits is =
          ap (λ b. handle_unless b (value_unless (is_priority pri) (link_if (is_public port (shown_memory s)) None))) begins
          ∙ (λ i. value_unless (fits i) (link_if ((is_public_shown ∙ is) i) None))

      pub public_found : {public : Bool} → ports.is_public p s.ports ≡ public → rem_port_alert port (shown_memory s) ≡ (if public then None else Some an_alert.Link)
      unfolding rem_port_alert
      public_found is =
          ap (λ b. handle_unless b (if is_public port (shown_memory s) then None else Some an_alert.Link)) begins
          ∙ ap (λ b. if b then None else Some an_alert.Link) (is_public_shown ∙ is)

-- ---- the alerts if no port begins at the address

module _ (port : ℕ) (memory : Memory) {why : Alert} (refused : port_alert port memory.heap ≡ Some why) where
  pub delete_refused : delete_alert port memory ≡ Some why
  unfolding delete_alert port_alert
  delete_refused = refused_first (is_port_at port memory.heap) (in_use port memory) refused

  pub private_refused : (pri : ℤ) → add_port_alert port pri memory ≡ Some why
  unfolding add_port_alert port_alert
  private_refused pri =
      refused_first (is_port_at port memory.heap) (value_unless (is_priority pri) (link_if (is_public port memory) None)) refused

  pub public_refused : rem_port_alert port memory ≡ Some why
  unfolding rem_port_alert port_alert
  public_refused = refused_first (is_port_at port memory.heap) (if is_public port memory then None else Some an_alert.Link) refused

-- ---- the public port of a name

named_public : (s : Numbered) (o : Option ℕ) → port_or_none (option_map (shown_public s) o) ≡ or_none (option_map (address_in (places variant.Port s)) o)
named_public s None = refl
named_public s (Some p) = refl

pub found_public : (s : Numbered) (name : List ℕ)
    → port_or_none (find (is_called name) (map (shown_public s) s.ports.public)) ≡ or_none (option_map (address_in (places variant.Port s)) (find (is_named s.ports.keys name) s.ports.public))
found_public s name =
    ap port_or_none (find-map (shown_public s) (is_called name) (is_named s.ports.keys name) s.ports.public
    (each (λ q. is_called name (shown_public s q) ≡ is_named s.ports.keys name q) (λ q. refl) s.ports.public))
    ∙ named_public s (find (is_named s.ports.keys name) s.ports.public)
