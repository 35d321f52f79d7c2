-- What objects by number show by address, kind by kind.
use Rattle.std.proofs.Common.{◌≡◌, ◌≢◌, ℕ, false, map, refl, ap, sym, ◌∙◌, Some, is_some, nat_eq, option_map}
use Rattle.std.specs.List.{AllByRecursion}
use Rattle.execlist.specs.{Lists.sequence, Lists.key_at, Pool.slot}
use Rattle.memlist.specs.{Blocks.block_at, Memory.IsWellFormed}
use Rattle.execmodel.specs.{Lists.is_list_at, Lists.is_node_at, Lists.nodes_of, Lists.nodes_of_object, Lists.key_of, Lists.key_of_object, Ports.content_of, Ports.content_of_object, Ports.is_message_at, Ports.is_port_at, Ports.messages_of, Ports.messages_of_object, Ports.port_of, Ports.port_of_object, Semaphores.is_semaphore_at, Semaphores.sem_of, Semaphores.sem_of_object, Semaphores.waiters_of, Semaphores.waiters_of_object}
use Rattle.msgport.specs.Ports as queue
use Rattle.msgport.specs.Ports.{message_at, port_at}
use Rattle.sigsem.specs.Semaphores as waiting
use Rattle.sigsem.specs.Semaphores.{sem_at}
use Rattle.execheap.specs.{declared.tag.Kind.Kind, declared.tag.Tagged.Tagged, Tags.tag_of, Tags.tagged, Table.Tabled, Table.IsSoundTable, Table.IsTagged, Table.number_at, Table.place_of, Table.slots_of, Numbered.Numbered, Numbered.address_in, Numbered.message_places, Numbered.places, Numbered.shown_heap}
use Rattle.execheap.specs.declared.tag.Kind.TheVariants as variant
use Rattle.execheap.specs.declared.tag.Tagged.TheVariants as tag
use Rattle.execheap.proofs.{Entries.IsFound, Entries.all_found, Entries.all_with, Entries.some_same, Matching.number_small, Showing.kind_shown, Showing.object_numbered, Tagging.either_number, Tagging.is_object, Tagging.object_other, Tagging.object_self, Tagging.read_tag}

module _ (s : Numbered) (a : ℕ) where
  -- ---- of which kind it is

  pub list_at_shown : is_list_at a (shown_heap s) ≡ is_some (number_at variant.List a s.table)
  unfolding is_list_at
  list_at_shown = kind_shown s variant.List a

  pub node_at_shown : is_node_at a (shown_heap s) ≡ is_some (number_at variant.Node a s.table)
  unfolding is_node_at
  node_at_shown = kind_shown s variant.Node a

  pub port_at_shown : is_port_at a (shown_heap s) ≡ is_some (number_at variant.Port a s.table)
  unfolding is_port_at
  port_at_shown = kind_shown s variant.Port a

  pub message_at_shown : is_message_at a (shown_heap s) ≡ is_some (number_at variant.Message a s.table)
  unfolding is_message_at
  message_at_shown = kind_shown s variant.Message a

  pub semaphore_at_shown : is_semaphore_at a (shown_heap s) ≡ is_some (number_at variant.Semaphore a s.table)
  unfolding is_semaphore_at
  semaphore_at_shown = kind_shown s variant.Semaphore a

  -- ---- what it holds

  module _ (n : ℕ) where
    pub nodes_shown : number_at variant.List a s.table ≡ Some n → nodes_of a (shown_heap s) ≡ map (address_in (places variant.Node s)) (sequence s.sequences n)
    unfolding nodes_of
    nodes_shown is = ap nodes_of_object (object_numbered s variant.List a n is)

    pub key_shown : number_at variant.Node a s.table ≡ Some n → key_of a (shown_heap s) ≡ key_at s.keys n
    unfolding key_of
    key_shown is = ap key_of_object (object_numbered s variant.Node a n is)

    pub port_shown : number_at variant.Port a s.table ≡ Some n → port_of a (shown_heap s) ≡ port_at n s.ports
    unfolding port_of
    port_shown is = ap port_of_object (object_numbered s variant.Port a n is)

    pub messages_shown : number_at variant.Port a s.table ≡ Some n
        → messages_of a (shown_heap s) ≡ map (address_in (message_places s)) (queue.messages_of n s.ports)
    unfolding messages_of
    messages_shown is = ap messages_of_object (object_numbered s variant.Port a n is)

    pub content_shown : number_at variant.Message a s.table ≡ Some n → content_of a (shown_heap s) ≡ message_at n s.ports
    unfolding content_of
    content_shown is = ap content_of_object (object_numbered s variant.Message a n is)

    pub sem_shown : number_at variant.Semaphore a s.table ≡ Some n → sem_of a (shown_heap s) ≡ sem_at n s.sems
    unfolding sem_of
    sem_shown is = ap sem_of_object (object_numbered s variant.Semaphore a n is)

    pub waiters_shown : number_at variant.Semaphore a s.table ≡ Some n → waiters_of a (shown_heap s) ≡ waiting.waiters_of n s.sems
    unfolding waiters_of
    waiters_shown is = ap waiters_of_object (object_numbered s variant.Semaphore a n is)

-- ---- exactly one block is an object

module _ {t : Tabled} (sound : IsSoundTable t) (formed : IsWellFormed t.memory.regions t.memory.blocks) (kind : Kind) (number a : ℕ)
    (live : slot (slots_of kind t) number ≡ Some a) where
  -- what is at another address is another object
  elsewhere : (x : Tagged) (b : ℕ) → b ≢ a → place_of x b t ≡ Some b → false ≡ is_object kind number x
  elsewhere tag.Plain b other there = refl
  elsewhere (tag.Library i) b other there = refl
  elsewhere (tag.Object k m) b other there = sym (object_other kind k number m
      (λ e n. other (some_same (sym there ∙ ap (λ j. slot (slots_of j t) m) e ∙ ap (slot (slots_of kind t)) n ∙ live))))

  told : (entry : ℕ × (ℕ × ℕ)) → IsFound t.memory.blocks entry → IsTagged t entry → nat_eq entry.0 a ≡ is_object kind number (tagged entry.1.1)
  told entry found there = either_number entry.0 a (λ b. b ≡ is_object kind number (tagged entry.1.1))
      (λ same. let tag : entry.1.1 ≡ tag_of kind number = some_same (ap (option_map (λ (block : ℕ × ℕ). block.1))
      (sym (ap (λ b. block_at b t.memory.blocks) (sym same) ∙ found)) ∙ sound.matched.complete kind number a live) in
      sym (ap (λ x. is_object kind number (tagged x)) tag ∙ ap (is_object kind number) (read_tag kind number (number_small sound kind number a live)) ∙ object_self kind number))
      (λ other. elsewhere (tagged entry.1.1) entry.0 other there.0)

  pub tells : AllByRecursion (λ (entry : ℕ × (ℕ × ℕ)). nat_eq entry.0 a ≡ is_object kind number (tagged entry.1.1)) t.memory.blocks
  tells = all_with (λ entry found there. told entry found there) t.memory.blocks (all_found t.memory.blocks formed.in_order) sound.matched.tagged
