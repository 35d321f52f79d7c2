-- Nodes made and freed.
use Rattle.std.proofs.Common.{◌≡◌, ◌≢◌, ℕ, ◌<◌, List, true, false, length, map, refl, ap, sym, ◌∙◌, arith, Some, None, is_some, slice_set, ◌++◌, get_or-set_other, get_or-set_same}
use Rattle.execlist.specs.{Lists.KeyData, Lists.blank, Lists.home, Pool.slot}
use Rattle.execmodel.specs.{State.ListHead, State.MsgPort, State.Node, Memory.freed, Memory.placed}
use Rattle.msgport.specs.Ports.{messages_of, port_at}
use Rattle.execheap.specs.{declared.tag.Kind.Kind, Table.Tabled, Numbered.Numbered, Numbered.IsKept, Numbered.address_in, Numbered.object_of, Numbered.places, Numbered.shown_memory}
use Rattle.execheap.specs.declared.tag.Kind.TheVariants as variant
use Rattle.execheap.proofs.{Beside.nodes_beside, Beside.public_kept, Beside.timer_kept, InTime.along_same, Lists.Stands, Made.IsMade, Made.IsFreed, Made.IsLoose, Made.own_kept, Made.within, Made.not_new, Made.apart, Made.beside, Made.shown_new, Made.apart_left, Made.beside_left, Made.kept_left, Made.shown_left}

-- a node is in no list
node_loose : (s : Numbered) (n : ℕ) → home s.homes n ≡ None → IsLoose variant.Node n s
node_loose s n none m linked same = let bad : true ≡ false = sym linked ∙ ap (λ r. is_some (home s.homes r)) same ∙ ap is_some none in cc

module _ {s : Numbered} {n a : ℕ} {t : Tabled} where
  module _ (made : IsMade variant.Node s n a t) where
    pub node_known : n < length s.homes
    node_known = omega (arith, within made, made.sound.each variant.Node, made.kept.each_node)

    pub node_made_shown : Stands s → (key : KeyData) → length s.keys ≡ length s.homes
        → shown_memory (record s { table = t; keys = slice_set s.keys n key }) ≡ placed 14 (Node key) (Some a) (shown_memory s)
    node_made_shown stands key keyed =
        shown_new made (record s { table = t; keys = slice_set s.keys n key }) (Node key) refl refl others
        (ap Node (get_or-set_same s.keys n key blank (omega (arith, node_known, keyed))))
        (public_kept s (record s { table = t; keys = slice_set s.keys n key }) (apart made variant.Port (omega arith)) refl refl)
        (timer_kept s (record s { table = t; keys = slice_set s.keys n key }) (apart made variant.Request (omega arith)) refl)
      where
        others : (k : Kind) (m b : ℕ) → slot (places k s) m ≡ Some b → object_of k m (record s { table = t; keys = slice_set s.keys n key }) ≡ object_of k m s
        others variant.List m b lives = ap ListHead (nodes_beside s t m (stands m)
            (λ r linked. beside made variant.Node r (λ e. not_new made r (made.kept.live_nodes r linked))))
        others variant.Node m b lives = ap Node (get_or-set_other s.keys n m key blank (not_new made m (ap is_some lives)))
        others variant.Port m b lives = λ i. MsgPort (port_at m s.ports)
            (map (address_in (apart made variant.Message (omega arith) i ++ apart made variant.Request (omega arith) i)) (messages_of m s.ports))
        others _ m b lives = refl

  module _ (gone : IsFreed variant.Node s n a t) (none : home s.homes n ≡ None) where
    pub node_freed_shown : Stands s → shown_memory (record s { table = t }) ≡ freed a (shown_memory s)
    node_freed_shown stands = shown_left gone (record s { table = t }) refl refl others
        (public_kept s (record s { table = t }) (apart_left gone variant.Port (omega arith)) refl refl)
        (timer_kept s (record s { table = t }) (apart_left gone variant.Request (omega arith)) refl)
      where
        others : (k : Kind) (m b : ℕ) → (k ≡ variant.Node → m ≢ n) → slot (places k s) m ≡ Some b → object_of k m (record s { table = t }) ≡ object_of k m s
        others variant.List m b other lives = ap ListHead (nodes_beside s t m (stands m)
            (λ r linked. beside_left gone variant.Node r (λ e. node_loose s n none r linked)))
        others variant.Port m b other lives = λ i. MsgPort (port_at m s.ports)
            (map (address_in (apart_left gone variant.Message (omega arith) i ++ apart_left gone variant.Request (omega arith) i)) (messages_of m s.ports))
        others _ m b other lives = refl

    pub node_freed_kept : IsKept (record s { table = t })
    node_freed_kept = kept_left gone (record s { table = t }) refl refl refl (λ k other. own_kept s (record s { table = t }) (ap (λ u. u.pool) gone.is) refl refl refl k) tt
        (node_loose s n none) gone.kept.apt (along_same refl refl refl)
