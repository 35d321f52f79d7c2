-- A node that is linked: by number it has a home, by address one list has it.
use Rattle.std.proofs.Common.{◌≡◌, ℕ, List, [], ◌∷◌, Bool, true, false, cond, map, refl, ap, sym, ◌∙◌, Some, None, Option, is_some, nat_eq, ◌==◌, ◌||◌, if◌then◌else◌, unwrap_or, IsSome, option_map, nat_cmp}
use Rattle.std.specs.{List.list_any, Ordering.eq_by_cmp, FinMap.find}
use Rattle.execlist.specs.{Lists.home, Lists.is_at, Lists.sequence, Pool.slot}
use Rattle.memlist.specs.Blocks.{Blocks}
use Rattle.memlist.proofs.Answered.{nat_eq-other, nat_eq-same}
use Rattle.execmodel.specs.Lists.{is_linked, nodes_in, sequence_with, is_in_nodes}
use Rattle.execheap.specs.declared.tag.Kind.TheVariants as variant
use Rattle.execheap.specs.Numbered.{Numbered, IsSoundHeap, IsSpace, address_in, places, shown_entry, shown_heap, shown_tagged}
use Rattle.execheap.specs.{declared.tag.Tagged.Tagged, Tags.tag_of, Tags.tagged, Table.tag_at}
use Rattle.execheap.specs.declared.tag.Tagged.TheVariants as tag
use Rattle.execheap.proofs.{Entries.some_same, Beside.at_home, Mapped.Alike, Mapped.alike_apart, Mapped.stands-map, Mapped.stands_by_times, Matching.number_same, Matching.number_small, Tagging.either_number, Tagging.read_tag}

pub some_is : {A : Type 0} (o : Option A) → IsSome o → (a : A) × (o ≡ Some a)
some_is None there = let bad : false ≡ true = there in cc
some_is (Some a) there = (a, refl)

or_true : (b : Bool) → b || true ≡ true
or_true true = refl
or_true false = refl

pub turned : (a b : ℕ) → (a == b) ≡ nat_eq b a
turned a b = either_number b a (λ c. (a == b) ≡ c)
    (λ same. ap (λ z. a == z) same ∙ nat_eq-same a)
    (λ other. nat_eq-other a b (λ same. other (sym same)))

-- ---- what begins somewhere, among entries

-- a tag that passes a test is among the blocks if what begins at an address has it
pub any_found : (test : Tagged → Bool) (b t : ℕ) (es : Blocks) → test (tagged t) ≡ true → tag_at b es ≡ Some t
    → list_any (λ (e : ℕ × (ℕ × ℕ)). test (tagged e.1.1)) es ≡ true
any_found test b t [] holds is = let bad : false ≡ true = ap is_some is in cc
any_found test b t (e ∷ es) holds is = elim (eq_by_cmp nat_cmp b e.0)
    as (λ c. option_map (λ (block : ℕ × ℕ). block.1) (cond c (Some e.1) (find nat_cmp b es)) ≡ Some t
    → test (tagged e.1.1) || list_any (λ (f : ℕ × (ℕ × ℕ)). test (tagged f.1.1)) es ≡ true) [
      | true ↦ λ here. ap (λ c. c || list_any (λ (f : ℕ × (ℕ × ℕ)). test (tagged f.1.1)) es) (ap (λ x. test (tagged x)) (some_same here) ∙ holds)
      | false ↦ λ there. ap (λ c. test (tagged e.1.1) || c) (any_found test b t es holds there) ∙ or_true (test (tagged e.1.1))
    ] is

-- ---- the list that has an address, among entries

module _ (s : Numbered) (a : ℕ) where
  -- what a tag names has the address among its nodes
  abbrev has : Tagged → Bool
  has x = is_in_nodes a (nodes_in (shown_tagged s x))

  in_no_list : ((x : Tagged) → has x ≡ false) → (es : Blocks) → sequence_with a (map (shown_entry s) es) ≡ []
  unfolding sequence_with
  in_no_list nowhere [] = refl
  in_no_list nowhere (e ∷ es) =
      ap (λ b. if b then nodes_in (shown_tagged s (tagged e.1.1)) else sequence_with a (map (shown_entry s) es)) (nowhere (tagged e.1.1))
      ∙ in_no_list nowhere es

  in_one_list : (nodes : List ℕ) → ((x : Tagged) → has x ≡ true → nodes_in (shown_tagged s x) ≡ nodes) → (es : Blocks)
      → list_any (λ (e : ℕ × (ℕ × ℕ)). has (tagged e.1.1)) es ≡ true → sequence_with a (map (shown_entry s) es) ≡ nodes
  unfolding sequence_with
  in_one_list nodes one [] any = let bad : false ≡ true = any in cc
  in_one_list nodes one (e ∷ es) any = elim (has (tagged e.1.1))
      as (λ b. has (tagged e.1.1) ≡ b → b || list_any (λ (f : ℕ × (ℕ × ℕ)). has (tagged f.1.1)) es ≡ true
      → (if b then nodes_in (shown_tagged s (tagged e.1.1)) else sequence_with a (map (shown_entry s) es)) ≡ nodes) [
        | true ↦ λ here rest. one (tagged e.1.1) here
        | false ↦ λ here rest. in_one_list nodes one es rest
      ] refl any

module _ {s : Numbered} (sound : IsSoundHeap s) (space : IsSpace s) where
  -- ---- nodes by number

  -- a node that is in a sequence has that list as its home
  pub stands_at : (h n : ℕ) → list_any (λ other. other == n) (sequence s.sequences h) ≡ is_at (home s.homes n) h
  stands_at h n = stands_by_times n (sequence s.sequences h) (is_at (home s.homes n) h) (space.stands h n)

  -- a node that is in a sequence lives
  pub standing_lives : (h n : ℕ) → list_any (λ other. other == n) (sequence s.sequences h) ≡ true → IsSome (slot (places variant.Node s) n)
  standing_lives h n stands = sound.kept.live_nodes n (at_home (home s.homes n) h (sym (stands_at h n) ∙ stands))

  -- the address of a live node is that of no other node that lives
  apart : (n m a : ℕ) → slot (places variant.Node s) n ≡ Some a → IsSome (slot (places variant.Node s) m) → address_in (places variant.Node s) m ≡ address_in (places variant.Node s) n → m ≡ n
  apart n m a here there same =
      let other = some_is (slot (places variant.Node s) m) there in
      number_same sound.table variant.Node m n a (other.1 ∙ ap Some (ap (λ o. unwrap_or o 0) (sym other.1) ∙ same ∙ ap (λ o. unwrap_or o 0) here)) here

  -- the members of a sequence are distinguished from a live node by their addresses
  pub told_apart : (h n a : ℕ) → slot (places variant.Node s) n ≡ Some a → Alike (address_in (places variant.Node s)) n (sequence s.sequences h)
  told_apart h n a here = alike_apart (address_in (places variant.Node s)) n (sequence s.sequences h)
      (λ m stands same. apart n m a here (standing_lives h m stands) same)

  -- ---- nodes by address

  -- an address is in the nodes of a list if the node's home is that list
  pub stands_shown : (h n a : ℕ) → slot (places variant.Node s) n ≡ Some a
      → is_in_nodes a (map (address_in (places variant.Node s)) (sequence s.sequences h)) ≡ is_at (home s.homes n) h
  stands_shown h n a here =
      ap (λ x. is_in_nodes x (map (address_in (places variant.Node s)) (sequence s.sequences h))) (sym (ap (λ o. unwrap_or o 0) here))
      ∙ stands-map (address_in (places variant.Node s)) n (sequence s.sequences h) (told_apart h n a here) ∙ stands_at h n

  nowhere : (n a : ℕ) → slot (places variant.Node s) n ≡ Some a → home s.homes n ≡ None → (x : Tagged) → has s a x ≡ false
  nowhere n a here none (tag.Object variant.List m) = stands_shown m n a here ∙ ap (λ o. is_at o m) none
  nowhere n a here none _ = refl

  one_list : (n a h : ℕ) → slot (places variant.Node s) n ≡ Some a → home s.homes n ≡ Some h → (x : Tagged) → has s a x ≡ true
      → nodes_in (shown_tagged s x) ≡ map (address_in (places variant.Node s)) (sequence s.sequences h)
  one_list n a h here there (tag.Object variant.List m) holds = either_number h m
      (λ b. b ≡ true → map (address_in (places variant.Node s)) (sequence s.sequences m) ≡ map (address_in (places variant.Node s)) (sequence s.sequences h))
      (λ same e. ap (λ k. map (address_in (places variant.Node s)) (sequence s.sequences k)) (sym same))
      (λ other e. let bad : false ≡ true = e in cc)
      (sym (ap (λ o. is_at o m) there) ∙ sym (stands_shown m n a here) ∙ holds)
  one_list n a h here there _ holds = let bad : false ≡ true = holds in cc

  -- a node that is nowhere is in no list that is shown
  pub nowhere_shown : (n a : ℕ) → slot (places variant.Node s) n ≡ Some a → home s.homes n ≡ None → sequence_with a (shown_heap s) ≡ []
  unfolding shown_heap
  nowhere_shown n a here none = in_no_list s a (nowhere n a here none) s.table.memory.blocks

  -- the list that has a node is shown with it
  pub sequence_shown : (n a h : ℕ) → slot (places variant.Node s) n ≡ Some a → home s.homes n ≡ Some h
      → sequence_with a (shown_heap s) ≡ map (address_in (places variant.Node s)) (sequence s.sequences h)
  unfolding shown_heap
  sequence_shown n a h here there =
      let list = some_is (slot (places variant.List s) h) (sound.kept.live_lists n h there) in
      in_one_list s a (map (address_in (places variant.Node s)) (sequence s.sequences h)) (one_list n a h here there) s.table.memory.blocks
      (any_found (has s a) list.0 (tag_of variant.List h) s.table.memory.blocks
      (ap (has s a) (read_tag variant.List h (number_small sound.table variant.List h list.0 list.1))
      ∙ stands_shown h n a here ∙ ap (λ o. is_at o h) there ∙ nat_eq-same h)
      (sound.table.matched.complete variant.List h list.0 list.1))

  pub is_linked_shown : (n a : ℕ) → slot (places variant.Node s) n ≡ Some a → is_linked a (shown_heap s) ≡ is_some (home s.homes n)
  is_linked_shown n a here = elim (home s.homes n) as (λ o. home s.homes n ≡ o → is_linked a (shown_heap s) ≡ is_some o) [
    | None ↦ λ none. ap (is_in_nodes a) (nowhere_shown n a here none)
    | Some h ↦ λ there. ap (is_in_nodes a) (sequence_shown n a h here there) ∙ stands_shown h n a here ∙ ap (λ o. is_at o h) there ∙ nat_eq-same h
  ] refl
