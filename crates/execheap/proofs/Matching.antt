-- Blocks and numbers go on agreeing if an object of any kind is made or freed.
use Rattle.std.proofs.Common.{◌≡◌, ◌≢◌, ℕ, ◌+◌, ◌<◌, Bool, true, false, cond, length, slice_set, refl, ap, sym, ◌∙◌, subst, arith, Some, None, Option, is_some, nat_eq, not, IfSome, IsSome, option_map, option_and_then, nat_cmp, get_or-set_same, get_or-set_other, length-set}
use Rattle.std.specs.{Ordering.eq_by_cmp, FinMap.put, FinMap.nat_cmp-IsAntisymmetric, FinMap.Entries.find-put, FinMap.Entries.find-where_key}
use Rattle.std.proofs.lemmas.Cmp.{nat_cmp_total}
use Rattle.memlist.specs.{Blocks.Blocks, Blocks.block_at, Blocks.freed, Fit.fit, Fit.round, Memory.Memory, Memory.IsWellFormed}
use Rattle.memlist.proofs.{Fitting.fitted_fresh, Answered.cases_eq, Answered.key_other, Answered.key_same, Answered.nat_eq-other, Keeping.rising_sorted}
use Rattle.execlib.specs.Libraries.{library_tag}
use Rattle.execlist.specs.Pool.{IsStocked, Pooled, all_free, given, next_number, released, slot, taken}
use Rattle.execlist.proofs.Pools.{given_slots, slot_known, slot_other, slot_same, taken_given, taken_released}
use Rattle.execheap.proofs.{Entries.all_then, Entries.at_found, Entries.some_same, Counting.all_freed, Counting.all_placed, Counting.passing_freed, Counting.passing_put, Counting.tally, Tagging.cases_kind, Tagging.kind_few, Tagging.read_tag, Tagging.same_other, Tagging.same_self, Tagging.tag_same}
use Rattle.execheap.specs.declared.tag.Tagged.TheVariants.{Plain, Object, Library}
use Rattle.execheap.specs.{declared.tag.Kind.Kind, declared.tag.Tagged.Tagged, Tags.is_of, Tags.is_plain, Tags.is_same, Tags.kind_code, Tags.number_in, Tags.size_of, Tags.tag_of, Tags.tagged, Table.Tabled, Table.IsMatched, Table.IsSoundTable, Table.IsTagged, Table.number_at, Table.place_of, Table.pool_of, Table.slots_of, Table.tag_at, Table.with_object, Table.without_object}

-- the tag of a block that was found, or of none
abbrev pub tag_in : Option (ℕ × ℕ) → Option ℕ
tag_in found = option_map (λ (block : ℕ × ℕ). block.1) found

-- a block counts for a kind if its tag is of that kind
abbrev pub counts : Kind → ℕ → Bool
counts kind tag = is_of kind (tagged tag)

-- the tag of a block that stays if another is put, or freed
module _ (a b g : ℕ) (blocks : Blocks) (there : tag_at b blocks ≡ Some g) where
  pub tag_placed : (v : ℕ × ℕ) → block_at a blocks ≡ None → tag_at b (put nat_cmp a v blocks) ≡ Some g
  tag_placed v fresh =
      let other : b ≢ a = λ same. (let bad : false ≡ true = ap is_some (sym (ap tag_in fresh) ∙ ap (λ x. tag_at x blocks) (sym same) ∙ there) in cc) in
      ap tag_in (find-put nat_cmp nat_cmp_total b a v blocks) ∙ ap (λ c. tag_in (cond c (Some v) (block_at b blocks))) (key_other b a other) ∙ there

  pub tag_left : b ≢ a → tag_at b (freed a blocks) ≡ Some g
  tag_left other =
      ap tag_in
      (find-where_key nat_cmp (λ x. not (nat_eq x a)) b (λ x e. ap (λ y. not (nat_eq y a)) (sym (nat_cmp-IsAntisymmetric b x e))) blocks
      ∙ ap (λ c. cond (not c) (block_at b blocks) None) (nat_eq-other b a other))
      ∙ there

module _ {t : Tabled} (sound : IsSoundTable t) where
  -- ---- what is found

  pub number_small : (kind : Kind) (number a : ℕ) → slot (slots_of kind t) number ≡ Some a → number < 1024
  number_small kind number a live = omega (arith, slot_known (slots_of kind t) number a live, sound.each kind, sound.small)

  place_found : (kind : Kind) (number a : ℕ) (x : Tagged) → place_of x a t ≡ Some a → number_in kind x ≡ Some number
      → slot (slots_of kind t) number ≡ Some a
  place_found kind number a Plain there is = let bad : false ≡ true = ap is_some is in cc
  place_found kind number a (Library i) there is = let bad : false ≡ true = ap is_some is in cc
  place_found kind number a (Object other m) there is = cases_kind other kind
      (λ e. let m_is : m ≡ number = some_same (sym (ap (λ b. cond b (Some m) None) (ap (λ k. is_same k kind) e ∙ same_self kind)) ∙ is) in
      subst (λ n. slot (slots_of kind t) n ≡ Some a) m_is (subst (λ k. slot (slots_of k t) m ≡ Some a) e there))
      (λ ne. let bad : false ≡ true = ap is_some (sym (ap (λ b. cond b (Some m) None) (same_other other kind ne)) ∙ is) in cc)

  -- what begins at an address has it
  pub number_placed : (kind : Kind) (number a : ℕ) → number_at kind a t ≡ Some number → slot (slots_of kind t) number ≡ Some a
  number_placed kind number a is = by_block (block_at a t.memory.blocks) refl is where
    by_block : (found : Option (ℕ × ℕ)) → block_at a t.memory.blocks ≡ found
        → option_and_then (λ (block : ℕ × ℕ). number_in kind (tagged block.1)) found ≡ Some number → slot (slots_of kind t) number ≡ Some a
    by_block None found e = let bad : false ≡ true = ap is_some e in cc
    by_block (Some block) found e =
        place_found kind number a (tagged block.1) (at_found (IsTagged t) a t.memory.blocks block sound.matched.tagged found).0 e

  pub number_lives : (kind : Kind) (a : ℕ) (found : Option ℕ) → found ≡ number_at kind a t → IfSome found (λ n. slot (slots_of kind t) n ≡ Some a)
  number_lives kind a None is = tt
  number_lives kind a (Some number) is = number_placed kind number a (sym is)

  -- and what has an address begins there
  pub number_live : (kind : Kind) (number a : ℕ) → slot (slots_of kind t) number ≡ Some a → number_at kind a t ≡ Some number
  number_live kind number a live = by_block (block_at a t.memory.blocks) (sound.matched.complete kind number a live) where
    by_block : (found : Option (ℕ × ℕ)) → tag_in found ≡ Some (tag_of kind number)
        → option_and_then (λ (block : ℕ × ℕ). number_in kind (tagged block.1)) found ≡ Some number
    by_block None e = let bad : false ≡ true = ap is_some e in cc
    by_block (Some block) e =
        ap (λ tag. number_in kind (tagged tag)) (some_same e) ∙ ap (number_in kind) (read_tag kind number (number_small kind number a live))
        ∙ ap (λ b. cond b (Some number) None) (same_self kind)

  pub block_lives : (kind : Kind) (number a : ℕ) → slot (slots_of kind t) number ≡ Some a → IsSome (block_at a t.memory.blocks)
  block_lives kind number a live = by_block (block_at a t.memory.blocks) (sound.matched.complete kind number a live) where
    by_block : (found : Option (ℕ × ℕ)) → tag_in found ≡ Some (tag_of kind number) → IsSome found
    by_block None is = let bad : false ≡ true = ap is_some is in cc
    by_block (Some block) is = refl

  -- two numbers of a kind have no one address
  pub number_same : (kind : Kind) (n m a : ℕ) → slot (slots_of kind t) n ≡ Some a → slot (slots_of kind t) m ≡ Some a → n ≡ m
  number_same kind n m a here there =
      tag_same kind kind n m (some_same (sym (sound.matched.complete kind n a here) ∙ sound.matched.complete kind m a there)) (λ code number. number)

-- ---- one pool changes

module _ {t : Tabled} (sound : IsSoundTable t) (kind : Kind) (p : Pooled ℕ) (memory : Memory) where
  abbrev pub changed : Tabled
  changed = record { memory = memory; pools = slice_set t.pools (kind_code kind) p; pool = t.pool; libs = t.libs }

  pub pool_here : pool_of kind changed ≡ p
  pool_here = get_or-set_same t.pools (kind_code kind) p (all_free 0) (omega (arith, sound.kinds, kind_few kind))

  pub pool_other : (k : Kind) → kind_code k ≢ kind_code kind → pool_of k changed ≡ pool_of k t
  pool_other k other = get_or-set_other t.pools (kind_code kind) (kind_code k) p (all_free 0) other

  module _ (number : ℕ) (o : Option ℕ) (set : p.slots ≡ slice_set (slots_of kind t) number o) where
    pub slot_beside : (k : Kind) (m : ℕ) → (k ≡ kind → m ≢ number) → slot (slots_of k changed) m ≡ slot (slots_of k t) m
    slot_beside k m ne = cases_kind k kind
        (λ e. subst (λ j. slot (slots_of j changed) m ≡ slot (slots_of j t) m) (sym e)
        (ap (λ (q : Pooled ℕ). slot q.slots m) pool_here ∙ ap (λ xs. slot xs m) set ∙ slot_other (slots_of kind t) number m o (ne e)))
        (λ other. ap (λ (q : Pooled ℕ). slot q.slots m) (pool_other k other))

    pub length_kept : (k : Kind) → length (slots_of k changed) ≡ length (slots_of k t)
    length_kept k = cases_kind k kind
        (λ e. subst (λ j. length (slots_of j changed) ≡ length (slots_of j t)) (sym e)
        (ap (λ (q : Pooled ℕ). length q.slots) pool_here ∙ ap length set ∙ length-set (slots_of kind t) number o))
        (λ other. ap (λ (q : Pooled ℕ). length q.slots) (pool_other k other))

    pub sound_changed : IsMatched changed → IsSoundTable changed
    sound_changed matched = record {
      matched = matched;
      each = λ k. length_kept k ∙ sound.each k;
      kinds = length-set t.pools (kind_code kind) p ∙ sound.kinds;
      each_library = sound.each_library;
      small = sound.small;
    }

    module _ (known : number < length (slots_of kind t)) where
      pub slot_here : slot (slots_of kind changed) number ≡ o
      slot_here = ap (λ (q : Pooled ℕ). slot q.slots number) pool_here ∙ ap (λ xs. slot xs number) set ∙ slot_same (slots_of kind t) number o known

-- the object of that kind and number, or another
pub cases_object : {C : Type 0} (kind : Kind) (number : ℕ) (k : Kind) (m : ℕ) → (k ≡ kind → m ≡ number → C) → ((k ≡ kind → m ≢ number) → C) → C
cases_object kind number k m same other = cases_kind k kind
    (λ e. cases_eq m number (λ n. same e n) (λ ne. other (λ e. ne)))
    (λ ne. other (λ e. absurd (ne (ap kind_code e))))

-- a tag of an object counts for its kind alone
tally_own : (kind : Kind) (number : ℕ) → number < 1024 → tally (counts kind) (tag_of kind number) ≡ 1
tally_own kind number small = ap (λ x. cond (is_of kind x) 1 0) (read_tag kind number small) ∙ ap (λ b. cond b 1 0) (same_self kind)

tally_other : (kind k : Kind) (number : ℕ) → number < 1024 → kind_code k ≢ kind_code kind → tally (counts k) (tag_of kind number) ≡ 0
tally_other kind k number small ne =
    ap (λ x. cond (is_of k x) 1 0) (read_tag kind number small) ∙ ap (λ b. cond b 1 0) (same_other kind k (λ e. ne (sym e)))

-- ---- an object is made

module _ {t : Tabled} (sound : IsSoundTable t) (formed : IsWellFormed t.memory.regions t.memory.blocks) (kind : Kind) (number a : ℕ)
    (stocked : IsStocked (pool_of kind t)) (next : next_number (pool_of kind t) ≡ Some number)
    (fits : fit t.memory.regions t.memory.blocks (size_of kind) 1 ≡ Some a) where
  abbrev made : Tabled
  made = with_object kind (Some (number, a)) t

  pub next_known : number < length (slots_of kind t)
  next_known = subst (λ o. IfSome o (λ n. n < length (slots_of kind t))) next stocked.known

  pub next_vacant : slot (slots_of kind t) number ≡ None
  next_vacant = subst (λ o. IfSome o (λ n. slot (slots_of kind t) n ≡ None)) next stocked.free

  small : number < 1024
  small = omega (arith, next_known, sound.each kind, sound.small)

  set : (given a (pool_of kind t)).slots ≡ slice_set (slots_of kind t) number (Some a)
  set = given_slots a number (pool_of kind t) next

  pub made_here : slot (slots_of kind made) number ≡ Some a
  made_here = slot_here sound kind (given a (pool_of kind t)) made.memory number (Some a) set next_known

  pub made_beside : (k : Kind) (m : ℕ) → (k ≡ kind → m ≢ number) → slot (slots_of k made) m ≡ slot (slots_of k t) m
  made_beside = slot_beside sound kind (given a (pool_of kind t)) made.memory number (Some a) set

  fresh : block_at a t.memory.blocks ≡ None
  fresh = fitted_fresh t.memory.regions t.memory.blocks (size_of kind) 1 a formed fits

  -- what lives is another object
  pub lives_beside : (k : Kind) (m b : ℕ) → slot (slots_of k t) m ≡ Some b → k ≡ kind → m ≢ number
  lives_beside k m b lives e n =
      let bad : true ≡ false = sym (ap is_some lives) ∙ ap (λ j. is_some (slot (slots_of j t) m)) e ∙ ap (λ r. is_some (slot (slots_of kind t) r)) n ∙ ap is_some next_vacant in cc

  kept : (x : Tagged) (b : ℕ) → place_of x b t ≡ Some b → place_of x b made ≡ Some b
  kept Plain b was = was
  kept (Object k m) b was = made_beside k m (lives_beside k m b was) ∙ was
  kept (Library i) b was = was

  found : (b : ℕ) → tag_at b made.memory.blocks ≡ tag_in (cond (eq_by_cmp nat_cmp b a) (Some (round (size_of kind), tag_of kind number)) (block_at b t.memory.blocks))
  found b = ap tag_in (find-put nat_cmp nat_cmp_total b a (round (size_of kind), tag_of kind number) t.memory.blocks)

  complete : (k : Kind) (m b : ℕ) → slot (slots_of k made) m ≡ Some b → tag_at b made.memory.blocks ≡ Some (tag_of k m)
  complete k m b live = cases_object kind number k m
      (λ e n. let b_is : b ≡ a = some_same (sym live ∙ ap (λ j. slot (slots_of j made) m) e ∙ ap (slot (slots_of kind made)) n ∙ made_here) in
      found b ∙ ap (λ c. tag_in (cond c (Some (round (size_of kind), tag_of kind number)) (block_at b t.memory.blocks))) (ap (λ x. eq_by_cmp nat_cmp x a) b_is ∙ key_same a)
      ∙ (λ i. Some (tag_of (sym e i) (sym n i))))
      (λ ne. let there = sound.matched.complete k m b (sym (made_beside k m ne) ∙ live) in
      let other : b ≢ a = λ same. (let bad : false ≡ true = ap is_some (sym (ap tag_in fresh) ∙ ap (λ x. tag_at x t.memory.blocks) (sym same) ∙ there) in cc) in
      found b ∙ ap (λ c. tag_in (cond c (Some (round (size_of kind), tag_of kind number)) (block_at b t.memory.blocks))) (key_other b a other) ∙ there)

  more : (k : Kind) → taken (slots_of k made) ≡ tally (counts k) (tag_of kind number) + taken (slots_of k t)
  more k = cases_kind k kind
      (λ e. subst (λ j. taken (slots_of j made) ≡ tally (counts j) (tag_of kind number) + taken (slots_of j t)) (sym e)
      (omega (
        arith,
        ap (λ (q : Pooled ℕ). taken q.slots) (pool_here sound kind (given a (pool_of kind t)) made.memory),
        ap taken set,
        taken_given (slots_of kind t) number a next_vacant next_known,
        tally_own kind number small,
      )))
      (λ ne. omega (arith, ap (λ (q : Pooled ℕ). taken q.slots) (pool_other sound kind (given a (pool_of kind t)) made.memory k ne), tally_other kind k number small ne))

  pub sound_made : IsSoundTable made
  sound_made = sound_changed sound kind (given a (pool_of kind t)) made.memory number (Some a) set (record {
    tagged = all_placed (IsTagged made) a (round (size_of kind), tag_of kind number) t.memory.blocks (
      ap (λ x. place_of x a made) (read_tag kind number small) ∙ made_here,
      ap is_plain (read_tag kind number small) ∙ sym (nat_eq-other (tag_of kind number) 0 (omega arith)),
    )
        (all_then {P = IsTagged t} {Q = IsTagged made} (λ e here. (kept (tagged e.1.1) e.0 here.0, here.1)) t.memory.blocks sound.matched.tagged);
    complete = complete;
    loaded = λ i b is. tag_placed a b (library_tag i) t.memory.blocks (sound.matched.loaded i b is) (round (size_of kind), tag_of kind number) fresh;
    count = λ k. omega (arith, passing_put (counts k) a (round (size_of kind), tag_of kind number) t.memory.blocks fresh, sound.matched.count k, more k);
  })

-- ---- an object is freed

module _ {t : Tabled} (sound : IsSoundTable t) (formed : IsWellFormed t.memory.regions t.memory.blocks) (kind : Kind) (number a : ℕ)
    (live : slot (slots_of kind t) number ≡ Some a) where
  abbrev without : Tabled
  without = without_object kind number a t

  left_set : (released number (pool_of kind t)).slots ≡ slice_set (slots_of kind t) number None
  left_set = refl

  pub freed_here : slot (slots_of kind without) number ≡ None
  freed_here = slot_here sound kind (released number (pool_of kind t)) without.memory number None left_set (slot_known (slots_of kind t) number a live)

  pub freed_beside : (k : Kind) (m : ℕ) → (k ≡ kind → m ≢ number) → slot (slots_of k without) m ≡ slot (slots_of k t) m
  freed_beside = slot_beside sound kind (released number (pool_of kind t)) without.memory number None left_set

  -- what has another address is another object
  pub other_object : (k : Kind) (m b : ℕ) → b ≢ a → slot (slots_of k t) m ≡ Some b → k ≡ kind → m ≢ number
  other_object k m b ne was e n = ne (some_same (sym was ∙ ap (λ j. slot (slots_of j t) m) e ∙ ap (slot (slots_of kind t)) n ∙ live))

  stays : (x : Tagged) (b : ℕ) → b ≢ a → place_of x b t ≡ Some b → place_of x b without ≡ Some b
  stays Plain b ne was = was
  stays (Object k m) b ne was = freed_beside k m (other_object k m b ne was) ∙ was
  stays (Library i) b ne was = was

  left : (k : Kind) (m b : ℕ) → slot (slots_of k without) m ≡ Some b → k ≡ kind → m ≢ number
  left k m b now e n =
      let bad : false ≡ true = ap is_some (sym (ap (λ j. slot (slots_of j without) m) e ∙ ap (slot (slots_of kind without)) n ∙ freed_here) ∙ now) in cc

  left_complete : (k : Kind) (m b : ℕ) → slot (slots_of k without) m ≡ Some b → tag_at b without.memory.blocks ≡ Some (tag_of k m)
  left_complete k m b now =
      let was : slot (slots_of k t) m ≡ Some b = sym (freed_beside k m (left k m b now)) ∙ now in
      let there = sound.matched.complete k m b was in
      let other : b ≢ a = λ same. tag_same k kind m number
      (some_same (sym there ∙ ap (λ x. tag_at x t.memory.blocks) same ∙ sound.matched.complete kind number a live))
      (λ code n. cases_kind k kind (λ e. left k m b now e n) (λ ne. absurd (ne code))) in
      ap tag_in
      (find-where_key nat_cmp (λ x. not (nat_eq x a)) b (λ x e. ap (λ y. not (nat_eq y a)) (sym (nat_cmp-IsAntisymmetric b x e))) t.memory.blocks
      ∙ ap (λ c. cond (not c) (block_at b t.memory.blocks) None) (nat_eq-other b a other))
      ∙ there

  less : (k : Kind) → tally (counts k) (tag_of kind number) + taken (slots_of k without) ≡ taken (slots_of k t)
  less k = cases_kind k kind
      (λ e. subst (λ j. tally (counts j) (tag_of kind number) + taken (slots_of j without) ≡ taken (slots_of j t)) (sym e)
      (omega (
        arith,
        ap (λ (q : Pooled ℕ). taken q.slots) (pool_here sound kind (released number (pool_of kind t)) without.memory),
        taken_released (slots_of kind t) number a live,
        tally_own kind number (number_small sound kind number a live),
      )))
      (λ ne. omega (
        arith,
        ap (λ (q : Pooled ℕ). taken q.slots) (pool_other sound kind (released number (pool_of kind t)) without.memory k ne),
        tally_other kind k number (number_small sound kind number a live) ne,
      ))

  pub sound_freed : IsSoundTable without
  sound_freed = by_block (block_at a t.memory.blocks) refl where
    by_block : (o : Option (ℕ × ℕ)) → block_at a t.memory.blocks ≡ o → IsSoundTable without
    by_block None none = let bad : false ≡ true = ap is_some (sym (ap tag_in none) ∙ sound.matched.complete kind number a live) in cc
    by_block (Some block) there =
        let tag : block.1 ≡ tag_of kind number = some_same (sym (ap tag_in there) ∙ sound.matched.complete kind number a live) in
        sound_changed sound kind (released number (pool_of kind t)) without.memory number None left_set (record {
          tagged = all_freed {P = IsTagged t} {Q = IsTagged without} a t.memory.blocks (λ e ne here. (stays (tagged e.1.1) e.0 ne here.0, here.1)) sound.matched.tagged;
          complete = left_complete;
          loaded = λ i b is. tag_left a b (library_tag i) t.memory.blocks (sound.matched.loaded i b is) (λ same. (let e : library_tag i ≡ tag_of kind number = some_same
              (sym (sound.matched.loaded i b is) ∙ ap (λ x. tag_at x t.memory.blocks) same ∙ sound.matched.complete kind number a live) in
              omega (arith, e, kind_few kind, number_small sound kind number a live)));
          count = λ k. omega (
            arith,
            passing_freed (counts k) a block t.memory.blocks (rising_sorted t.memory.blocks formed.in_order) there,
            sound.matched.count k,
            less k,
            ap (tally (counts k)) tag,
          );
        })
