-- What libraries keep while they are asked for memory: which there are, which are absent, and that the loaded ones lie
-- in the memory.
use Rattle.std.proofs.Common.{◌≡◌, ◌≢◌, ℕ, suc, ◌+◌, ◌-◌, ◌<◌, Bool, true, false, cond, List, [], ◌∷◌, length, slice_index_or, refl, sym, ap, subst, ◌∙◌, arith, Option, Some, None, is_some, not, ◌&&◌, nat_eq, unwrap_or, if◌then◌else◌, option_map, nat_cmp}
use Rattle.std.specs.{List.range_with_len, Option.option_map_or, FinMap.nat_cmp-IsAntisymmetric, FinMap.Entries.find-where_key}
use Rattle.execlist.proofs.Pools.{slot_known, slot_other, slot_same}
use Rattle.memlist.specs.{Blocks.Blocks, Blocks.block_at, Blocks.freed, Fit.fit, Memory.Memory, Memory.allocated}
use Rattle.memlist.proofs.Answered.{cases_eq, nat_eq-other}
use Rattle.execlib.specs.Libraries.{Lent, Libraries, LieIn, after_asking, asked_each, asked_one, base_at, base_for, base_of, base_or_fit, expunged, fits, gives_way, is_loaded, leaves_by_removal, lent, library_at, library_tag, loaded_at, loads, marked, memory_without, no_library, numbers, public_memory, ready_to_load, tag_at, with_loaded}
use Rattle.execlib.specs.declared.library.Loaded.{Loaded}

-- ---- where a library lies

some_same : {A : Type 0} {x y : A} → Some x ≡ Some y → x ≡ y
some_same {x = x} e = ap (λ o. unwrap_or o x) e

module _ (i : ℕ) (m : Libraries) where
  based : (o : Option Loaded) → is_some o ≡ true → option_map (λ (l : Loaded). l.base) o ≡ Some (option_map_or (λ (l : Loaded). l.base) o 0)
  based None loaded = let bad : false ≡ true = loaded in cc
  based (Some l) loaded = refl

  pub lies_at : is_loaded i m ≡ true → base_at i m ≡ Some (base_of i m)
  lies_at loaded = based (loaded_at i m) loaded

  known : (o : Option Loaded) → loaded_at i m ≡ o → is_some o ≡ true → i < length m.loaded
  known None is loaded = let bad : false ≡ true = loaded in cc
  known (Some l) is loaded = slot_known m.loaded i l is

  pub loaded_known : is_loaded i m ≡ true → i < length m.loaded
  loaded_known loaded = known (loaded_at i m) refl loaded

  base_other : (o : Option Loaded) (j : ℕ) → j ≢ i → base_at j (with_loaded i o m) ≡ base_at j m
  base_other o j other = ap (option_map (λ (l : Loaded). l.base)) (slot_other m.loaded i j o other)

-- a block has its tag
tagged : (o : Option (ℕ × ℕ)) (tag : ℕ) → option_map (λ (block : ℕ × ℕ). block.1) o ≡ Some tag → is_some o ≡ true
tagged None tag is = let bad : false ≡ true = ap is_some is in cc
tagged (Some block) tag is = refl

-- a loaded library lies in a block
pub library_block : (i : ℕ) (m : Libraries) (memory : Memory) → LieIn m memory → is_loaded i m ≡ true → is_some (block_at (base_of i m) memory.blocks) ≡ true
library_block i m memory lies loaded =
    tagged (block_at (base_of i m) memory.blocks) (library_tag i) (lies.each i (base_of i m) (lies_at i m loaded))

-- another block is freed
tag_beside : (a b : ℕ) (blocks : Blocks) → b ≢ a → tag_at b (freed a blocks) ≡ tag_at b blocks
tag_beside a b blocks other =
    ap (option_map (λ (block : ℕ × ℕ). block.1))
    (find-where_key nat_cmp (λ k. not (nat_eq k a)) b (λ x e. ap (λ k. not (nat_eq k a)) (sym (nat_cmp-IsAntisymmetric b x e))) blocks
    ∙ ap (λ t. cond (not t) (block_at b blocks) None) (nat_eq-other b a other))

-- ---- one library is asked for memory

-- what asking a library for memory comes to, by whether the library is loaded and whether it is expunged
abbrev way : (loaded leaves : Bool) → ℕ → Lent → Lent
way loaded leaves i l =
    if loaded then record {
      libraries = if leaves then expunged i l.libraries else marked i l.libraries;
      memory = if leaves then memory_without i l.libraries l.memory else l.memory;
    } else l

-- a library that is asked for memory is absent, or is expunged, or is marked
pub ways : (P : Lent → Type 0) (i : ℕ) (l : Lent) → P l
    → (is_loaded i l.libraries ≡ true → leaves_by_removal i l.libraries ≡ true → P (lent (expunged i l.libraries) (memory_without i l.libraries l.memory)))
    → (is_loaded i l.libraries ≡ true → leaves_by_removal i l.libraries ≡ false → P (lent (marked i l.libraries) l.memory))
    → P (gives_way i l)
ways P i l same leaves stays =
    elim (is_loaded i l.libraries) as (λ b. is_loaded i l.libraries ≡ b → P (way b (leaves_by_removal i l.libraries) i l)) [
      | true ↦ λ loaded. elim (leaves_by_removal i l.libraries) as (λ b. leaves_by_removal i l.libraries ≡ b → P (way true b i l)) [
        | true ↦ leaves loaded
        | false ↦ stays loaded
      ] refl
      | false ↦ λ absent. same
    ] refl

module _ (i : ℕ) (m : Libraries) (memory : Memory) (lies : LieIn m memory) (loaded : is_loaded i m ≡ true) where
  -- two libraries lie in two blocks
  bases_apart : (j b : ℕ) → base_at j m ≡ Some b → j ≢ i → b ≢ base_of i m
  bases_apart j b there other same =
      let one : library_tag j ≡ library_tag i = some_same (sym (lies.each j b there) ∙ ap (λ a. tag_at a memory.blocks) same ∙ lies.each i (base_of i m) (lies_at i m loaded)) in
      other (omega (arith, one))

  gone : (b : ℕ) → base_at i (expunged i m) ≢ Some b
  gone b there =
      let bad : false ≡ true = sym (ap (λ o. is_some (option_map (λ (l : Loaded). l.base) o)) (slot_same m.loaded i None (loaded_known i m loaded))) ∙ ap is_some there in cc

  lies_expunged : LieIn (expunged i m) (memory_without i m memory)
  lies_expunged = record {
    each = λ j b there. cases_eq j i
        (λ same. absurd (gone b (subst (λ k. base_at k (expunged i m) ≡ Some b) same there)))
        (λ other. let before = sym (base_other i m None j other) ∙ there in
        tag_beside (base_of i m) b memory.blocks (bases_apart j b before other) ∙ lies.each j b before);
  }

  base_marked : (j : ℕ) → base_at j (marked i m) ≡ base_at j m
  base_marked j = cases_eq j i
      (λ same. subst (λ k. base_at k (marked i m) ≡ base_at k m) (sym same)
      (ap (option_map (λ (l : Loaded). l.base)) (slot_same m.loaded i _ (loaded_known i m loaded)) ∙ sym (lies_at i m loaded)))
      (λ other. base_other i m _ j other)

  lies_marked : LieIn (marked i m) memory
  lies_marked = record { each = λ j b there. lies.each j b (sym (base_marked j) ∙ there) }

pub lent_is : (l : Lent) (m : Libraries) (memory : Memory) → m ≡ l.libraries → memory ≡ l.memory → lent m memory ≡ l
lent_is l m memory p q = ap (λ n. lent n memory) p ∙ ap (λ n. lent l.libraries n) q

abbrev pub AreLent : Lent → Type 0
AreLent l = LieIn l.libraries l.memory

pub lies_giving : (i : ℕ) (l : Lent) → AreLent l → AreLent (gives_way i l)
lies_giving i l lies = ways AreLent i l lies
    (λ loaded leaves. lies_expunged i l.libraries l.memory lies loaded)
    (λ loaded stays. lies_marked i l.libraries l.memory lies loaded)

-- a library that is absent stays so
abbrev pub IsAbsent : ℕ → Lent → Type 0
IsAbsent i l = loaded_at i l.libraries ≡ None

other_loaded : (i j : ℕ) (m : Libraries) → loaded_at i m ≡ None → is_loaded j m ≡ true → i ≢ j
other_loaded i j m absent loaded same =
    let bad : false ≡ true = sym (ap is_some absent) ∙ ap (λ k. is_loaded k m) same ∙ loaded in cc

pub absent_giving : (i j : ℕ) (l : Lent) → IsAbsent i l → IsAbsent i (gives_way j l)
absent_giving i j l absent = ways (IsAbsent i) j l absent
    (λ loaded leaves. slot_other l.libraries.loaded j i _ (other_loaded i j l.libraries absent loaded) ∙ absent)
    (λ loaded stays. slot_other l.libraries.loaded j i _ (other_loaded i j l.libraries absent loaded) ∙ absent)

-- ---- all are asked

module _ (P : Lent → Type 0) (kept : (i : ℕ) (l : Lent) → P l → P (gives_way i l)) (size reqs : ℕ) where
  each_kept : (asked : List ℕ) (l : Lent) → P l → P (asked_each size reqs asked l)
  each_kept [] l before = before
  each_kept (i ∷ others) l before =
      each_kept others (asked_one size reqs i l)
      (elim (fits size reqs l.memory) as (λ b. P (cond b l (gives_way i l))) [ true ↦ before | false ↦ kept i l before ])

  -- what each library that is asked for memory keeps is kept by the asking
  pub asking_keeps : (l : Lent) → P l → P (after_asking size reqs l)
  unfolding after_asking
  asking_keeps l before =
      elim (l.libraries.asks && not (nat_eq size 0)) as (λ b. P (cond b (asked_each size reqs (numbers (length l.libraries.known)) l) l)) [
        | true ↦ each_kept (numbers (length l.libraries.known)) l before
        | false ↦ before
      ]

module _ (size reqs : ℕ) (l : Lent) where
  pub asking_known : (after_asking size reqs l).libraries.known ≡ l.libraries.known
  asking_known = asking_keeps (λ (n : Lent). n.libraries.known ≡ l.libraries.known)
      (λ i n same. ways (λ (n : Lent). n.libraries.known ≡ l.libraries.known) i n same (λ _ _. same) (λ _ _. same)) size reqs l refl

  pub asking_regions : (after_asking size reqs l).memory.regions ≡ l.memory.regions
  asking_regions = asking_keeps (λ (n : Lent). n.memory.regions ≡ l.memory.regions)
      (λ i n same. ways (λ (n : Lent). n.memory.regions ≡ l.memory.regions) i n same (λ _ _. same) (λ _ _. same)) size reqs l refl

  pub asking_absent : (i : ℕ) → IsAbsent i l → IsAbsent i (after_asking size reqs l)
  asking_absent i = asking_keeps (IsAbsent i) (λ j n absent. absent_giving i j n absent) size reqs l

-- once the block fits, no other is asked
pub fitting_asked : (size reqs : ℕ) (asked : List ℕ) (l : Lent) → fits size reqs l.memory ≡ true → asked_each size reqs asked l ≡ l
fitting_asked size reqs [] l fitting = refl
fitting_asked size reqs (i ∷ others) l fitting =
    ap (λ b. asked_each size reqs others (cond b l (gives_way i l))) fitting ∙ fitting_asked size reqs others l fitting

-- as long as it does not, the next one is asked for memory
pub next_asked : (size reqs i n : ℕ) (l : Lent) → i < n → fits size reqs l.memory ≡ false
    → asked_each size reqs (range_with_len i (n - i)) l ≡ asked_each size reqs (range_with_len (i + 1) (n - (i + 1))) (gives_way i l)
next_asked size reqs i n l there unfit =
    let more : n - i ≡ suc (n - (i + 1)) = omega (arith, there) in
    ap (λ k. asked_each size reqs (range_with_len i k) l) more
    ∙ ap (λ b. asked_each size reqs (range_with_len (i + 1) (n - (i + 1))) (cond b l (gives_way i l))) unfit

-- none is left
pub last_asked : (size reqs i n : ℕ) (l : Lent) → n ≡ i → asked_each size reqs (range_with_len i (n - i)) l ≡ l
last_asked size reqs i n l end =
    let none : n - i ≡ 0 = omega (arith, end) in
    ap (λ k. asked_each size reqs (range_with_len i k) l) none

-- ---- before an opening

-- what each library that is asked for memory keeps is kept before an opening
pub ready_keeps : (P : Lent → Type 0) → ((i : ℕ) (l : Lent) → P l → P (gives_way i l)) → (i : ℕ) (l : Lent) → P l → P (ready_to_load i l)
ready_keeps P kept i l before =
    elim (is_loaded i l.libraries) as (λ b. P (cond b l (after_asking (library_at i l.libraries).size public_memory l))) [
      | true ↦ before
      | false ↦ asking_keeps P kept (library_at i l.libraries).size public_memory l before
    ]

module _ (i : ℕ) (l : Lent) where
  -- the library that is opened is as it was
  pub ready_loaded : loaded_at i (ready_to_load i l).libraries ≡ loaded_at i l.libraries
  ready_loaded = by_loaded (loaded_at i l.libraries) refl where
    by_loaded : (o : Option Loaded) → loaded_at i l.libraries ≡ o
        → loaded_at i (cond (is_some o) l (after_asking (library_at i l.libraries).size public_memory l)).libraries ≡ loaded_at i l.libraries
    by_loaded None absent = asking_absent (library_at i l.libraries).size public_memory l i absent ∙ sym absent
    by_loaded (Some loaded) is = refl

  module _ (is : loaded_at i l.libraries ≡ None) where
    abbrev asked : Lent
    asked = after_asking (library_at i l.libraries).size public_memory l

    -- others are asked for memory for a library that is absent
    pub ready_absent : ready_to_load i l ≡ asked
    ready_absent = ap (λ o. cond (is_some o) l asked) is

    absent_still : loaded_at i asked.libraries ≡ None
    absent_still = asking_absent (library_at i l.libraries).size public_memory l i is

    size_still : (library_at i asked.libraries).size ≡ (library_at i l.libraries).size
    size_still = ap (λ known. (slice_index_or known i no_library).size) (asking_known (library_at i l.libraries).size public_memory l)

    pub base_absent : base_for i (ready_to_load i l).libraries (ready_to_load i l).memory
        ≡ fit l.memory.regions asked.memory.blocks (library_at i l.libraries).size public_memory
    base_absent =
        ap (λ (n : Lent). base_for i n.libraries n.memory) ready_absent
        ∙ ap (λ o. base_or_fit o (library_at i asked.libraries).size asked.memory) absent_still
        ∙ ap (λ n. fit asked.memory.regions asked.memory.blocks n public_memory) size_still
        ∙ ap (λ rs. fit rs asked.memory.blocks (library_at i l.libraries).size public_memory) (asking_regions (library_at i l.libraries).size public_memory l)

    pub loads_absent : (base : Option ℕ) → loads i base (ready_to_load i l).libraries (ready_to_load i l).memory
        ≡ allocated (library_at i l.libraries).size (library_tag i) base asked.memory
    loads_absent base =
        ap (λ (n : Lent). loads i base n.libraries n.memory) ready_absent
        ∙ ap (λ o. cond (is_some o) asked.memory (allocated (library_at i asked.libraries).size (library_tag i) base asked.memory)) absent_still
        ∙ ap (λ n. allocated n (library_tag i) base asked.memory) size_still

  module _ (loaded : Loaded) (is : loaded_at i l.libraries ≡ Some loaded) where
    pub ready_there : ready_to_load i l ≡ l
    ready_there = ap (λ o. cond (is_some o) l (after_asking (library_at i l.libraries).size public_memory l)) is

    pub base_there : base_for i (ready_to_load i l).libraries (ready_to_load i l).memory ≡ Some loaded.base
    base_there =
        ap (λ (n : Lent). base_for i n.libraries n.memory) ready_there
        ∙ ap (λ o. base_or_fit o (library_at i l.libraries).size l.memory) is

    pub loads_there : (base : Option ℕ) → loads i base (ready_to_load i l).libraries (ready_to_load i l).memory ≡ l.memory
    loads_there base =
        ap (λ (n : Lent). loads i base n.libraries n.memory) ready_there
        ∙ ap (λ o. cond (is_some o) l.memory (allocated (library_at i l.libraries).size (library_tag i) base l.memory)) is
