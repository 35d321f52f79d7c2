-- A table stays sound if a library is opened, closed or removed.
use Rattle.std.proofs.Common.{◌≡◌, ◌≢◌, ℕ, ◌<◌, Bool, true, false, cond, length, refl, ap, sym, ◌∙◌, subst, arith, Some, None, Option, is_some, if◌then◌else◌, IfSome, ◌-◌, option_and_then, option_map, nat_cmp}
use Rattle.std.specs.{Option.option_map_or, FinMap.Entries.find-put}
use Rattle.memlist.specs.{Blocks.block_at, Fit.fit, Fit.round, Memory.IsWellFormed, Memory.Memory, Memory.allocated, Memory.without_block}
use Rattle.std.proofs.lemmas.Cmp.{nat_cmp_total}
use Rattle.memlist.proofs.{Fitting.fitted_fresh, Answered.cases_eq, Answered.key_same, Answered.nat_eq-other}
use Rattle.execlib.specs.Libraries.{Libraries, base_of, base_or_fit, close_fault, count_of, entered, expunged, is_delayed, is_loaded, leaves_by_close, leaves_by_removal, library_tag, loaded_at, loads, memory_without, opened_base, public_memory, with_loaded}
use Rattle.execlib.specs.declared.library.Loaded.{Loaded}
use Rattle.execlist.specs.Answers.{kept_or}
use Rattle.execlib.specs.Libraries as library
use Rattle.execheap.specs.{Tags.is_plain, Tags.library_in, Tags.tagged, declared.tag.Tagged.Tagged, Table.Tabled, Table.IsSoundTable, Table.IsTagged, Table.base_at, Table.library_at, Table.library_closed, Table.library_opened, Table.library_removed, Table.place_of, Table.tag_at}
use Rattle.execheap.specs.declared.tag.Tagged.TheVariants as tag
use Rattle.execheap.proofs.{Entries.all_then, Entries.at_found, Entries.some_same, Loaded.base_beside, Loaded.bases_same, Loaded.each_kept, Loaded.lies_at, Loaded.lies_known, Loaded.loaded_here, Loaded.read_library, Loaded.tally_library, Matching.tag_in, Matching.tag_left, Matching.tag_placed, Placing.place_same, Placing.sound_left, Placing.sound_put, Tagging.kind_few}

-- the memory in which a library is loaded that was, or was not
pub loads_loaded : (i : ℕ) (base : Option ℕ) (m : Libraries) (memory : Memory) (l : Loaded) → loaded_at i m ≡ Some l → loads i base m memory ≡ memory
loads_loaded i base m memory l is = ap (λ o. if is_some o then memory else allocated (library.library_at i m).size (library_tag i) base memory) is

pub loads_absent : (i : ℕ) (base : Option ℕ) (m : Libraries) (memory : Memory) → loaded_at i m ≡ None
    → loads i base m memory ≡ allocated (library.library_at i m).size (library_tag i) base memory
loads_absent i base m memory is = ap (λ o. if is_some o then memory else allocated (library.library_at i m).size (library_tag i) base memory) is

pub loads_nowhere : (i : ℕ) (m : Libraries) (memory : Memory) → loads i None m memory ≡ memory
loads_nowhere i m memory = either (is_loaded i m) where
  either : (b : Bool) → cond b memory (allocated (library.library_at i m).size (library_tag i) None memory) ≡ memory
  either true = refl
  either false = refl

module _ {t : Tabled} (sound : IsSoundTable t) where
  -- libraries change, and lie where they lay
  pub sound_same : (libs : Libraries) → ((j : ℕ) → base_at j libs ≡ base_at j t.libs) → length libs.loaded ≡ length libs.known → IsSoundTable (record t { libs = libs })
  sound_same libs same each = record {
    matched = record {
      tagged = all_then {P = IsTagged t} {Q = IsTagged (record t { libs = libs })}
          (λ e told. (place_same t (record t { libs = libs }) refl (tagged e.1.1) e.0 (λ i there. same i ∙ there) told.0, told.1)) t.memory.blocks sound.matched.tagged;
      complete = sound.matched.complete;
      loaded = λ i base is. sound.matched.loaded i base (sym (same i) ∙ is);
      count = sound.matched.count;
    };
    each = sound.each;
    kinds = sound.kinds;
    each_library = each;
    small = sound.small;
  }

  module _ (formed : IsWellFormed t.memory.regions t.memory.blocks) (i : ℕ) where
    -- ---- expunged

    module _ (a : ℕ) (lies : base_at i t.libs ≡ Some a) where
      -- what lies elsewhere is another library
      other_library : (j b : ℕ) → b ≢ a → base_at j t.libs ≡ Some b → j ≢ i
      other_library j b other there same = other (some_same (sym there ∙ ap (λ k. base_at k t.libs) same ∙ lies))

      gone : (known : i < length t.libs.loaded) (j b : ℕ) → base_at j (expunged i t.libs) ≡ Some b → j ≢ i
      gone known j b there same =
          let bad : true ≡ false = sym (ap is_some there) ∙ ap (λ k. is_some (base_at k (expunged i t.libs))) same
          ∙ ap (λ o. is_some (option_map (λ (l : Loaded). l.base) o)) (loaded_here i t.libs None known) in cc

      pub sound_expunged : i < length t.libs.loaded → IsSoundTable (record t { memory = without_block a t.memory; libs = expunged i t.libs })
      sound_expunged known = sound_left sound formed a (library_tag i) (expunged i t.libs) (tally_library i) (each_kept i t.libs None sound.each_library)
          (sound.matched.loaded i a lies)
          (λ k m small same. omega (arith, small, same, kind_few k))
          (λ j b other there. base_beside i t.libs None j (other_library j b other there) ∙ there)
          (λ j b there. (let ne = gone known j b there in
          let was : base_at j t.libs ≡ Some b = sym (base_beside i t.libs None j ne) ∙ there in
          tag_left a b (library_tag j) t.memory.blocks (sound.matched.loaded j b was)
          (λ same. ne (let tag : library_tag j ≡ library_tag i = some_same
          (sym (sound.matched.loaded j b was) ∙ ap (λ x. tag_at x t.memory.blocks) same ∙ sound.matched.loaded i a lies) in
          let number : j ≡ i = omega (arith, tag) in number))))

      -- a library is expunged, or changes where it lies
      pub sound_settled : (leaves : Bool) (l : Loaded) → l.base ≡ base_of i t.libs → i < length t.libs.loaded
          → IsSoundTable (record t { memory = (if leaves then memory_without i t.libs t.memory else t.memory); libs = (if leaves then expunged i t.libs else with_loaded i (Some l) t.libs) })
      sound_settled true l is known =
          subst (λ b. IsSoundTable (record t { memory = without_block b t.memory; libs = expunged i t.libs })) (sym (lies_at i t.libs a lies)) (sound_expunged known)
      sound_settled false l is known =
          sound_same (with_loaded i (Some l) t.libs) (bases_same i t.libs a l lies (is ∙ lies_at i t.libs a lies)) (each_kept i t.libs (Some l) sound.each_library)

    -- ---- loaded

    module _ (a : ℕ) (l : Loaded) (at : l.base ≡ a) (absent : loaded_at i t.libs ≡ None) (known : i < length t.libs.loaded) where
      abbrev entered_libs : Libraries
      entered_libs = with_loaded i (Some l) t.libs

      lies_now : base_at i entered_libs ≡ Some a
      lies_now = ap (option_map (λ (l : Loaded). l.base)) (loaded_here i t.libs (Some l) known) ∙ ap Some at

      -- what was loaded is another library
      was_loaded : (j b : ℕ) → base_at j t.libs ≡ Some b → j ≢ i
      was_loaded j b there same =
          let bad : true ≡ false = sym (ap is_some there) ∙ ap (λ k. is_some (base_at k t.libs)) same
          ∙ ap (λ o. is_some (option_map (λ (l : Loaded). l.base) o)) absent in cc

      pub sound_loaded : (size reqs : ℕ) → Some a ≡ fit t.memory.regions t.memory.blocks size reqs
          → IsSoundTable (record t { memory = allocated size (library_tag i) (Some a) t.memory; libs = entered_libs })
      sound_loaded size reqs fits = sound_put sound formed a (library_tag i) entered_libs (tally_library i) (each_kept i t.libs (Some l) sound.each_library) size fresh
          (ap (λ x. place_of x a new) (read_library i) ∙ lies_now)
          (ap is_plain (read_library i) ∙ sym (nat_eq-other (library_tag i) 0 (omega arith)))
          (λ j b there. base_beside i t.libs (Some l) j (was_loaded j b there) ∙ there)
          loaded
        where
          new : Tabled
          new = record t { memory = allocated size (library_tag i) (Some a) t.memory; libs = entered_libs }

          fresh : block_at a t.memory.blocks ≡ None
          fresh = fitted_fresh t.memory.regions t.memory.blocks size reqs a formed (sym fits)

          loaded : (j b : ℕ) → base_at j entered_libs ≡ Some b → tag_at b new.memory.blocks ≡ Some (library_tag j)
          loaded j b there = cases_eq j i
              (λ same. let b_is : b ≡ a = some_same (sym there ∙ ap (λ k. base_at k entered_libs) same ∙ lies_now) in
              ap (λ x. tag_at x new.memory.blocks) b_is ∙ put_here ∙ ap (λ k. Some (library_tag k)) (sym same))
              (λ other. tag_placed a b (library_tag j) t.memory.blocks (sound.matched.loaded j b (sym (base_beside i t.libs (Some l) j other) ∙ there)) (round size, library_tag i) fresh)
            where
              put_here : tag_at a new.memory.blocks ≡ Some (library_tag i)
              put_here = ap tag_in (find-put nat_cmp nat_cmp_total a a (round size, library_tag i) t.memory.blocks)
                  ∙ ap (λ c. tag_in (cond c (Some (round size, library_tag i)) (block_at a t.memory.blocks))) (key_same a)

  -- ---- opened

  pub sound_opened : IsWellFormed t.memory.regions t.memory.blocks → (found base : Option ℕ) → IfSome found (λ i. i < length t.libs.known)
      → base ≡ opened_base found t.libs t.memory → IsSoundTable (library_opened found base t)
  sound_opened formed None base known is = sound
  sound_opened formed (Some i) None known is = subst (λ memory. IsSoundTable (record t { memory = memory })) (sym (loads_nowhere i t.libs t.memory)) sound
  sound_opened formed (Some i) (Some a) known is = by_loaded (loaded_at i t.libs) refl is where
    there : i < length t.libs.loaded
    there = omega (arith, known, sound.each_library)

    now : Loaded
    now = entered a (loaded_at i t.libs)

    by_loaded : (o : Option Loaded) → loaded_at i t.libs ≡ o → Some a ≡ base_or_fit o (library.library_at i t.libs).size t.memory
        → IsSoundTable (library_opened (Some i) (Some a) t)
    by_loaded None absent fits = subst (λ memory. IsSoundTable (record t { memory = memory; libs = with_loaded i (Some now) t.libs }))
        (sym (loads_absent i (Some a) t.libs t.memory absent))
        (sound_loaded formed i a now refl absent there (library.library_at i t.libs).size public_memory fits)
    by_loaded (Some l) lies at = subst (λ memory. IsSoundTable (record t { memory = memory; libs = with_loaded i (Some now) t.libs }))
        (sym (loads_loaded i (Some a) t.libs t.memory l lies))
        (sound_same (with_loaded i (Some now) t.libs)
        (bases_same i t.libs a now (ap (option_map (λ (l : Loaded). l.base)) lies ∙ sym at) refl) (each_kept i t.libs (Some now) sound.each_library))

  -- ---- closed and removed

  -- a loaded library lies at its base
  pub loaded_lies : (i : ℕ) → is_loaded i t.libs ≡ true → base_at i t.libs ≡ Some (base_of i t.libs)
  loaded_lies i loaded = by_loaded (loaded_at i t.libs) loaded where
    by_loaded : (o : Option Loaded) → is_some o ≡ true → option_map (λ (l : Loaded). l.base) o ≡ Some (option_map_or (λ (l : Loaded). l.base) o 0)
    by_loaded None is = let bad : false ≡ true = is in cc
    by_loaded (Some l) is = refl

  -- and its block is there
  pub library_block : (i : ℕ) → is_loaded i t.libs ≡ true → is_some (block_at (base_of i t.libs) t.memory.blocks) ≡ true
  library_block i loaded = by_block (block_at (base_of i t.libs) t.memory.blocks) (sound.matched.loaded i (base_of i t.libs) (loaded_lies i loaded)) where
    by_block : (o : Option (ℕ × ℕ)) → tag_in o ≡ Some (library_tag i) → is_some o ≡ true
    by_block None is = let bad : false ≡ true = ap is_some is in cc
    by_block (Some block) is = refl

  pub sound_closed : IsWellFormed t.memory.regions t.memory.blocks → (i : ℕ) → is_loaded i t.libs ≡ true → IsSoundTable (library_closed i t)
  sound_closed formed i loaded =
      sound_settled formed i (base_of i t.libs) (loaded_lies i loaded) (leaves_by_close i t.libs)
      (record { base = base_of i t.libs; count = count_of i t.libs - 1; delayed_expunge = is_delayed i t.libs }) refl
      (lies_known i t.libs (base_of i t.libs) (loaded_lies i loaded))

  pub sound_removed : IsWellFormed t.memory.regions t.memory.blocks → (i : ℕ) → is_loaded i t.libs ≡ true → IsSoundTable (library_removed i t)
  sound_removed formed i loaded =
      sound_settled formed i (base_of i t.libs) (loaded_lies i loaded) (leaves_by_removal i t.libs)
      (record { base = base_of i t.libs; count = count_of i t.libs; delayed_expunge = true }) refl
      (lies_known i t.libs (base_of i t.libs) (loaded_lies i loaded))

  -- what the table becomes of its parts
  pub sound_after : (u : Tabled) → IsSoundTable u → (memory : Memory) (libs : Libraries) → u.pools ≡ t.pools → u.pool ≡ t.pool → memory ≡ u.memory → libs ≡ u.libs
      → IsSoundTable (record t { memory = memory; libs = libs })
  sound_after u is memory libs pools pool is_memory is_libs =
      subst IsSoundTable (λ k. record { memory = sym is_memory k; pools = pools k; pool = pool k; libs = sym is_libs k }) is

  pub sound_after_close : IsWellFormed t.memory.regions t.memory.blocks → (i : ℕ) → is_loaded i t.libs ≡ true → close_fault i t.libs ≡ None
      → (memory : Memory) (libs : Libraries) → memory ≡ kept_or (close_fault i t.libs) t.memory (library.memory_after_close i t.libs t.memory)
      → libs ≡ kept_or (close_fault i t.libs) t.libs (library.closed i t.libs) → IsSoundTable (record t { memory = memory; libs = libs })
  sound_after_close formed i loaded is_open memory libs is_memory is_libs =
      sound_after (library_closed i t) (sound_closed formed i loaded) memory libs refl refl
      (is_memory ∙ ap (λ fault. kept_or fault t.memory (library.memory_after_close i t.libs t.memory)) is_open)
      (is_libs ∙ ap (λ fault. kept_or fault t.libs (library.closed i t.libs)) is_open)

-- what begins at an address lies there
pub library_lives : {t : Tabled} → IsSoundTable t → (a : ℕ) (i : ℕ) → library_at a t ≡ Some i → base_at i t.libs ≡ Some a
library_lives {t} sound a i is = by_block (block_at a t.memory.blocks) refl is where
  by_tag : (x : Tagged) → place_of x a t ≡ Some a → library_in x ≡ Some i → base_at i t.libs ≡ Some a
  by_tag tag.Plain there e = let bad : false ≡ true = ap is_some e in cc
  by_tag (tag.Object k n) there e = let bad : false ≡ true = ap is_some e in cc
  by_tag (tag.Library j) there e = subst (λ k. base_at k t.libs ≡ Some a) (some_same e) there

  by_block : (found : Option (ℕ × ℕ)) → block_at a t.memory.blocks ≡ found
      → option_and_then (λ (block : ℕ × ℕ). library_in (tagged block.1)) found ≡ Some i → base_at i t.libs ≡ Some a
  by_block None found e = let bad : false ≡ true = ap is_some e in cc
  by_block (Some block) found e = by_tag (tagged block.1) (at_found (IsTagged t) a t.memory.blocks block sound.matched.tagged found).0 e

pub library_found_lives : {t : Tabled} → IsSoundTable t → (a : ℕ) (found : Option ℕ) → found ≡ library_at a t → IfSome found (λ i. base_at i t.libs ≡ Some a)
library_found_lives sound a None is = tt
library_found_lives sound a (Some i) is = library_lives sound a i (sym is)
