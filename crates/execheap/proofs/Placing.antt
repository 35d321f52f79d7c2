-- A block that is not an object is put at a fresh address, or freed: a table stays sound.
use Rattle.std.proofs.Common.{◌≡◌, ◌≢◌, ℕ, ◌<◌, true, false, length, refl, ap, sym, ◌∙◌, arith, Some, None, Option, is_some, nat_eq}
use Rattle.memlist.specs.{Blocks.block_at, Fit.round, Memory.IsWellFormed, Memory.allocated, Memory.without_block}
use Rattle.memlist.proofs.Keeping.{rising_sorted}
use Rattle.execlib.specs.Libraries.{Libraries, library_tag}
use Rattle.execlist.specs.Pool.{slot}
use Rattle.execheap.specs.declared.tag.Tagged.TheVariants.{Plain, Object, Library}
use Rattle.execheap.specs.{declared.tag.Kind.Kind, declared.tag.Tagged.Tagged, Tags.is_plain, Tags.tag_of, Tags.tagged, Table.Tabled, Table.IsSoundTable, Table.IsTagged, Table.base_at, Table.place_of, Table.slots_of, Table.tag_at}
use Rattle.execheap.proofs.{Counting.all_freed, Counting.all_placed, Counting.passing_freed, Counting.passing_put, Counting.tally, Entries.all_then, Entries.some_same, Matching.counts, Matching.number_small, Matching.tag_in, Matching.tag_left, Matching.tag_placed}

-- the same objects with other blocks, if libraries that lie at an address still do
pub place_same : (t u : Tabled) → u.pools ≡ t.pools → (x : Tagged) (a : ℕ) → ((i : ℕ) → base_at i t.libs ≡ Some a → base_at i u.libs ≡ Some a)
    → place_of x a t ≡ Some a → place_of x a u ≡ Some a
place_same t u pools Plain a libraries there = there
place_same t u pools (Object kind number) a libraries there = ap (λ ps. slot (slots_of kind (record t { pools = ps })) number) pools ∙ there
place_same t u pools (Library i) a libraries there = libraries i there

module _ {t : Tabled} (sound : IsSoundTable t) (formed : IsWellFormed t.memory.regions t.memory.blocks) (a tag : ℕ) (libs : Libraries)
    (none : (k : Kind) → tally (counts k) tag ≡ 0) (each : length libs.loaded ≡ length libs.known) where
  -- ---- put

  module _ (size : ℕ) (fresh : block_at a t.memory.blocks ≡ None) where
    abbrev pub put : Tabled
    put = record t { memory = allocated size tag (Some a) t.memory; libs = libs }

    pub sound_put : place_of (tagged tag) a put ≡ Some a → is_plain (tagged tag) ≡ nat_eq tag 0
        → ((i b : ℕ) → base_at i t.libs ≡ Some b → base_at i libs ≡ Some b)
        → ((i b : ℕ) → base_at i libs ≡ Some b → tag_at b put.memory.blocks ≡ Some (library_tag i))
        → IsSoundTable put
    sound_put here plain stays loaded = record {
      matched = record {
        tagged = all_placed (IsTagged put) a (round size, tag) t.memory.blocks (here, plain)
            (all_then {P = IsTagged t} {Q = IsTagged put} (λ e told. (place_same t put refl (tagged e.1.1) e.0 (λ i. stays i e.0) told.0, told.1))
            t.memory.blocks sound.matched.tagged);
        complete = λ k m b live. tag_placed a b (tag_of k m) t.memory.blocks (sound.matched.complete k m b live) (round size, tag) fresh;
        loaded = loaded;
        count = λ k. omega (arith, passing_put (counts k) a (round size, tag) t.memory.blocks fresh, sound.matched.count k, none k);
      };
      each = sound.each;
      kinds = sound.kinds;
      each_library = each;
      small = sound.small;
    }

  -- ---- freed

  module _ (there : tag_at a t.memory.blocks ≡ Some tag) where
    abbrev pub left : Tabled
    left = record t { memory = without_block a t.memory; libs = libs }

    pub sound_left : ((k : Kind) (m : ℕ) → m < 1024 → tag_of k m ≢ tag)
        → ((i b : ℕ) → b ≢ a → base_at i t.libs ≡ Some b → base_at i libs ≡ Some b)
        → ((i b : ℕ) → base_at i libs ≡ Some b → tag_at b left.memory.blocks ≡ Some (library_tag i))
        → IsSoundTable left
    sound_left apart stays loaded = by_block (block_at a t.memory.blocks) refl where
      by_block : (o : Option (ℕ × ℕ)) → block_at a t.memory.blocks ≡ o → IsSoundTable left
      by_block None none_there = let bad : false ≡ true = ap is_some (sym (ap tag_in none_there) ∙ there) in cc
      by_block (Some block) found = let is : block.1 ≡ tag = some_same (sym (ap tag_in found) ∙ there) in record {
        matched = record {
          tagged = all_freed {P = IsTagged t} {Q = IsTagged left} a t.memory.blocks
              (λ e ne told. (place_same t left refl (tagged e.1.1) e.0 (λ i. stays i e.0 ne) told.0, told.1)) sound.matched.tagged;
          complete = λ k m b live. tag_left a b (tag_of k m) t.memory.blocks (sound.matched.complete k m b live)
              (λ same. apart k m (number_small sound k m b live)
              (some_same (sym (sound.matched.complete k m b live) ∙ ap (λ x. tag_at x t.memory.blocks) same ∙ there)));
          loaded = loaded;
          count = λ k. omega (
            arith,
            passing_freed (counts k) a block t.memory.blocks (rising_sorted t.memory.blocks formed.in_order) found,
            sound.matched.count k,
            none k,
            ap (tally (counts k)) is,
          );
        };
        each = sound.each;
        kinds = sound.kinds;
        each_library = each;
        small = sound.small;
      }
