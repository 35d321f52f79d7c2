-- Plain blocks allocated and freed: a table stays sound, and by number and by address it is the same.
use Rattle.std.proofs.Common.{◌≡◌, ℕ, [], ◌∷◌, true, false, cond, map, refl, ap, sym, ◌∙◌, subst, arith, Some, None, Option, nat_eq, nat_lt, not, ◌&&◌, Result, Ok, Err, is_ok, OnOk, OnErr, option_map, nat_cmp}
use Rattle.std.specs.FinMap.{put}
use Rattle.memlist.specs.{Blocks.Blocks, Blocks.block_at, Fit.fit, Fit.round, Memory.Memory, Memory.IsWellFormed, Memory.allocated, Memory.can_free, Memory.names, Memory.without_block}
use Rattle.memlist.proofs.{Fitting.fitted_fresh, Headers.from_eq}
use Rattle.execlib.specs.Libraries.{library_tag}
use Rattle.execmodel.specs.State as state
use Rattle.execmodel.specs.Memory as model
use Rattle.execmodel.specs.Memory.{freed, is_named, placed}
use Rattle.execheap.proofs.{Entries.at_found, Entries.put_shown, Entries.some_same, Entries.where_key_shown, Counting.tally, Beside.objects_kept, Showing.block_shown, Matching.counts, Matching.tag_in, Matching.tag_left, Matching.tag_placed, Placing.sound_left, Placing.sound_put, Tagging.read_plain}
use Rattle.execheap.specs.declared.tag.Tagged.TheVariants.{Plain, Object, Library}
use Rattle.execheap.specs.{declared.tag.Kind.Kind, declared.tag.Tagged.Tagged, Tags.is_of, Tags.is_plain, Tags.tagged, Table.Tabled, Table.IsSoundTable, Table.IsTagged, Table.place_of, Table.tag_at, Numbered.Numbered, Numbered.shown_block, Numbered.shown_entry, Numbered.shown_heap, Numbered.shown_memory, Numbered.shown_tagged}
use Rattle.execheap.specs.declared.tag.Kind.TheVariants as variant

-- a plain block counts for no kind
tally_plain : (kind : Kind) → tally (counts kind) 0 ≡ 0
tally_plain kind = ap (λ x. cond (is_of kind x) 1 0) read_plain

module _ {t : Tabled} (sound : IsSoundTable t) (formed : IsWellFormed t.memory.regions t.memory.blocks) where
  pub sound_allocated : (size reqs : ℕ) (o : Option ℕ) → o ≡ fit t.memory.regions t.memory.blocks size reqs
      → IsSoundTable (record t { memory = allocated size 0 o t.memory })
  sound_allocated size reqs None is = sound
  sound_allocated size reqs (Some a) is = sound_put sound formed a 0 t.libs tally_plain sound.each_library size fresh
      (ap (λ x. place_of x a (record t { memory = allocated size 0 (Some a) t.memory })) read_plain) (ap is_plain read_plain) (λ i b there. there)
      (λ i b there. tag_placed a b (library_tag i) t.memory.blocks (sound.matched.loaded i b there) (round size, 0) fresh)
    where
      fresh : block_at a t.memory.blocks ≡ None
      fresh = fitted_fresh t.memory.regions t.memory.blocks size reqs a formed (sym is)

  -- a block that may be freed is plain
  plain_there : (a size : ℕ) (o : Option (ℕ × ℕ)) → block_at a t.memory.blocks ≡ o → true ≡ names size o → tag_at a t.memory.blocks ≡ Some 0
  plain_there a size None there may = let bad : true ≡ false = may in cc
  plain_there a size (Some block) there may = ap tag_in there ∙ ap Some (by_tag (nat_eq block.1 0) refl may) where
    by_tag : (b : _) → nat_eq block.1 0 ≡ b → true ≡ names size (Some block) → block.1 ≡ 0
    by_tag true is ok = from_eq block.1 0 is
    by_tag false is ok = let bad : true ≡ false = ok ∙ ap (λ b. b && nat_lt 0 size && nat_eq (round size) block.0) is in cc

  sound_released : (a : ℕ) → tag_at a t.memory.blocks ≡ Some 0 → IsSoundTable (record t { memory = without_block a t.memory })
  sound_released a plain = sound_left sound formed a 0 t.libs tally_plain sound.each_library plain
      (λ k m small same. omega (arith, same)) (λ i b other there. there)
      (λ i b there. tag_left a b (library_tag i) t.memory.blocks (sound.matched.loaded i b there)
      (λ same. (let bad : library_tag i ≡ 0 = some_same (sym (sound.matched.loaded i b there) ∙ ap (λ x. tag_at x t.memory.blocks) same ∙ plain) in omega (arith, bad))))

  pub sound_plain_freed : {A E : Type 0} (memory : Memory) (a size : ℕ) (r : Result A E) → is_ok r ≡ can_free a size t.memory.blocks
      → OnOk r (memory ≡ without_block a t.memory) → OnErr r (memory ≡ t.memory) → IsSoundTable (record t { memory = memory })
  sound_plain_freed memory a size (Ok x) may ok err =
      subst (λ m. IsSoundTable (record t { memory = m })) (sym ok) (sound_released a (plain_there a size (block_at a t.memory.blocks) refl may))
  sound_plain_freed memory a size (Err x) may ok err = subst (λ m. IsSoundTable (record t { memory = m })) (sym err) sound

-- ---- what is shown

module _ (s : Numbered) (memory : Memory) where
  abbrev moved : Numbered
  moved = record s { table = record s.table { memory = memory } }

  -- each tag shows what it showed
  tagged_same : (x : Tagged) → shown_tagged moved x ≡ shown_tagged s x
  tagged_same Plain = refl
  tagged_same (Library i) = refl
  tagged_same (Object k m) = objects_kept s (record s.table { memory = memory }) refl refl refl k m

  entries_same : (es : Blocks) → map (shown_entry moved) es ≡ map (shown_entry s) es
  entries_same [] = refl
  entries_same (e ∷ es) = λ i. (e.0, record { size = e.1.0; object = tagged_same (tagged e.1.1) i }) ∷ entries_same es i

pub plain_placed : (s : Numbered) (size : ℕ) (place : Option ℕ)
    → shown_memory (record s { table = record s.table { memory = allocated size 0 place s.table.memory } }) ≡ placed size state.Plain place (shown_memory s)
unfolding shown_heap
plain_placed s size None = refl
plain_placed s size (Some address) =
    ap (λ heap. record (shown_memory s) { heap = heap })
    (entries_same s (allocated size 0 (Some address) s.table.memory) (allocated size 0 (Some address) s.table.memory).blocks
    ∙ sym (put_shown (shown_block s) address (round size, 0) s.table.memory.blocks)
    ∙ ap (λ o. put nat_cmp address (record { size = round size; object = o }) (map (shown_entry s) s.table.memory.blocks)) (ap (shown_tagged s) read_plain))

-- whatever begins at an address is freed
pub plain_freed : (s : Numbered) (address : ℕ)
    → shown_memory (record s { table = record s.table { memory = without_block address s.table.memory } }) ≡ freed address (shown_memory s)
unfolding shown_heap
plain_freed s address =
    ap (λ heap. record (shown_memory s) { heap = heap })
    (entries_same s (without_block address s.table.memory) (without_block address s.table.memory).blocks
    ∙ sym (where_key_shown (shown_block s) (λ other. not (nat_eq other address)) s.table.memory.blocks))

-- no object is shown as a plain block
plain_shown : (s : Numbered) (x : Tagged) (a : ℕ) → place_of x a s.table ≡ Some a → model.is_plain (shown_tagged s x) ≡ is_plain x
plain_shown s Plain a there = refl
plain_shown s (Library i) a there = refl
plain_shown s (Object variant.List m) a there = refl
plain_shown s (Object variant.Node m) a there = refl
plain_shown s (Object variant.Port m) a there = refl
plain_shown s (Object variant.Message m) a there = refl
plain_shown s (Object variant.Semaphore m) a there = refl
plain_shown s (Object variant.Request m) a there = refl

pub named_shown : (s : Numbered) → IsSoundTable s.table → (size address : ℕ) → is_named size (model.block_at address (shown_heap s)) ≡ can_free address size s.table.memory.blocks
named_shown s sound size address =
    ap (is_named size) (block_shown s address)
    ∙ by_block (block_at address s.table.memory.blocks) (λ block found. at_found (IsTagged s.table) address s.table.memory.blocks block sound.matched.tagged found)
  where
    by_block : (found : Option (ℕ × ℕ)) → ((block : ℕ × ℕ) → found ≡ Some block → IsTagged s.table (address, block))
        → is_named size (option_map (shown_block s) found) ≡ names size found
    by_block None there = refl
    by_block (Some block) there = ap (λ b. b && nat_lt 0 size && nat_eq (round size) block.0)
        (plain_shown s (tagged block.1) address (there block refl).0 ∙ (there block refl).1)
