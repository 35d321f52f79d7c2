-- A table stays sound by what its calls make of its parts.
use Rattle.std.proofs.Common.{◌≡◌, ℕ, zero, suc, ◌<◌, List, [], ◌∷◌, length, refl, ap, sym, ◌∙◌, subst, arith, Some, slice_index_or, slice_set}
use Rattle.memlist.specs.{Fit.fit, Memory.IsWellFormed, Memory.Memory, Memory.allocated, Memory.without_block}
use Rattle.execlist.specs.Pool.{IsStocked, Pooled, all_free, given, next_number, released, slot}
use Rattle.execheap.specs.{declared.tag.Kind.Kind, Tags.kind_code, Tags.size_of, Tags.tag_of, Table.Tabled, Table.IsSoundTable, Table.pool_of, Table.slots_of}
use Rattle.execheap.proofs.{Matching.sound_freed, Matching.sound_made, Tagging.kind_few}

at_known : (xs : List (Pooled ℕ)) (i : ℕ) (d e : Pooled ℕ) → i < length xs → slice_index_or xs i d ≡ slice_index_or xs i e
at_known [] i d e l = absurd (omega (arith, l))
at_known (x ∷ xs) zero d e l = refl
at_known (x ∷ xs) (suc i) d e l = at_known xs i d e (omega (arith, l))

module _ {t : Tabled} (sound : IsSoundTable t) (kind : Kind) (code : ℕ) (is_code : code ≡ kind_code kind) where
  -- the pool that is at the number of its kind
  pub pool_is : (d : Pooled ℕ) → slice_index_or t.pools code d ≡ pool_of kind t
  pool_is d =
      ap (λ c. slice_index_or t.pools c d) is_code ∙ at_known t.pools (kind_code kind) d (all_free 0) (omega (arith, kind_few kind, sound.kinds))

  module _ (formed : IsWellFormed t.memory.regions t.memory.blocks) (number a : ℕ) (memory : Memory) (d r : Pooled ℕ) where
    pub kept_freed : slot (slots_of kind t) number ≡ Some a → memory ≡ without_block a t.memory → r ≡ released number (slice_index_or t.pools code d)
        → IsSoundTable (record { memory = memory; pools = slice_set t.pools code r; pool = t.pool; libs = t.libs })
    kept_freed live is_memory is = subst IsSoundTable (λ i. record {
      memory = sym is_memory i;
      pools = slice_set t.pools (sym is_code i) ((ap (released number) (sym (pool_is d)) ∙ sym is) i);
      pool = t.pool;
      libs = t.libs;
    }) (sound_freed sound formed kind number a live)

    pub kept_made : (size tag : ℕ) (asked stock : Pooled ℕ) → IsStocked (slice_index_or t.pools code stock)
        → Some number ≡ next_number (slice_index_or t.pools code asked) → size ≡ size_of kind → tag ≡ tag_of kind number
        → Some a ≡ fit t.memory.regions t.memory.blocks size 1 → memory ≡ allocated size tag (Some a) t.memory
        → r ≡ given a (slice_index_or t.pools code d)
        → IsSoundTable (record { memory = memory; pools = slice_set t.pools code r; pool = t.pool; libs = t.libs })
    kept_made size tag asked stock stocked next is_size is_tag fits is_memory is = subst IsSoundTable (λ i. record {
      memory = ((λ j. allocated (sym is_size j) (sym is_tag j) (Some a) t.memory) ∙ sym is_memory) i;
      pools = slice_set t.pools (sym is_code i) ((ap (given a) (sym (pool_is d)) ∙ sym is) i);
      pool = t.pool;
      libs = t.libs;
    }) (sound_made sound formed kind number a (subst IsStocked (pool_is stock) stocked) (ap next_number (sym (pool_is asked)) ∙ sym next)
        (ap (λ n. fit t.memory.regions t.memory.blocks n 1) (sym is_size) ∙ sym fits))
