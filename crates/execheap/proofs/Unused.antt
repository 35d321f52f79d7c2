-- A table at first: nothing lives.
use Rattle.std.proofs.Common.{◌≡◌, ℕ, ◌≤◌, List, [], ◌∷◌, Bool, map, arith, true, false, length, refl, ap, sym, ◌∙◌, None, Option, is_some, slice_index_or, option_map}
use Rattle.std.proofs.lemmas.List.{length-replicate}
use Rattle.execlib.specs.{declared.library.Loaded.Loaded, Libraries.Description}
use Rattle.memlist.specs.declared.region.Region.{Region}
use Rattle.execlist.specs.Pool.{Pooled, all_free, slot, taken}
use Rattle.execlist.proofs.Pools.{slot_new, taken_new}
use Rattle.execheap.specs.{declared.tag.Kind.Kind, Tags.kind_code, Table.IsSoundTable, Table.emptied, Table.free_pools, Table.pool_of, Table.unused}
use Rattle.execheap.specs.declared.tag.Kind.TheVariants as kind

pub pool_unused : (kind : Kind) (regions : List Region) (pool : ℕ) (known : List Description) (asks : Bool) → pool_of kind (unused regions pool known asks) ≡ all_free pool
pool_unused kind.List regions pool known asks = refl
pool_unused kind.Node regions pool known asks = refl
pool_unused kind.Port regions pool known asks = refl
pool_unused kind.Message regions pool known asks = refl
pool_unused kind.Semaphore regions pool known asks = refl
pool_unused kind.Request regions pool known asks = refl

pub sound_unused : (regions : List Region) (pool : ℕ) (known : List Description) (asks : Bool) → pool ≤ 1024 → IsSoundTable (unused regions pool known asks)
sound_unused regions pool known asks small = record {
  matched = record {
    tagged = tt;
    complete = λ kind n a live. (let bad : false ≡ true = ap is_some
        (sym (ap (λ (p : Pooled ℕ). slot p.slots n) (pool_unused kind regions pool known asks) ∙ slot_new ℕ pool n) ∙ live) in cc);
    loaded = λ i base is. (let bad : false ≡ true = ap is_some (sym (ap (option_map (λ (l : Loaded). l.base)) (slot_new Loaded (length known) i)) ∙ is) in cc);
    count = λ kind. sym (ap (λ (p : Pooled ℕ). taken p.slots) (pool_unused kind regions pool known asks) ∙ taken_new ℕ pool);
  };
  each = λ kind. ap (λ (p : Pooled ℕ). length p.slots) (pool_unused kind regions pool known asks) ∙ length-replicate pool None;
  kinds = refl;
  each_library = length-replicate {A = Option Loaded} (length known) None;
  small = small;
}

-- each pool, one for each kind, is emptied
pub pools_emptied : (pools : List (Pooled ℕ)) (pool : ℕ) → length pools ≡ 6 → ((k : Kind) → length (slice_index_or pools (kind_code k) (all_free 0)).slots ≡ pool) → map emptied pools ≡ free_pools pool
pools_emptied (a ∷ b ∷ c ∷ d ∷ e ∷ f ∷ []) pool six each = λ i.
    all_free (each kind.List i) ∷ all_free (each kind.Node i) ∷ all_free (each kind.Port i) ∷ all_free (each kind.Message i) ∷ all_free (each kind.Semaphore i) ∷ all_free (each kind.Request i) ∷ []
pools_emptied [] pool six each = absurd (omega (arith, six))
pools_emptied (a ∷ []) pool six each = absurd (omega (arith, six))
pools_emptied (a ∷ b ∷ []) pool six each = absurd (omega (arith, six))
pools_emptied (a ∷ b ∷ c ∷ []) pool six each = absurd (omega (arith, six))
pools_emptied (a ∷ b ∷ c ∷ d ∷ []) pool six each = absurd (omega (arith, six))
pools_emptied (a ∷ b ∷ c ∷ d ∷ e ∷ []) pool six each = absurd (omega (arith, six))
pools_emptied (a ∷ b ∷ c ∷ d ∷ e ∷ f ∷ g ∷ more) pool six each = absurd (omega (arith, six))
