-- What is kept of libraries by number: where each lies once one is changed.
use Rattle.std.proofs.Common.{◌≡◌, ◌≢◌, ℕ, suc, ◌+◌, ◌<◌, List, [], ◌∷◌, Bool, true, false, cond, length, refl, ap, sym, ◌∙◌, subst, arith, Some, None, Option, IfSome, is_some, bytes_eq, ◌-◌, if◌then◌else◌, option_and_then, option_map, le-ltb, length-set}
use Rattle.std.specs.{Option.option_map_or, List.position_from}
use Rattle.memlist.proofs.Answered.{cases_eq}
use Rattle.execlib.specs.Libraries.{Description, Libraries, base_of, can_open, library_tag, library_to_open, loaded_at, number_of, only_if, with_loaded}
use Rattle.execlib.specs.declared.library.Loaded.{Loaded}
use Rattle.execlist.proofs.Pools.{slot_known, slot_other, slot_same}
use Rattle.execheap.proofs.{Counting.tally, Entries.some_same, Matching.counts}
use Rattle.execheap.specs.{declared.tag.Kind.Kind, declared.tag.Tagged.TheVariants.Library, Tags.is_of, Tags.libraries, Tags.object_tagged, Tags.tagged, Table.base_at}

-- ---- the tag of a library

pub read_library : (i : ℕ) → tagged (library_tag i) ≡ Library i
unfolding tagged
read_library i =
    ap (λ b. if b then object_tagged (library_tag i) else Library (library_tag i - libraries)) (le-ltb (library_tag i) libraries (omega arith))
    ∙ ap Library (let number : library_tag i - libraries ≡ i = omega arith in number)

pub tally_library : (i : ℕ) (kind : Kind) → tally (counts kind) (library_tag i) ≡ 0
tally_library i kind = ap (λ x. cond (is_of kind x) 1 0) (read_library i)

-- ---- what is kept of a library

-- a library that lies at an address is loaded
pub loaded_of : (o : Option Loaded) (base : ℕ) → option_map (λ (l : Loaded). l.base) o ≡ Some base → (l : Loaded) × ((o ≡ Some l) × (l.base ≡ base))
loaded_of None base is = let bad : false ≡ true = ap is_some is in cc
loaded_of (Some l) base is = (l, (refl, some_same is))

module _ (i : ℕ) (m : Libraries) where
  pub lies_at : (base : ℕ) → base_at i m ≡ Some base → base_of i m ≡ base
  lies_at base lies = let l = loaded_of (loaded_at i m) base lies in ap (λ o. option_map_or (λ (l : Loaded). l.base) o 0) l.1.0 ∙ l.1.1

  pub lies_known : (base : ℕ) → base_at i m ≡ Some base → i < length m.loaded
  lies_known base lies = let l = loaded_of (loaded_at i m) base lies in slot_known m.loaded i l.0 l.1.0

  module _ (o : Option Loaded) where
    pub loaded_here : i < length m.loaded → loaded_at i (with_loaded i o m) ≡ o
    loaded_here known = slot_same m.loaded i o known

    pub loaded_beside : (j : ℕ) → j ≢ i → loaded_at j (with_loaded i o m) ≡ loaded_at j m
    loaded_beside j other = slot_other m.loaded i j o other

    pub base_beside : (j : ℕ) → j ≢ i → base_at j (with_loaded i o m) ≡ base_at j m
    base_beside j other = ap (option_map (λ (l : Loaded). l.base)) (loaded_beside j other)

    pub each_kept : length m.loaded ≡ length m.known → length (with_loaded i o m).loaded ≡ length m.known
    each_kept each = length-set m.loaded i o ∙ each

  -- a library that changes where it lies
  pub bases_same : (base : ℕ) (l : Loaded) → base_at i m ≡ Some base → l.base ≡ base → (j : ℕ) → base_at j (with_loaded i (Some l) m) ≡ base_at j m
  bases_same base l lies is j = cases_eq j i
      (λ same. subst (λ k. base_at k (with_loaded i (Some l) m) ≡ base_at k m) (sym same)
      (ap (option_map (λ (l : Loaded). l.base)) (loaded_here (Some l) (lies_known base lies)) ∙ ap Some is ∙ sym lies))
      (λ other. base_beside (Some l) j other)

-- ---- a library that is found

position_known : (test : Description → Bool) (n : ℕ) (known : List Description) (i : ℕ) → position_from test n known ≡ Some i → i < n + length known
position_known test n [] i is = let bad : false ≡ true = ap is_some is in cc
position_known test n (d ∷ known) i is = elim (test d) as (λ b. cond b (Some n) (position_from test (n + 1) known) ≡ Some i → i < n + suc (length known)) [
  | true ↦ λ e. omega (arith, some_same e)
  | false ↦ λ e. omega (arith, position_known test (n + 1) known i e)
] is

module _ (version : ℕ) (m : Libraries) where
  known_if : (i : ℕ) → i < length m.known → (b : Bool) → IfSome (cond b (Some i) None) (λ j. j < length m.known)
  known_if i small true = small
  known_if i small false = tt

  known_found : (o : Option ℕ) → ((i : ℕ) → o ≡ Some i → i < length m.known)
      → IfSome (option_and_then (only_if (λ i. can_open version i m)) o) (λ i. i < length m.known)
  known_found None small = tt
  known_found (Some i) small = known_if i (small i refl) (can_open version i m)

  pub to_open_known : (name : List ℕ) → IfSome (library_to_open name version m) (λ i. i < length m.known)
  to_open_known name = known_found (number_of name m)
      (λ i is. omega (arith, position_known (λ (d : Description). bytes_eq d.name name) 0 m.known i is))
