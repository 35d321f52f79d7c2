-- Kinds and tags: what is written is read.
use Rattle.std.proofs.Common.{◌≡◌, ◌≢◌, ℕ, ◌+◌, ◌*◌, ◌/◌, ◌%◌, ◌<◌, length, Bool, true, false, refl, ap, sym, ◌∙◌, arith, Some, nat_eq, ◌&&◌, ◌-◌, if◌then◌else◌, slice_get, lt-ltb}
use Rattle.memlist.proofs.{Answered.cases_eq, Answered.nat_eq-other, Answered.nat_eq-same, Headers.from_eq}
use Rattle.execheap.proofs.Entries.{some_same}
use Rattle.execheap.specs.declared.tag.Kind.TheVariants.{List, Node, Port, Message, Semaphore, Request}
use Rattle.execheap.specs.declared.tag.Tagged.TheVariants.{Plain, Object, Library}
use Rattle.execheap.specs.{declared.tag.Kind.Kind, declared.tag.Tagged.Tagged, Tags.is_same, Tags.kind_code, Tags.kinds, Tags.libraries, Tags.object_or_plain, Tags.object_tagged, Tags.tag_of, Tags.tagged}

-- ---- kinds

-- each kind is at its number
pub kind_named : (kind : Kind) → slice_get kinds (kind_code kind) ≡ Some kind
kind_named List = refl
kind_named Node = refl
kind_named Port = refl
kind_named Message = refl
kind_named Semaphore = refl
kind_named Request = refl

pub kind_few : (kind : Kind) → kind_code kind < length kinds
kind_few List = omega arith
kind_few Node = omega arith
kind_few Port = omega arith
kind_few Message = omega arith
kind_few Semaphore = omega arith
kind_few Request = omega arith

-- two kinds are one, or their numbers differ
pub cases_kind : {C : Type 0} (k j : Kind) → (k ≡ j → C) → (kind_code k ≢ kind_code j → C) → C
cases_kind k j same other =
    cases_eq (kind_code k) (kind_code j) (λ e. same (some_same (sym (kind_named k) ∙ ap (slice_get kinds) e ∙ kind_named j))) other

pub same_self : (k : Kind) → is_same k k ≡ true
same_self k = nat_eq-same (kind_code k)

pub same_other : (k j : Kind) → kind_code k ≢ kind_code j → is_same k j ≡ false
same_other k j other = nat_eq-other (kind_code k) (kind_code j) other

-- ---- tags

pub read_tag : (kind : Kind) (number : ℕ) → number < 1024 → tagged (tag_of kind number) ≡ Object kind number
unfolding tagged
read_tag kind number small =
    ap (λ b. if b then object_tagged (tag_of kind number) else Library (tag_of kind number - libraries))
    (lt-ltb (tag_of kind number) libraries (omega (arith, small, kind_few kind)))
    ∙ ap (λ c. object_or_plain (slice_get kinds c) ((kind_code kind + 8 * number) / 8)) (let c : (kind_code kind + 8 * number) % 8 ≡ kind_code kind = omega (arith, kind_few kind) in c)
    ∙ ap (λ o. object_or_plain o ((kind_code kind + 8 * number) / 8)) (kind_named kind)
    ∙ ap (Object kind) (let n : (kind_code kind + 8 * number) / 8 ≡ number = omega (arith, kind_few kind) in n)

pub read_plain : tagged 0 ≡ Plain
unfolding tagged
read_plain = ap (λ b. if b then object_tagged 0 else Library (0 - libraries)) (lt-ltb 0 libraries (omega arith))

-- two objects of one tag are one
pub tag_same : {C : Type 0} (k j : Kind) (m n : ℕ) → tag_of k m ≡ tag_of j n → (kind_code k ≡ kind_code j → m ≡ n → C) → C
tag_same k j m n e f =
    let code : kind_code k ≡ kind_code j = omega (arith, e, kind_few k, kind_few j) in
    let number : m ≡ n = omega (arith, e, kind_few k, kind_few j) in
    f code number

-- ---- two numbers

pub not_eq : (a b : ℕ) → nat_eq a b ≡ false → a ≢ b
not_eq a b e same = let bad : true ≡ false = sym (nat_eq-same b) ∙ ap (λ z. nat_eq z b) (sym same) ∙ e in cc

pub either_number : (a b : ℕ) (P : Bool → Type 0) → (a ≡ b → P true) → (a ≢ b → P false) → P (nat_eq a b)
either_number a b P same other = elim (nat_eq a b) as (λ c. nat_eq a b ≡ c → P c) [
  | true ↦ λ e. same (from_eq a b e)
  | false ↦ λ e. other (not_eq a b e)
] refl

-- ---- an object of a kind and a number

-- what a tag says is the object of a kind and a number
abbrev pub is_object : Kind → ℕ → Tagged → Bool
is_object kind number (Object k m) = is_same k kind && nat_eq m number
is_object kind number _ = false

pub object_self : (kind : Kind) (number : ℕ) → is_object kind number (Object kind number) ≡ true
object_self kind number = ap (λ b. b && nat_eq number number) (same_self kind) ∙ nat_eq-same number

and_false : (b : Bool) → b && false ≡ false
and_false true = refl
and_false false = refl

-- another kind or another number is another object
pub object_other : (kind k : Kind) (number m : ℕ) → (k ≡ kind → m ≢ number) → is_object kind number (Object k m) ≡ false
object_other kind k number m other = cases_kind k kind
    (λ e. ap (λ b. is_same k kind && b) (nat_eq-other m number (other e)) ∙ and_false (is_same k kind))
    (λ ne. ap (λ b. b && nat_eq m number) (same_other k kind ne))
