-- The tag that is beside a block: 0 for a plain block; below $80000000 the kind of the object that begins there and its
-- number; from there on the number of a library.
use Rattle.std.specs.Prelude.{ℕ, zero, suc, ◌+◌, ◌-◌, ◌*◌, ◌/◌, ◌%◌, nat_eq, nat_lt, slice_get, if◌then◌else◌, Bool, true, false, List, [], ◌∷◌, Option, None, Some}
use Rattle.execheap.specs.declared.tag.Tagged.TheVariants.{Plain, Object, Library}
use Rattle.execheap.specs.{declared.tag.Kind.Kind, declared.tag.Tagged.Tagged}
use Rattle.execheap.specs.declared.tag.Kind.TheVariants as kind

-- the number of a kind, which is below 8
abbrev pub kind_code : Kind → ℕ
kind_code kind.List = 0
kind_code kind.Node = 1
kind_code kind.Port = 2
kind_code kind.Message = 3
kind_code kind.Semaphore = 4
kind_code kind.Request = 5

-- the kinds by number
abbrev pub kinds : List Kind
kinds = kind.List ∷ kind.Node ∷ kind.Port ∷ kind.Message ∷ kind.Semaphore ∷ kind.Request ∷ []

-- the bytes of an object of a kind
abbrev pub size_of : Kind → ℕ
size_of kind.List = 14
size_of kind.Node = 14
size_of kind.Port = 34
size_of kind.Message = 24
size_of kind.Semaphore = 46
size_of kind.Request = 40

-- whether two kinds are one
abbrev pub is_same : Kind → Kind → Bool
is_same k j = nat_eq (kind_code k) (kind_code j)

-- ---- tags

-- the tag of an object of a kind and a number
abbrev pub tag_of : Kind → ℕ → ℕ
tag_of kind number = suc (kind_code kind + 8 * number)

-- the tags from here on are those of libraries
abbrev pub libraries : ℕ
libraries = 2147483648

abbrev pub object_or_plain : Option Kind → ℕ → Tagged
object_or_plain None number = Plain
object_or_plain (Some kind) number = Object kind number

abbrev pub object_tagged : ℕ → Tagged
object_tagged zero = Plain
object_tagged (suc n) = object_or_plain (slice_get kinds (n % 8)) (n / 8)

-- what a tag says
unfoldable pub tagged : ℕ → Tagged
tagged tag = if nat_lt tag libraries then object_tagged tag else Library (tag - libraries)

-- it is nothing that Exec knows of
abbrev pub is_plain : Tagged → Bool
is_plain Plain = true
is_plain _ = false

-- it is an object of a kind
abbrev pub is_of : Kind → Tagged → Bool
is_of kind (Object other number) = is_same other kind
is_of kind _ = false

-- the number of the library, if it is one
abbrev pub library_in : Tagged → Option ℕ
library_in (Library number) = Some number
library_in _ = None

-- the number of the object, if it is one of that kind
abbrev pub number_in : Kind → Tagged → Option ℕ
number_in kind (Object other number) = if is_same other kind then Some number else None
number_in kind _ = None
