-- The tree that a text states, and the faults of its places. Each place is judged by itself, from the tree alone.
use Rattle.std.specs.Prelude.{ℕ, ◌+◌, Bool, true, false, not, ◌&&◌, ◌||◌, ℤ, pos, negsuc, codes, unsigned_abs, unwrap_or, int_le, is_some, nat_le, bytes_eq, List, [], ◌∷◌, ◌++◌, Option, Some, None, if◌then◌else◌}
use Rattle.std.specs.{List.list_any, Ordering.int_eq, Str.is_utf8}
use Rattle.toml.specs.Data.{Data, string, integer, boolean, array, table, Items, no_items, item, Members, no_members, member, get_member}
use Rattle.toml.specs.Parse.{parse_document}
use Rattle.taskscript.specs.declared.fault.FileFault.TheVariants.{MissingKey, BadValue, NameTwice, TooMany}
use Rattle.script.specs.Names.{is_name}
use Rattle.softint.specs.{declared.source.Source.Source, declared.source.Source.TheVariants.Ports, Sources.source_of}
use Rattle.taskscript.specs.{declared.fault.FileFault.FileFault, Faults.check, declared.place.Array.Array, declared.place.Place.Place, declared.refused.Refused.Refused, Places.array_at, Places.at, Places.limit, Places.refused}

-- the tree of a text: none for bytes that are not UTF-8, and for a text that is not a TOML document
abbrev pub document_of : List ℕ → Option Members
document_of bytes = if is_utf8 bytes then parse_document bytes else None

-- ---- keys

-- the faults of a key that has to be there: MissingKey if it is absent, else those of its value
abbrev pub required : (Data → List FileFault) → Option Data → List FileFault
required judge None = MissingKey ∷ []
required judge (Some value) = judge value

-- the faults of a key that may be absent: those of its value, if it is there
abbrev pub optional : {F : Type 0} → (Data → List F) → Option Data → List F
optional judge None = []
optional judge (Some value) = judge value

-- each key of the table is one of those listed
abbrev pub keys_are_among : List (List ℕ) → Members → Bool
keys_are_among listed no_members = true
keys_are_among listed (member key value rest) = list_any (bytes_eq key) listed && keys_are_among listed rest

-- ---- values

-- the faults of a table; what is not a table has the fault BadValue, at that place
abbrev pub table_faults : Place → (Members → List Refused) → Data → List Refused
table_faults place judge (table members) = judge members
table_faults place judge _ = refused place BadValue ∷ []

-- BadValue, unless the value is an integer from low to high
abbrev pub integer_faults : ℤ → ℤ → Data → List FileFault
integer_faults low high (integer z) = check (int_le low z && int_le z high) BadValue
integer_faults low high _ = BadValue ∷ []

-- the faults of the key `pri`, which may be absent: its value is -128 to 127
abbrev pub pri_faults : Members → List FileFault
pri_faults owner = optional (integer_faults (negsuc 127) (pos 127)) (get_member (codes "pri") owner)

-- a priority that a software interrupt may have: -32, -16, 0, 16 or 32 (RKM Libraries, Exec Interrupts: software
-- interrupts)
abbrev pub is_softint_pri : ℤ → Bool
is_softint_pri pri =
    int_eq pri (negsuc 31) || (int_eq pri (negsuc 15) || (int_eq pri (pos 0) || (int_eq pri (pos 16) || int_eq pri (pos 32))))

-- BadValue, unless the value is a priority that a software interrupt may have
abbrev pub softint_pri_faults : Data → List FileFault
softint_pri_faults (integer z) = check (is_softint_pri z) BadValue
softint_pri_faults _ = BadValue ∷ []

-- BadValue, unless the value is the name of an interrupt source
abbrev pub source_faults : Data → List FileFault
source_faults (string s) = check (is_some (source_of s)) BadValue
source_faults _ = BadValue ∷ []

-- BadValue, unless the value is a boolean
abbrev pub boolean_faults : Data → List FileFault
boolean_faults (boolean b) = []
boolean_faults _ = BadValue ∷ []

-- the faults of a name: BadValue if it does not have the form of a name, NameTwice if it is one of the names before it
abbrev pub name_faults : List (List ℕ) → Data → List FileFault
name_faults before (string s) = if is_name s then check (not (list_any (bytes_eq s) before)) NameTwice else BadValue ∷ []
name_faults before _ = BadValue ∷ []

-- the number of the items of an array
abbrev pub count_items : Items → ℕ
count_items no_items = 0
count_items (item value rest) = count_items rest + 1

-- the faults of an array: TooMany if it has more items than its limit, and then those of its items; what is not an
-- array has the fault BadValue
abbrev pub array_faults : Array → (Items → List Refused) → Data → List Refused
array_faults of judge (array items) = at (array_at of) (check (nat_le (count_items items) (limit of)) TooMany) ++ judge items
array_faults of judge _ = refused (array_at of) BadValue ∷ []

-- the faults of the items of an array from that number on, each judged by itself
abbrev pub items_faults : (ℕ → Data → List Refused) → ℕ → Items → List Refused
items_faults judge number no_items = []
items_faults judge number (item value rest) = judge number value ++ items_faults judge (number + 1) rest

-- each item of an array is a string
abbrev pub are_strings : Items → Bool
are_strings no_items = true
are_strings (item (string s) rest) = are_strings rest
are_strings (item _ rest) = false

-- the faults of the value of `code`: BadValue unless it is an array of strings, and TooMany if it has more than 1,024
-- items
abbrev pub code_faults : Data → List FileFault
code_faults (array items) = check (are_strings items) BadValue ++ check (nat_le (count_items items) 1024) TooMany
code_faults _ = BadValue ∷ []

-- ---- what is at a place, or a plain value if it is of another kind

-- the integer that a value is; `otherwise` if it is absent or is not an integer
abbrev pub integer_or : ℤ → Option Data → ℤ
integer_or otherwise (Some (integer z)) = z
integer_or otherwise _ = otherwise

-- the priority in a table, 0 if it has none
abbrev pub pri_in : Members → ℤ
pri_in owner = integer_or (pos 0) (get_member (codes "pri") owner)

-- the integer that a value is, without its sign; `otherwise` if it is absent or is not an integer
abbrev pub number_or : ℕ → Option Data → ℕ
number_or otherwise value = unsigned_abs (integer_or (pos otherwise) value)

-- the boolean that a value is; `otherwise` if it is absent or is not a boolean
abbrev pub boolean_or : Bool → Option Data → Bool
boolean_or otherwise (Some (boolean b)) = b
boolean_or otherwise _ = otherwise

-- the bytes of a string; no bytes if the value is absent or is not a string
abbrev pub string_or_nothing : Option Data → List ℕ
string_or_nothing (Some (string s)) = s
string_or_nothing _ = []

-- the source that the key `source` of a table names; PORTS if it names none, which is refused elsewhere
abbrev pub source_in : Members → Source
source_in owner = unwrap_or (source_of (string_or_nothing (get_member (codes "source") owner))) Ports

-- the items of an array; none if the value is absent or is not an array
abbrev pub items_or_none : Option Data → Items
items_or_none (Some (array items)) = items
items_or_none _ = no_items

-- the members of a table; none if the value is not a table
abbrev pub members_or_none : Data → Members
members_or_none (table members) = members
members_or_none _ = no_members

-- what each of some items states, in order
abbrev pub of_items : {X : Type 0} → (Data → X) → Items → List X
of_items of no_items = []
of_items of (item value rest) = of value ∷ of_items of rest
