-- The places of a machine file, and faults with their places.
use Rattle.std.specs.Prelude.{ℕ, codes, List, map, Result, Ok, Err}
use Rattle.taskscript.specs.declared.place.Array.TheVariants.{Region, Library, Softint, Server, Task}
use Rattle.taskscript.specs.declared.place.Place.TheVariants.{Tree, Line}
use Rattle.taskscript.specs.{declared.fault.FileFault.FileFault, declared.place.Array.Array, declared.place.Key.Key, declared.place.TablePlace.TablePlace, declared.place.Owner.Owner, declared.place.Place.Place, declared.refused.Refused.Refused}
use Rattle.taskscript.specs.declared.place.Key.TheVariants as key
use Rattle.taskscript.specs.declared.place.TreePlace.TheVariants as tree

-- ---- keys

-- the key of an array
abbrev pub array_key : Array → List ℕ
array_key Region = codes "region"
array_key Library = codes "library"
array_key Softint = codes "softint"
array_key Server = codes "server"
array_key Task = codes "task"

-- the greatest number of items of each array
abbrev pub limit : Array → ℕ
limit Region = 8
limit Library = 32
limit Softint = 32
limit Server = 32
limit Task = 64

-- the text of a key
abbrev pub key_text : Key → List ℕ
key_text key.Quantum = codes "quantum"
key_text key.TickMicros = codes "tick_micros"
key_text key.Pool = codes "pool"
key_text key.Base = codes "base"
key_text key.Size = codes "size"
key_text key.Attrs = codes "attrs"
key_text key.Pri = codes "pri"
key_text key.Name = codes "name"
key_text key.Version = codes "version"
key_text key.Source = codes "source"
key_text key.Claim = codes "claim"
key_text key.Start = codes "start"
key_text key.Code = codes "code"

-- ---- places

-- the place of a key that a table may not have
abbrev pub unknown_key_at : TablePlace → Place
unknown_key_at of = Tree (tree.UnknownKey of)

-- the place of a key of a table, whether it is there or not
abbrev pub key_at : TablePlace → Key → Place
key_at of k = Tree (tree.Key of k)

-- the place of an array as a whole
abbrev pub array_at : Array → Place
array_at of = Tree (tree.Array of)

-- the place of the item of that number of an array
abbrev pub item_at : Array → ℕ → Place
item_at of number = Tree (tree.Item of number)

-- the place of a line of the body of an item; items and lines are numbered from 0
abbrev pub line_at : Owner → ℕ → ℕ → Place
line_at owner number line = Line (record { owner = owner; item = number; line = line })

-- ---- faults with their places

-- a fault at a place
abbrev pub refused : Place → FileFault → Refused
refused place fault = record { fault = fault; place = place }

-- these faults, all at one place
abbrev pub at : Place → List FileFault → List Refused
at place faults = map (refused place) faults

-- what was read, or the fault without its place
abbrev pub without_place : {X : Type 0} → Result X Refused → Result X FileFault
without_place (Ok x) = Ok x
without_place (Err r) = Err r.fault
