-- The machine that a file states, or its first fault.
use Rattle.std.specs.Prelude.{is_none, ℕ, ◌+◌, ℤ, pos, Bool, true, false, codes, List, [], ◌∷◌, ◌++◌, Option, Some, None, Result, Err}
use Rattle.memlist.specs.{declared.region.Region.Region, Regions.regions_fault}
use Rattle.toml.specs.Data.{Data, Items, no_items, item, Members, get_member}
use Rattle.taskscript.specs.declared.fault.FileFault.TheVariants.{NotToml, UnknownKey, BadRegions}
use Rattle.taskscript.specs.declared.place.Owner.TheVariants.{Softint, Server, Task}
use Rattle.taskscript.specs.declared.place.TablePlace.TheVariants.{Top, Item}
use Rattle.taskscript.specs.Tree.{document_of, required, optional, table_faults, of_items, keys_are_among, integer_faults, pri_faults, softint_pri_faults, source_faults, boolean_faults, name_faults, array_faults, items_faults, code_faults, pri_in, source_in, number_or, boolean_or, string_or_nothing, items_or_none, members_or_none}
use Rattle.softint.specs.declared.source.Source.{Source}
use Rattle.taskscript.specs.{declared.fault.FileFault.FileFault, declared.place.Array.Array, declared.place.Owner.Owner, declared.place.TablePlace.TablePlace, declared.refused.Refused.Refused, Faults.check, Interrupting.Setting, Places.array_at, Places.at, Places.item_at, Places.key_at, Places.refused, Places.unknown_key_at, Places.without_place, Code.lines_in, Code.body_faults, Code.code_of, Code.shared_after}
use Rattle.taskscript.specs.declared.place.Array.TheVariants as array
use Rattle.taskscript.specs.declared.place.Key.TheVariants as key
use Rattle.taskscript.specs.declared.place.Place.TheVariants as a_place
use Rattle.execlist.specs.{Order.first, Answers.fault_or}
use Rattle.script.specs.File.{TaskData, LibraryData, SoftintData, ServerData, MachineData, total_of}

-- ---- the first pass: the tree

-- the keys of the top table
abbrev pub top_keys : List (List ℕ)
top_keys =
    codes "version" ∷ codes "quantum" ∷ codes "tick_micros" ∷ codes "pool" ∷ codes "region" ∷ codes "library" ∷ codes "softint" ∷ codes "server"
    ∷ codes "task" ∷ []

-- the keys of the table of a task
abbrev pub task_keys : List (List ℕ)
task_keys = codes "name" ∷ codes "pri" ∷ codes "start" ∷ codes "code" ∷ []

-- the keys of the table of a region
abbrev pub region_keys : List (List ℕ)
region_keys = codes "base" ∷ codes "size" ∷ codes "attrs" ∷ codes "pri" ∷ []

-- the faults of the table of a region: those of its keys, then those of its values in the order base, size, attrs, pri
abbrev pub region_faults : TablePlace → Members → List Refused
region_faults of region =
    at (unknown_key_at of) (check (keys_are_among region_keys region) UnknownKey)
    ++ (at (key_at of key.Base) (required (integer_faults (pos 0) (pos 4294967295)) (get_member (codes "base") region))
    ++ (at (key_at of key.Size) (required (integer_faults (pos 0) (pos 4294967295)) (get_member (codes "size") region))
    ++ (at (key_at of key.Attrs) (optional (integer_faults (pos 0) (pos 7)) (get_member (codes "attrs") region))
    ++ at (key_at of key.Pri) (pri_faults region))))

-- the faults of the item of that number of the array `region`
abbrev pub region_item_faults : ℕ → Data → List Refused
region_item_faults number = table_faults (item_at array.Region number) (region_faults (Item array.Region number))

-- the region that a table states; attrs is 1, MEMF_PUBLIC, if the table does not say it, and pri is 0
abbrev pub region_of : Data → Region
region_of region = record {
  base = number_or 0 (get_member (codes "base") (members_or_none region));
  size = number_or 0 (get_member (codes "size") (members_or_none region));
  attrs = number_or 1 (get_member (codes "attrs") (members_or_none region));
  pri = pri_in (members_or_none region);
}

-- the regions that an array states
abbrev pub regions_of : Items → List Region
regions_of regions = of_items region_of regions

-- the items of the array `region`
abbrev pub regions_in : Members → List Region
regions_in tree = regions_of (items_or_none (get_member (codes "region") tree))

-- the version of the rules, 1 if the file does not say it (project rule)
abbrev pub version_of : Members → ℕ
version_of tree = number_or 1 (get_member (codes "version") tree)

-- the faults of the regions in their order, and then that of all regions together, which may have that many bytes in
-- all
abbrev pub regions_faults : ℕ → Members → List Refused
regions_faults total tree =
    optional (array_faults array.Region (items_faults region_item_faults 0)) (get_member (codes "region") tree)
    ++ at (array_at array.Region) (check (is_none (regions_fault total (regions_in tree))) BadRegions)

-- ---- software interrupts, servers and tasks: what has a name and a code

-- the keys of the table of a software interrupt
abbrev pub softint_keys : List (List ℕ)
softint_keys = codes "name" ∷ codes "pri" ∷ codes "code" ∷ []

-- the keys of the table of a server
abbrev pub server_keys : List (List ℕ)
server_keys = codes "name" ∷ codes "source" ∷ codes "pri" ∷ codes "claim" ∷ codes "code" ∷ []

-- the faults of the table of a software interrupt, after the names before it: those of its keys, then those of its
-- values in the order name, pri, code
abbrev pub softint_faults : TablePlace → List (List ℕ) → Members → List Refused
softint_faults of before softint =
    at (unknown_key_at of) (check (keys_are_among softint_keys softint) UnknownKey)
    ++ (at (key_at of key.Name) (required (name_faults before) (get_member (codes "name") softint))
    ++ (at (key_at of key.Pri) (required softint_pri_faults (get_member (codes "pri") softint))
    ++ at (key_at of key.Code) (required code_faults (get_member (codes "code") softint))))

-- the faults of the table of a server, after the names before it: those of its keys, then those of its values in the
-- order name, source, pri, claim, code
abbrev pub server_faults : TablePlace → List (List ℕ) → Members → List Refused
server_faults of before server =
    at (unknown_key_at of) (check (keys_are_among server_keys server) UnknownKey)
    ++ (at (key_at of key.Name) (required (name_faults before) (get_member (codes "name") server))
    ++ (at (key_at of key.Source) (required source_faults (get_member (codes "source") server))
    ++ (at (key_at of key.Pri) (pri_faults server)
    ++ (at (key_at of key.Claim) (optional boolean_faults (get_member (codes "claim") server))
    ++ at (key_at of key.Code) (required code_faults (get_member (codes "code") server))))))

-- the faults of the table of a task, after the names before it: those of its keys, then those of its values in the
-- order name, pri, start, code
abbrev pub task_faults : TablePlace → List (List ℕ) → Members → List Refused
task_faults of before task =
    at (unknown_key_at of) (check (keys_are_among task_keys task) UnknownKey)
    ++ (at (key_at of key.Name) (required (name_faults before) (get_member (codes "name") task))
    ++ (at (key_at of key.Pri) (pri_faults task)
    ++ (at (key_at of key.Start) (optional boolean_faults (get_member (codes "start") task))
    ++ at (key_at of key.Code) (required code_faults (get_member (codes "code") task)))))

-- the name in a table, empty if it has none
abbrev pub name_in_table : Data → List ℕ
name_in_table owner = string_or_nothing (get_member (codes "name") (members_or_none owner))

-- the priority in a table, 0 if it has none
abbrev pub pri_of : Data → ℤ
pri_of owner = pri_in (members_or_none owner)

-- whether the task of a table is added when the machine starts; true if the table does not say it
abbrev pub start_of : Data → Bool
start_of task = boolean_or true (get_member (codes "start") (members_or_none task))

-- whether the server of a table claims the interrupt and so ends the chain; false if the table does not say it
abbrev pub claim_of : Data → Bool
claim_of server = boolean_or false (get_member (codes "claim") (members_or_none server))

-- the interrupt source of the server of a table
abbrev pub server_source_of : Data → Source
server_source_of server = source_in (members_or_none server)

-- how the table of an item is judged: at its place, after the names before it
abbrev pub Judge : Type 0
Judge = TablePlace → List (List ℕ) → Members → List Refused

-- the faults of the item of that number of an array, after the names before it
abbrev pub named_item_faults : Judge → Array → ℕ → List (List ℕ) → Data → List Refused
named_item_faults judge of number before = table_faults (item_at of number) (judge (Item of number) before)

-- the faults of the items of an array from that number on, each a table that is judged after the names before it
abbrev pub named_faults : Judge → Array → ℕ → List (List ℕ) → Items → List Refused
named_faults judge of number before no_items = []
named_faults judge of number before (item owner rest) =
    named_item_faults judge of number before owner ++ named_faults judge of (number + 1) (before ++ name_in_table owner ∷ []) rest

-- the names of some items
abbrev pub item_names : Items → List (List ℕ)
item_names owners = of_items name_in_table owners

-- the quantum, 4 if the file does not say it
abbrev pub quantum_of : Members → ℕ
quantum_of tree = number_or 4 (get_member (codes "quantum") tree)

-- the microseconds of a tick, 20,000 if the file does not say it
abbrev pub tick_micros_of : Members → ℕ
tick_micros_of tree = number_or 20000 (get_member (codes "tick_micros") tree)

-- how many objects of each kind may live, 64 if the file does not say it
abbrev pub pool_of : Members → ℕ
pool_of tree = number_or 64 (get_member (codes "pool") tree)

-- the array of software interrupts of a tree
abbrev pub softints_in : Members → Items
softints_in tree = items_or_none (get_member (codes "softint") tree)

-- the array of servers of a tree
abbrev pub servers_in : Members → Items
servers_in tree = items_or_none (get_member (codes "server") tree)

-- the array of tasks of a tree
abbrev pub tasks_in : Members → Items
tasks_in tree = items_or_none (get_member (codes "task") tree)

-- ---- libraries

-- the keys of the table of a library
abbrev pub library_keys : List (List ℕ)
library_keys = codes "name" ∷ codes "version" ∷ codes "size" ∷ []

-- the faults of the table of a library, after the names of the libraries before it: those of its keys, then those of
-- its values in the order name, version, size
abbrev pub library_faults : TablePlace → List (List ℕ) → Members → List Refused
library_faults of before library =
    at (unknown_key_at of) (check (keys_are_among library_keys library) UnknownKey)
    ++ (at (key_at of key.Name) (required (name_faults before) (get_member (codes "name") library))
    ++ (at (key_at of key.Version) (required (integer_faults (pos 0) (pos 65535)) (get_member (codes "version") library))
    ++ at (key_at of key.Size) (required (integer_faults (pos 8) (pos 65536)) (get_member (codes "size") library))))

-- the items of the array `library`
abbrev pub libraries_in : Members → Items
libraries_in tree = items_or_none (get_member (codes "library") tree)

-- the faults of the libraries in their order; no two may have the same name
abbrev pub libraries_faults : Members → List Refused
libraries_faults tree = optional (array_faults array.Library (named_faults library_faults array.Library 0 [])) (get_member (codes "library") tree)

-- the library that a table states
abbrev pub library_of : Data → LibraryData
library_of library = record {
  name = name_in_table library;
  version = number_or 0 (get_member (codes "version") (members_or_none library));
  size = number_or 0 (get_member (codes "size") (members_or_none library));
}

-- ---- the second pass: the lines

-- the lines of the body in a table, which its key `code` has
abbrev pub code_lines : Data → List (List ℕ)
code_lines owner = lines_in (items_or_none (get_member (codes "code") (members_or_none owner)))

-- what a body is judged by: whether it is that of an interrupt, and the software interrupts of the file
abbrev pub setting_of : Bool → Members → Setting
setting_of of_interrupt tree = record { of_interrupt = of_interrupt; softints = item_names (softints_in tree) }

-- the faults of the lines of the bodies of items from that number on, each after the shared variables of those before
-- it
abbrev pub bodies_faults : Owner → ℕ → Setting → List (List ℕ) → Items → List Refused
bodies_faults owner number setting shared no_items = []
bodies_faults owner number setting shared (item body rest) =
    body_faults owner number setting shared (code_lines body) ++ bodies_faults owner (number + 1) setting (shared_after shared (code_lines body)) rest

-- the names of the shared variables, in order of first sight, after the bodies of these items
abbrev pub shared_after_bodies : List (List ℕ) → Items → List (List ℕ)
shared_after_bodies shared no_items = shared
shared_after_bodies shared (item owner rest) = shared_after_bodies (shared_after shared (code_lines owner)) rest

-- what each item that has a body states, after the shared variables of the bodies before it
abbrev pub with_bodies : {X : Type 0} → (List (List ℕ) → Data → X) → List (List ℕ) → Items → List X
with_bodies of shared no_items = []
with_bodies of shared (item owner rest) = of shared owner ∷ with_bodies of (shared_after shared (code_lines owner)) rest

-- ---- the whole

-- the faults of the keys version, quantum, tick_micros and pool
abbrev pub settings_faults : Members → List Refused
settings_faults tree =
    at (key_at Top key.Version) (optional (integer_faults (pos 1) (pos 2)) (get_member (codes "version") tree))
    ++ (at (key_at Top key.Quantum) (optional (integer_faults (pos 1) (pos 255)) (get_member (codes "quantum") tree))
    ++ (at (key_at Top key.TickMicros) (optional (integer_faults (pos 1) (pos 1000000)) (get_member (codes "tick_micros") tree))
    ++ at (key_at Top key.Pool) (optional (integer_faults (pos 1) (pos 1024)) (get_member (codes "pool") tree))))

-- the names of the shared variables, in order of first sight, after all software interrupts
abbrev pub shared_after_softints : Members → List (List ℕ)
shared_after_softints tree = shared_after_bodies [] (softints_in tree)

-- the names of the shared variables, in order of first sight, after all software interrupts and servers
abbrev pub shared_after_servers : Members → List (List ℕ)
shared_after_servers tree = shared_after_bodies (shared_after_softints tree) (servers_in tree)

-- the names before those of the servers: those of all software interrupts
abbrev pub names_before_servers : Members → List (List ℕ)
names_before_servers tree = item_names (softints_in tree)

-- the names before those of the tasks: those of all software interrupts and servers
abbrev pub names_before_tasks : Members → List (List ℕ)
names_before_tasks tree = names_before_servers tree ++ item_names (servers_in tree)

-- the faults of the software interrupts, the servers and the tasks, without those of their lines
abbrev pub owners_faults : Members → List Refused
owners_faults tree =
    optional (array_faults array.Softint (named_faults softint_faults array.Softint 0 [])) (get_member (codes "softint") tree)
    ++ (optional (array_faults array.Server (named_faults server_faults array.Server 0 (names_before_servers tree))) (get_member (codes "server") tree)
    ++ optional (array_faults array.Task (named_faults task_faults array.Task 0 (names_before_tasks tree))) (get_member (codes "task") tree))

-- the faults of the lines of all bodies: of software interrupts, servers and tasks
abbrev pub lines_of_all_faults : Members → List Refused
lines_of_all_faults tree =
    bodies_faults Softint 0 (setting_of true tree) [] (softints_in tree)
    ++ (bodies_faults Server 0 (setting_of true tree) (shared_after_softints tree) (servers_in tree)
    ++ bodies_faults Task 0 (setting_of false tree) (shared_after_servers tree) (tasks_in tree))

-- the faults of the software interrupts, the servers and the tasks, and after all of them those of their lines
abbrev pub both_passes_faults : Members → List Refused
both_passes_faults tree = owners_faults tree ++ lines_of_all_faults tree

-- the faults of a tree with their places, in their order
abbrev pub refusals : Members → List Refused
refusals tree =
    at (unknown_key_at Top) (check (keys_are_among top_keys tree) UnknownKey)
    ++ (settings_faults tree
    ++ (regions_faults (total_of (version_of tree)) tree
    ++ (libraries_faults tree
    ++ both_passes_faults tree)))

-- the task that a table states, after the shared variables that were seen before it
abbrev pub task_of : List (List ℕ) → Data → TaskData
task_of shared task = record { name = name_in_table task; pri = pri_of task; start = start_of task; code = code_of shared (code_lines task) }

-- the tasks that an array states
abbrev pub tasks_of : List (List ℕ) → Items → List TaskData
tasks_of shared tasks = with_bodies task_of shared tasks

-- the software interrupt that a table states, after the shared variables that were seen before it
abbrev pub softint_of : List (List ℕ) → Data → SoftintData
softint_of shared softint = record {
  name = name_in_table softint;
  pri = pri_of softint;
  code = code_of shared (code_lines softint);
}

-- the software interrupts that an array states
abbrev pub softints_of : List (List ℕ) → Items → List SoftintData
softints_of shared softints = with_bodies softint_of shared softints

-- the server that a table states, after the shared variables that were seen before it
abbrev pub server_of : List (List ℕ) → Data → ServerData
server_of shared server = record {
  name = name_in_table server;
  source = server_source_of server;
  pri = pri_of server;
  claim = claim_of server;
  code = code_of shared (code_lines server);
}

-- the servers that an array states
abbrev pub servers_of : List (List ℕ) → Items → List ServerData
servers_of shared servers = with_bodies server_of shared servers

-- the machine that a tree states: a key that is absent has its default
abbrev pub machine_of : Members → MachineData
machine_of tree = record {
  version = version_of tree;
  quantum = quantum_of tree;
  tick_micros = tick_micros_of tree;
  pool = pool_of tree;
  regions = regions_in tree;
  libraries = of_items library_of (libraries_in tree);
  softints = softints_of [] (softints_in tree);
  servers = servers_of (shared_after_softints tree) (servers_in tree);
  tasks = tasks_of (shared_after_servers tree) (tasks_in tree);
}

-- what the tree of a document states: the first fault with its place, or the machine; if there is no tree, the fault is
-- NotToml, at the whole file
abbrev pub placed_file_of_document : Option Members → Result MachineData Refused
placed_file_of_document None = Err (refused a_place.File NotToml)
placed_file_of_document (Some tree) = fault_or (first (refusals tree)) (machine_of tree)

-- the machine that the bytes of a file state, or the first of its faults with its place
unfoldable pub placed_file_of : List ℕ → Result MachineData Refused
placed_file_of bytes = placed_file_of_document (document_of bytes)

-- the machine that the bytes of a file state, or the fault at the first of its faulty places
unfoldable pub file_of : List ℕ → Result MachineData FileFault
file_of bytes = without_place (placed_file_of bytes)
