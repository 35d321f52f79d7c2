-- What the readers of a file hold, as the data that it represents.
use Rattle.std.specs.Prelude.{◌≡◌, ℕ, List, [], ◌++◌, map, None}
use Rattle.toml.specs.Data.{Data, Members}
use Rattle.taskscript.specs.declared.fault.FileFault.TheVariants.{NotToml, OutOfMemory}
use Rattle.script.specs.File.{SoftintData, ServerData, TaskData}
use Rattle.taskscript.specs.File.{name_in_table, pri_of, server_source_of, start_of, claim_of, code_lines, softints_in, servers_in, tasks_in, item_names, names_before_tasks, shared_after_softints, shared_after_servers, softints_of, servers_of, tasks_of}
use Rattle.script.specs.{Commands.CommandData, Names.texts}
use Rattle.taskscript.specs.{declared.place.Place.TheVariants.File, declared.refused.Refused.Refused, declared.heads.SoftintHead.SoftintHead, declared.heads.ServerHead.ServerHead, declared.heads.TaskHead.TaskHead, declared.owners.Heads.Heads, declared.owners.Owners.Owners, declared.interrupting.Setting.Setting as CodeSetting, Code.code_of, Interrupting.Setting, Listings.listing_of, Places.refused, Tree.document_of, Tree.of_items}
use Rattle.script.specs.Records.{softint_view, server_view, task_view}

-- why there is no tree
abbrev pub DocumentFault : Refused → List ℕ → Type 0
DocumentFault r bytes = ¬ (r.fault ≡ OutOfMemory) → (document_of bytes ≡ None) × (r ≡ refused File NotToml)

-- ---- heads: what the first pass keeps of an item, which has no commands yet

abbrev pub softint_head_view : SoftintHead → SoftintData
softint_head_view h = record { name = h.name.bytes; pri = h.pri; code = [] }

abbrev pub server_head_view : ServerHead → ServerData
server_head_view h = record { name = h.name.bytes; source = h.source; pri = h.pri; claim = h.claim; code = [] }

abbrev pub task_head_view : TaskHead → TaskData
task_head_view h = record { name = h.name.bytes; pri = h.pri; start = h.start; code = [] }

-- what an item is with those commands
abbrev pub softint_with : Data → List CommandData → SoftintData
softint_with softint code = record { name = name_in_table softint; pri = pri_of softint; code = code }

abbrev pub server_with : Data → List CommandData → ServerData
server_with server code = record {
  name = name_in_table server;
  source = server_source_of server;
  pri = pri_of server;
  claim = claim_of server;
  code = code;
}

abbrev pub task_with : Data → List CommandData → TaskData
task_with task code = record { name = name_in_table task; pri = pri_of task; start = start_of task; code = code }

-- its head
abbrev pub softint_head_of : Data → SoftintData
softint_head_of softint = softint_with softint []

abbrev pub server_head_of : Data → ServerData
server_head_of server = server_with server []

abbrev pub task_head_of : Data → TaskData
task_head_of task = task_with task []

-- what an item is, whose body is after those shared variables
abbrev pub made_of : {X : Type 0} → (Data → List CommandData → X) → List (List ℕ) → Data → X
made_of with shared owner = with owner (code_of shared (code_lines owner))

-- ---- what a body is judged by

abbrev pub setting_view : CodeSetting → Setting
setting_view s = record { of_interrupt = s.of_interrupt; softints = texts s.softints.now }

-- ---- both passes

-- the heads of a file, with the names of all of them
pub record AreHeads (heads : Heads) (tree : Members) : Type 0 where
  pub softints : map softint_head_view heads.softints.items ≡ of_items softint_head_of (softints_in tree)
  pub servers : map server_head_view heads.servers.items ≡ of_items server_head_of (servers_in tree)
  pub tasks : map task_head_view heads.tasks.items ≡ of_items task_head_of (tasks_in tree)
  pub names : texts heads.names.items ≡ names_before_tasks tree ++ item_names (tasks_in tree)

-- the software interrupts, the servers and the tasks of a file
pub record AreOwners (owners : Owners) (tree : Members) : Type 0 where
  pub softints : map softint_view owners.softints.items ≡ softints_of [] (softints_in tree)
  pub servers : map server_view owners.servers.items ≡ servers_of (shared_after_softints tree) (servers_in tree)
  pub tasks : map task_view owners.tasks.items ≡ tasks_of (shared_after_servers tree) (tasks_in tree)
  pub listing : owners.listing ≡ listing_of tree
