-- What the records of a machine file hold, as the data that it represents.
use Rattle.std.specs.Prelude.{ℕ, List, map}
use Rattle.memlist.specs.declared.region.Region.{Region}
use Rattle.script.specs.File.{LibraryData, SoftintData, ServerData, TaskData, MachineData}
use Rattle.script.specs.{declared.file.LibraryRecord.LibraryRecord, declared.file.SoftintRecord.SoftintRecord, declared.file.ServerRecord.ServerRecord, declared.file.TaskRecord.TaskRecord, Commands.command_view}

-- a library, a software interrupt, a server and a task, as its record has it
abbrev pub library_view : LibraryRecord → LibraryData
library_view l = record { name = l.name.bytes; version = l.version; size = l.size }

abbrev pub softint_view : SoftintRecord → SoftintData
softint_view i = record { name = i.name.bytes; pri = i.pri; code = map command_view i.code.items }

abbrev pub server_view : ServerRecord → ServerData
server_view s = record { name = s.name.bytes; source = s.source; pri = s.pri; claim = s.claim; code = map command_view s.code.items }

abbrev pub task_view : TaskRecord → TaskData
task_view t = record { name = t.name.bytes; pri = t.pri; start = t.start; code = map command_view t.code.items }

-- a machine of those parts, as its file has them
abbrev pub machine_data : ℕ → ℕ → ℕ → ℕ → List Region → List LibraryRecord → List SoftintRecord → List ServerRecord → List TaskRecord → MachineData
machine_data version quantum tick_micros pool regions libraries softints servers tasks = record {
  version = version;
  quantum = quantum;
  tick_micros = tick_micros;
  pool = pool;
  regions = regions;
  libraries = map library_view libraries;
  softints = map softint_view softints;
  servers = map server_view servers;
  tasks = map task_view tasks;
}
