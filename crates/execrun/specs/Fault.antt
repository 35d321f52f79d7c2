-- What a fault of the simulator is to the program, and what the program says of each fault.
use Rattle.std.specs.Prelude.{ℕ, List, ◌++◌, codes}
use Rattle.taskscript.specs.declared.fault.FileFault.TheVariants as file
use Rattle.taskscript.specs.declared.fault.EventFault.TheVariants as event
use Rattle.execsim.specs.declared.simulation.SimFault.{SimFault}
use Rattle.execsim.specs.declared.simulation.SimFault.TheVariants as sim
use Rattle.execrun.specs.declared.fault.Fault.TheVariants.{Machine, Events, NoMemory, CannotRead, WriteFailed}
use Rattle.execrun.specs.{declared.fault.Fault.Fault, Message.event_fault_text}
use Rattle.taskscript.specs.Faults.{file_fault_name}
use Rattle.escape.specs.Shown.{shown}

-- memory that a reader was refused is memory that was refused
abbrev pub fault_of : SimFault → Fault
fault_of (sim.File file.OutOfMemory) = NoMemory
fault_of (sim.File fault) = Machine fault
fault_of (sim.Events event.OutOfMemory) = NoMemory
fault_of (sim.Events fault) = Events fault
fault_of sim.Memory = NoMemory
fault_of sim.Write = WriteFailed

-- the line of a fault, without its line feed
abbrev pub message_of : Fault → List ℕ
message_of (Machine fault) = codes "execsim: machine: " ++ file_fault_name fault
message_of (Events fault) = codes "execsim: events: " ++ event_fault_text fault
message_of NoMemory = codes "execsim: no memory"
message_of (CannotRead path) = codes "execsim: cannot read " ++ shown path.now
message_of WriteFailed = codes "execsim: write failed"

-- and with it
abbrev pub line_of : Fault → List ℕ
line_of fault = message_of fault ++ codes "\n"
