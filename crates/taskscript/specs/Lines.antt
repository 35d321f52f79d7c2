-- One line of a body: its fields, and what it can say, a label or a command with names for variables and labels.
use Rattle.std.specs.Prelude.{◌≡◌, ℕ, Bool, ◌==◌, List, map, Option, Some, None, option_map, Result, Ok, Err}
use Rattle.std.specs.List.{slice_split}
use Rattle.taskscript.specs.declared.fault.FileFault.TheVariants.{BadCommand, OutOfMemory}
use Rattle.script.specs.declared.word.Word.{Word}
use Rattle.taskscript.specs.{declared.fault.FileFault.FileFault, declared.variable.NamedVariable.NamedVariable, declared.named.NamedArgument.NamedArgument, declared.named.NamedCommand.NamedCommand, declared.named.Line.Line}
use Rattle.taskscript.specs.declared.named.NamedArgument.TheVariants as argument
use Rattle.taskscript.specs.declared.named.Line.TheVariants as said

-- the parts of a line between single spaces
abbrev pub fields : List ℕ → List (List ℕ)
fields line = slice_split (λ b. b == 32) line

-- ---- variables

-- a variable by its name, the `@` of a shared one left out
pub record NamedVariableData : Type 0 where
  pub is_shared : Bool
  pub name : List ℕ

-- ---- arguments

-- an argument of a line: a number, a variable, a label or a name, as it is written
pub data NamedArgumentData : Type 0 where
  number : ℕ → NamedArgumentData
  variable : NamedVariableData → NamedArgumentData
  label : List ℕ → NamedArgumentData
  quoted : List ℕ → NamedArgumentData

-- ---- commands

-- a word, the variable that its answer goes to, or none, and its arguments from left to right
pub record NamedCommandData : Type 0 where
  pub word : Word
  pub target : Option NamedVariableData
  pub arguments : List NamedArgumentData

-- ---- lines

-- what a line says: it is a label, or a command
pub data LineData : Type 0 where
  label_line : List ℕ → LineData
  command_line : NamedCommandData → LineData

-- ---- what the code holds

abbrev pub named_variable_view : NamedVariable → NamedVariableData
named_variable_view v = record { is_shared = v.is_shared; name = v.name.bytes }

abbrev pub named_argument_view : NamedArgument → NamedArgumentData
named_argument_view (argument.Number n) = number n
named_argument_view (argument.Variable v) = variable (named_variable_view v)
named_argument_view (argument.Label n) = label n.bytes
named_argument_view (argument.Quoted n) = quoted n.bytes

abbrev pub named_command_view : NamedCommand → NamedCommandData
named_command_view c = record { word = c.word; target = option_map named_variable_view c.target; arguments = map named_argument_view c.arguments.items }

abbrev pub line_view : Line → LineData
line_view (said.Label n) = label_line n.bytes
line_view (said.Command c) = command_line (named_command_view c)

-- what is read is the answer, or there is none and the line is refused; out of memory may come at any allocation
abbrev pub Reads : {X Y : Type 0} → Result X FileFault → (X → Y) → Option Y → Type 0
Reads (Ok x) view answer = answer ≡ Some (view x)
Reads (Err fault) view answer = ¬ (fault ≡ OutOfMemory) → (fault ≡ BadCommand) × (answer ≡ None)
