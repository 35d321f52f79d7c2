-- Commands, as contracts and the abstract machine see them.
use Rattle.std.specs.Prelude.{◌≡◌, ℕ, ◌<◌, All, List, [], ◌∷◌, map, take, IfSome, Option}
use Rattle.script.specs.declared.variable.Variable.TheVariants.{Private, Shared}
use Rattle.script.specs.{declared.word.Word.Word, declared.variable.Variable.Variable, declared.command.Argument.Argument, declared.command.Command.Command}
use Rattle.script.specs.declared.command.Argument.TheVariants as argument

-- an argument: a number, a variable, whose value is meant, a name that was between double quotes, or the place of a
-- command
pub data ArgumentData : Type 0 where
  number : ℕ → ArgumentData
  variable : Variable → ArgumentData
  quoted : List ℕ → ArgumentData
  place : ℕ → ArgumentData

-- a command: its word, the variable that its answer goes to, or none, and its arguments from left to right
pub record CommandData : Type 0 where
  pub word : Word
  pub target : Option Variable
  pub arguments : List ArgumentData

-- ---- limits

-- 32 private variables a body, 64 shared ones
abbrev pub VariableFits : Variable → Type 0
VariableFits (Private n) = n < 32
VariableFits (Shared n) = n < 64

-- an argument is within the limits: a variable's number is
abbrev pub ArgumentFits : ArgumentData → Type 0
ArgumentFits (variable v) = VariableFits v
ArgumentFits _ = Unit {0}

-- a command is within the limits: the numbers of its variables are
pub record CommandFits (c : CommandData) : Type 0 where
  pub target : IfSome c.target VariableFits
  pub arguments : All ArgumentFits c.arguments

-- ---- what the code holds

-- an argument, if the name of the command is this
abbrev pub argument_view : List ℕ → Argument → ArgumentData
argument_view name (argument.Number n) = number n
argument_view name (argument.Variable v) = variable v
argument_view name argument.Quoted = quoted name
argument_view name (argument.Place k) = place k

-- as many arguments as its count says
abbrev pub command_view : Command → CommandData
command_view c = record { word = c.word; target = c.target; arguments = map (argument_view c.name.bytes) (take c.count c.arguments) }

-- ---- the name of a command

-- an argument is this name, if it is a name
abbrev pub IsNamed : List ℕ → ArgumentData → Type 0
IsNamed name (number n) = Unit {0}
IsNamed name (variable v) = Unit {0}
IsNamed name (quoted own) = own ≡ name
IsNamed name (place k) = Unit {0}

-- the name that an argument is, or else another one
abbrev pub name_or : ArgumentData → List ℕ → List ℕ
name_or (number n) other = other
name_or (variable v) other = other
name_or (quoted name) other = name
name_or (place k) other = other

-- the first name of some arguments, or an empty one
abbrev pub first_name : List ArgumentData → List ℕ
first_name [] = []
first_name (a ∷ others) = name_or a (first_name others)
