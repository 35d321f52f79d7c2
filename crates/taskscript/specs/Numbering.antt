-- Variables by number: the number of a name is its place in the order of first sight. Jumps by place.
use Rattle.std.specs.Prelude.{◌≡◌, ℕ, Bool, true, false, ◌&&◌, nat_lt, bytes_eq, List, [], ◌∷◌, ◌++◌, map, Option, Some, None, option_map, Result, Ok, Err, if◌then◌else◌, fold}
use Rattle.std.specs.List.{list_any, position_or_len}
use Rattle.arrayvec.specs.ArrayString.{ArrayString}
use Rattle.taskscript.specs.declared.fault.FileFault.TheVariants.{TooMany, OutOfMemory}
use Rattle.script.specs.declared.variable.Variable.TheVariants.{Private, Shared}
use Rattle.script.specs.{declared.variable.Variable.Variable, Commands.ArgumentData, Commands.CommandData}
use Rattle.taskscript.specs.{declared.fault.FileFault.FileFault, Lines.NamedVariableData, Lines.NamedArgumentData, Lines.number, Lines.variable, Lines.label, Lines.quoted, Lines.NamedCommandData}
use Rattle.script.specs.Commands as numbered
use Rattle.script.specs.Names.{texts}

-- ---- names in the order of first sight

-- the names that were seen, after one more
abbrev pub seen_after : List (List ℕ) → List ℕ → List (List ℕ)
seen_after seen name = if list_any (bytes_eq name) seen then seen else seen ++ name ∷ []

-- the place of a name among those that were seen; after them, if it is new
abbrev pub place_of_name : List (List ℕ) → List ℕ → ℕ
place_of_name seen name = position_or_len (bytes_eq name) seen

-- the names of the private variables of a body, and those of the shared variables of the file up to here, both in the
-- order of first sight
pub record Names : Type 0 where
  pub private : List (List ℕ)
  pub shared : List (List ℕ)

-- the names of the variables, with one more if it is new
abbrev pub names_with : Names → NamedVariableData → Names
names_with names v =
    if v.is_shared then record { private = names.private; shared = seen_after names.shared v.name }
    else record { private = seen_after names.private v.name; shared = names.shared }

-- the names of variables, with those of some more variables that are new
abbrev pub names_after : Names → List NamedVariableData → Names
names_after names variables = fold names_with names variables

-- ---- numbers for names

-- a variable by its number: its place among the names in order of first sight
abbrev pub variable_in : Names → NamedVariableData → Variable
variable_in names v = if v.is_shared then Shared (place_of_name names.shared v.name) else Private (place_of_name names.private v.name)

-- an argument with the number of its variable, or the place that its label has
abbrev pub argument_in : Names → (List ℕ → ℕ) → NamedArgumentData → ArgumentData
argument_in names places (number n) = numbered.number n
argument_in names places (variable v) = numbered.variable (variable_in names v)
argument_in names places (label n) = numbered.place (places n)
argument_in names places (quoted n) = numbered.quoted n

-- a command with numbers and places for its names
abbrev pub command_in : Names → (List ℕ → ℕ) → NamedCommandData → CommandData
command_in names places c =
    record { word = c.word; target = option_map (variable_in names) c.target; arguments = map (argument_in names places) c.arguments }

-- a variable is within the limits: a body has at most 32 private variables, and a file at most 64 shared ones
abbrev pub keeps_variable_limits : Variable → Bool
keeps_variable_limits (Private n) = nat_lt n 32
keeps_variable_limits (Shared n) = nat_lt n 64

-- ---- the names of a command, in the order in which they are seen

-- the variable of a target, if there is one
abbrev pub variables_of_target : Option NamedVariableData → List NamedVariableData
variables_of_target None = []
variables_of_target (Some v) = v ∷ []

-- the variables among some arguments, from left to right
abbrev pub variables_of_arguments : List NamedArgumentData → List NamedVariableData
variables_of_arguments [] = []
variables_of_arguments (number n ∷ others) = variables_of_arguments others
variables_of_arguments (variable v ∷ others) = v ∷ variables_of_arguments others
variables_of_arguments (label n ∷ others) = variables_of_arguments others
variables_of_arguments (quoted n ∷ others) = variables_of_arguments others

-- the variables of a command: the target, and then the arguments from left to right
abbrev pub variables_of : NamedCommandData → List NamedVariableData
variables_of c = variables_of_target c.target ++ variables_of_arguments c.arguments

-- the labels among some arguments: those that the command jumps to
abbrev pub labels_of_arguments : List NamedArgumentData → List (List ℕ)
labels_of_arguments [] = []
labels_of_arguments (number n ∷ others) = labels_of_arguments others
labels_of_arguments (variable v ∷ others) = labels_of_arguments others
labels_of_arguments (label n ∷ others) = n ∷ labels_of_arguments others
labels_of_arguments (quoted n ∷ others) = labels_of_arguments others

-- ---- one variable after another

-- whether all these have room, if they come in turn
abbrev pub have_room : Names → List NamedVariableData → Bool
have_room names [] = true
have_room names (v ∷ others) = keeps_variable_limits (variable_in names v) && have_room (names_with names v) others

-- one name is seen: it has room, or it has none
abbrev pub Sees : {X : Type 0} → Result X FileFault → Bool → Type 0
Sees (Ok x) room = room ≡ true
Sees (Err fault) room = ¬ (fault ≡ OutOfMemory) → (fault ≡ TooMany) × (room ≡ false)

-- some variables are seen in turn: all have room, and the names are those after them; or one has none
abbrev pub SeesAll : {X : Type 0} → Result X FileFault → Names → Names → List NamedVariableData → Type 0
SeesAll (Ok x) before after variables = (have_room before variables ≡ true) × (after ≡ names_after before variables)
SeesAll (Err fault) before after variables = ¬ (fault ≡ OutOfMemory) → (fault ≡ TooMany) × (have_room before variables ≡ false)

-- ---- what the code holds

abbrev pub names_view : List ArrayString → List ArrayString → Names
names_view private shared = record { private = texts private; shared = texts shared }
