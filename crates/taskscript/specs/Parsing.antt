-- How the program reads the fields of a line, step by step. What a line says is the relation `Says`, and it is proved
-- that this reads exactly that.
use Rattle.std.specs.Prelude.{ℕ, ◌-◌, Bool, true, false, ◌&&◌, nat_le, ◌==◌, bytes_eq, codes, List, [], ◌∷◌, length, take, drop, slice_index, Option, Some, None, option_map, if◌then◌else◌}
use Rattle.std.specs.Option.{option_or}
use Rattle.script.specs.declared.word.row.Kind.TheVariants.{Value, Label, Name, NameOrNone, Softint}
use Rattle.script.specs.{declared.word.row.Kind.Kind, Names.is_name, Words.word_of, Words.answers, Words.kinds}
use Rattle.taskscript.specs.{Identifiers.identifier_in, Lines.NamedVariableData, Lines.NamedArgumentData, Lines.number, Lines.variable, Lines.label, Lines.quoted, Lines.NamedCommandData, Lines.LineData, Lines.label_line, Lines.command_line, Numbers.number_written}

-- ---- variables

-- the variable of that name, shared or private, if the text is an identifier
abbrev pub named : Bool → List ℕ → Option NamedVariableData
named is_shared text = option_map (λ name. record { is_shared = is_shared; name = name }) (identifier_in text)

-- the variable of a field: `name` is private to its body, `@name` is shared
abbrev pub variable_of : List ℕ → Option NamedVariableData
variable_of [] = None
variable_of (b ∷ bs) = if b == 64 then named true bs else named false (b ∷ bs)

-- ---- arguments

-- what is between the first and the last byte
abbrev pub inside : List ℕ → List ℕ
inside field = take (length field - 2) (drop 1 field)

-- the name of a field that has it between double quotes
abbrev pub quoted_in : List ℕ → Option (List ℕ)
quoted_in field =
    if nat_le 2 (length field) && ((slice_index field 0 == 34) && (slice_index field (length field - 1) == 34))
    then (if is_name (inside field) then Some (inside field) else None)
    else None

-- the argument of a kind that a field is, if it is one
abbrev pub argument_of : Kind → List ℕ → Option NamedArgumentData
argument_of Value field = option_or (option_map variable (variable_of field)) (option_map number (number_written field))
argument_of Label field = option_map label (identifier_in field)
argument_of Name field = option_map quoted (quoted_in field)
argument_of Softint field = option_map quoted (quoted_in field)
argument_of NameOrNone field = if bytes_eq field (codes "0") then Some (number 0) else option_map quoted (quoted_in field)

infixl 10 ◌>>=◌
-- what f makes of a value, if there is a value
abbrev pub ◌>>=◌ : {A B : Type 0} → Option A → (A → Option B) → Option B
None >>= f = None
(Some x) >>= f = f x

-- the arguments of some fields, if there is one field of each kind, and no more
unfoldable pub arguments_of : List Kind → List (List ℕ) → Option (List NamedArgumentData)
arguments_of [] [] = Some []
arguments_of [] (field ∷ after) = None
arguments_of (kind ∷ kinds) [] = None
arguments_of (kind ∷ kinds) (field ∷ after) = argument_of kind field >>= λ a. arguments_of kinds after >>= λ others. Some (a ∷ others)

-- ---- commands

-- the target of a command, or that it has none; there is a fault if a target is before a word that does not answer
abbrev pub target_of : Bool → Option (List ℕ) → Option (Option NamedVariableData)
target_of may None = Some None
target_of false (Some field) = None
target_of true (Some field) = option_map Some (variable_of field)

-- the command with this target, or with none, and the fields from its word on, if they are a command
unfoldable pub with_word : Option (List ℕ) → List (List ℕ) → Option NamedCommandData
with_word target [] = None
with_word target (text ∷ after) =
    word_of text >>= λ word.
    target_of (answers word) target >>= λ variable.
    arguments_of (kinds word) after >>= λ arguments.
    Some (record { word = word; target = variable; arguments = arguments })

-- the field before `=`, if there is one, and the fields after that; else all fields
abbrev pub cut_target : List (List ℕ) → Option (List ℕ) × List (List ℕ)
cut_target (target ∷ equals ∷ after) = if bytes_eq equals (codes "=") then (Some target, after) else (None, target ∷ equals ∷ after)
cut_target whole = (None, whole)

-- the command of a line's fields, if they are one
abbrev pub command_of : List (List ℕ) → Option NamedCommandData
command_of fields = with_word (cut_target fields).0 (cut_target fields).1

-- ---- labels

-- the name before `:`, if the field is a label
abbrev pub label_in : List ℕ → Option (List ℕ)
label_in field =
    if nat_le 1 (length field) && (slice_index field (length field - 1) == 58) then identifier_in (take (length field - 1) field)
    else None

-- the label of a line, which has one field
abbrev pub label_of : List (List ℕ) → Option (List ℕ)
label_of (field ∷ []) = label_in field
label_of _ = None

-- ---- lines

-- the label or the command of the fields, if they are one
abbrev pub line_of : List (List ℕ) → Option LineData
line_of fields = option_or (option_map label_line (label_of fields)) (option_map command_line (command_of fields))
