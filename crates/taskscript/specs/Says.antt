-- What a line says, as a relation between its fields and a label or a command.
use Rattle.std.specs.Prelude.{◌≡◌, ℕ, Bool, true, codes, List, [], ◌∷◌, ◌++◌, Option, Some, None, if◌then◌else◌}
use Rattle.script.specs.declared.word.row.Kind.TheVariants.{Value, Label, Name, NameOrNone, Softint}
use Rattle.script.specs.{declared.word.row.Kind.Kind, Names.is_name, Words.word_text, Words.answers, Words.kinds}
use Rattle.taskscript.specs.{Identifiers.is_identifier, Numbers.number_written, Lines.NamedVariableData, Lines.NamedArgumentData, Lines.variable, Lines.number, Lines.label, Lines.quoted, Lines.NamedCommandData, Lines.LineData, Lines.label_line, Lines.command_line}

-- a double quote, `"`
abbrev pub quote : List ℕ
quote = 34 ∷ []

-- the text of a variable: its name, with `@` before it if the variable is shared
abbrev pub variable_text : NamedVariableData → List ℕ
variable_text v = if v.is_shared then 64 ∷ v.name else v.name

-- a field is the name of a private variable, or that of a shared one after @
pub record IsVariable (field : List ℕ) (v : NamedVariableData) : Type 0 where
  pub text : field ≡ variable_text v
  pub named : is_identifier v.name ≡ true

-- A field is an argument of a kind. A value is a variable or a number, and a label is the field itself. A name is
-- between double quotes; where there may be no name, `0` alone means that.
abbrev pub IsArgument : Kind → List ℕ → NamedArgumentData → Type 0
IsArgument Value field (variable v) = IsVariable field v
IsArgument Value field (number n) = number_written field ≡ Some n
IsArgument Label field (label n) = (field ≡ n) × (is_identifier n ≡ true)
IsArgument Name field (quoted n) = (field ≡ quote ++ n ++ quote) × (is_name n ≡ true)
IsArgument NameOrNone field (quoted n) = (field ≡ quote ++ n ++ quote) × (is_name n ≡ true)
IsArgument NameOrNone field (number n) = (field ≡ codes "0") × (n ≡ 0)
IsArgument Softint field (quoted n) = (field ≡ quote ++ n ++ quote) × (is_name n ≡ true)
IsArgument _ _ _ = ⊥

-- there is one field for each kind, and it is the argument
abbrev pub AreArguments : List Kind → List (List ℕ) → List NamedArgumentData → Type 0
AreArguments [] [] [] = Unit {0}
AreArguments (kind ∷ kinds) (field ∷ fields) (a ∷ others) = IsArgument kind field a × AreArguments kinds fields others
AreArguments _ _ _ = ⊥

-- there is no field; or, if the word answers, there are a variable and `=`
abbrev pub IsTarget : Bool → List (List ℕ) → Option NamedVariableData → Type 0
IsTarget may [] None = Unit {0}
IsTarget true (target ∷ equals ∷ []) (Some v) = (equals ≡ codes "=") × IsVariable target v
IsTarget _ _ _ = ⊥

-- the fields are a target or none, the text of the word, and its arguments
pub record IsLine (fields : List (List ℕ)) (c : NamedCommandData) : Type 0 where
  pub before : List (List ℕ)
  pub after : List (List ℕ)
  pub parts : fields ≡ before ++ word_text c.word ∷ after
  pub target : IsTarget (answers c.word) before c.target
  pub arguments : AreArguments (kinds c.word) after c.arguments

-- the one field is a name and `:`
pub record IsLabel (fields : List (List ℕ)) (name : List ℕ) : Type 0 where
  pub one : fields ≡ (name ++ codes ":") ∷ []
  pub named : is_identifier name ≡ true

-- fields say a label, or a command
abbrev pub Says : List (List ℕ) → LineData → Type 0
Says fields (label_line name) = IsLabel fields name
Says fields (command_line c) = IsLine fields c

-- ---- the function that the relation determines

-- what the fields say, or none if they say nothing
abbrev pub IsMeaning : List (List ℕ) → Option LineData → Type 0
IsMeaning fields (Some x) = Says fields x
IsMeaning fields None = (x : LineData) → ¬ Says fields x

-- A function that gives what fields say, if they say something, and none else. Any two such functions are equal, since
-- fields say at most one thing.
pub record Meaning : Type 0 where
  pub answer : List (List ℕ) → Option LineData
  pub right : (fields : List (List ℕ)) → IsMeaning fields (answer fields)
