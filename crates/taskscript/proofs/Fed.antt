-- A command with no variable and no jump is the same in each body.
use Rattle.std.proofs.Common.{◌≡◌, ◌∙◌, ℕ, Bool, true, false, ◌&&◌, not, is_some, List, [], ◌∷◌, ◌++◌, map, Option, None, Some, option_map, Result, Ok, Err, MatchResult, if◌then◌else◌, refl, ap, ap₂, sym}
use Rattle.std.specs.List.{list_all}
use Rattle.script.specs.{declared.command.Command.Command, declared.variable.Variable.Variable, Commands.ArgumentData, Commands.CommandFits, Commands.command_view, Machines.QuotesOnce}
use Rattle.script.specs.Commands as numbered
use Rattle.taskscript.specs.{declared.fault.FileFault.FileFault, declared.named.NamedArgument.NamedArgument, declared.variable.NamedVariable.NamedVariable, Feeding.IsFed, Feeding.fed_said, Feeding.is_fixed, Feeding.may_be_fed, Labels.Mark, Labels.are_marked, Labels.Resolves, Lines.NamedVariableData, Lines.NamedArgumentData, Lines.number, Lines.variable, Lines.label, Lines.quoted, Lines.NamedCommandData, Lines.LineData, Lines.command_line, Lines.fields, Lines.named_argument_view, Lines.named_variable_view, Meaning.line_meaning, Numbering.Names, Numbering.argument_in, Numbering.command_in, Numbering.keeps_variable_limits, Numbering.variable_in, Numbering.variables_of_target, Numbering.variables_of_arguments, Numbering.labels_of_arguments}
use Rattle.taskscript.specs.declared.fault.FileFault.TheVariants.{BadCommand, OutOfMemory}
use Rattle.taskscript.proofs.{CodeLaws.command_fits, OneName.once, OwnArguments.command_has, Readings.is_said}

-- ---- the parts of the test

first_true : (a b : Bool) → (a && b) ≡ true → a ≡ true
first_true true b h = refl
first_true false b h = absurd cc

second_true : (a b : Bool) → (a && b) ≡ true → b ≡ true
second_true true b h = h
second_true false b h = absurd cc

none_there : {X : Type 0} (o : Option X) → not (is_some o) ≡ true → o ≡ None
none_there None h = refl
none_there (Some x) h = absurd cc

-- ---- arguments

arguments_same : (names other : Names) (places elsewhere : List ℕ → ℕ) (found : List NamedArgumentData) → list_all is_fixed found ≡ true
    → map (argument_in names places) found ≡ map (argument_in other elsewhere) found
arguments_same names other places elsewhere [] h = refl
arguments_same names other places elsewhere (number n ∷ found) h = ap (λ xs. numbered.number n ∷ xs) (arguments_same names other places elsewhere found h)
arguments_same names other places elsewhere (quoted n ∷ found) h = ap (λ xs. numbered.quoted n ∷ xs) (arguments_same names other places elsewhere found h)
arguments_same names other places elsewhere (variable v ∷ found) h = let bad : false ≡ true = h in absurd cc
arguments_same names other places elsewhere (label n ∷ found) h = let bad : false ≡ true = h in absurd cc

no_variables : (found : List NamedArgumentData) → list_all is_fixed found ≡ true → variables_of_arguments found ≡ []
no_variables [] h = refl
no_variables (number n ∷ found) h = no_variables found h
no_variables (quoted n ∷ found) h = no_variables found h
no_variables (variable v ∷ found) h = let bad : false ≡ true = h in absurd cc
no_variables (label n ∷ found) h = let bad : false ≡ true = h in absurd cc

no_labels : (found : List NamedArgumentData) → list_all is_fixed found ≡ true → labels_of_arguments found ≡ []
no_labels [] h = refl
no_labels (number n ∷ found) h = no_labels found h
no_labels (quoted n ∷ found) h = no_labels found h
no_labels (variable v ∷ found) h = let bad : false ≡ true = h in absurd cc
no_labels (label n ∷ found) h = let bad : false ≡ true = h in absurd cc

-- ---- commands

module _ (c : NamedCommandData) (fixed : may_be_fed c ≡ true) where
  no_target : c.target ≡ None
  no_target = none_there c.target (first_true (not (is_some c.target)) (list_all is_fixed c.arguments) fixed)

  fixed_arguments : list_all is_fixed c.arguments ≡ true
  fixed_arguments = second_true (not (is_some c.target)) (list_all is_fixed c.arguments) fixed

  pub same_command : (names other : Names) (places elsewhere : List ℕ → ℕ) → command_in names places c ≡ command_in other elsewhere c
  same_command names other places elsewhere =
      ap₂ (λ (t : Option Variable) (xs : List ArgumentData). record { word = c.word; target = t; arguments = xs })
      (ap (option_map (variable_in names)) no_target ∙ sym (ap (option_map (variable_in other)) no_target))
      (arguments_same names other places elsewhere c.arguments fixed_arguments)

  pub fixed_fits : (names : Names) (places : List ℕ → ℕ) → CommandFits (command_in names places c)
  fixed_fits names places =
      command_fits names places c
      (ap₂ (λ (t : Option NamedVariableData) (vs : List NamedVariableData). list_all (λ v. keeps_variable_limits (variable_in names v)) (variables_of_target t ++ vs))
      no_target (no_variables c.arguments fixed_arguments))

  pub fixed_marked : (marks : List Mark) → are_marked marks (labels_of_arguments c.arguments) ≡ true
  fixed_marked marks = ap (are_marked marks) (no_labels c.arguments fixed_arguments)

-- a command that a line says has one name at most
pub said_once : (line : List ℕ) (c : NamedCommandData) (names : Names) (places : List ℕ → ℕ) → line_meaning line ≡ Some (command_line c) → QuotesOnce (command_in names places c)
said_once line c names places is = once (command_in names places c) (command_has names places (fields line) c (is_said line (command_line c) is))

-- the test of a command is that of its arguments, if it has no target
all_fixed : (xs : List NamedArgument) → list_all is_fixed (map named_argument_view xs) ≡ list_all (λ (a : NamedArgument). is_fixed (named_argument_view a)) xs
all_fixed [] = refl
all_fixed (x ∷ xs) = ap (λ (b : Bool). is_fixed (named_argument_view x) && b) (all_fixed xs)

pub fed_without_target : (target : Option NamedVariable) (xs : List NamedArgument) → target ≡ None
    → (not (is_some (option_map named_variable_view target)) && list_all is_fixed (map named_argument_view xs)) ≡ list_all (λ (a : NamedArgument). is_fixed (named_argument_view a)) xs
fed_without_target target xs none =
    ap (λ (o : Option NamedVariable). not (is_some (option_map named_variable_view o)) && list_all is_fixed (map named_argument_view xs)) none ∙ all_fixed xs

-- ---- what is read

-- a command whose labels are all there, as it has none, is the same in each body
pub fixed_read : (c : NamedCommandData) (marks : List Mark) (own : Names) (there : List ℕ → ℕ) (result : Result Command FileFault) → may_be_fed c ≡ true
    → Resolves result (are_marked marks (labels_of_arguments c.arguments)) (λ x. command_view x ≡ command_in own there c)
    → MatchResult result (λ x. (names : Names) (places : List ℕ → ℕ) → command_in names places c ≡ command_view x) (λ _. ⊥)
fixed_read c marks own there (Ok x) fixed found = λ names places. same_command c fixed names own places there ∙ sym found.1
fixed_read c marks own there (Err fault) fixed found = let bad : true ≡ false = sym (fixed_marked c fixed marks) ∙ found.1 in absurd cc

command_taken : (o : Option LineData) (c : NamedCommandData) → o ≡ Some (command_line c) → may_be_fed c ≡ true → fed_said o ≡ Some c
command_taken o c is fixed = ap fed_said is ∙ ap (λ (b : Bool). if b then Some c else None) fixed

pub command_read : (line : List ℕ) (c : NamedCommandData) (result : Result Command FileFault) → line_meaning line ≡ Some (command_line c) → may_be_fed c ≡ true
    → MatchResult result (λ x. (names : Names) (places : List ℕ → ℕ) → command_in names places c ≡ command_view x) (λ _. ⊥)
    → MatchResult result (λ x. IsFed line (command_view x)) (λ fault. ¬ (fault ≡ OutOfMemory) → (fault ≡ BadCommand) × (fed_said (line_meaning line) ≡ None))
command_read line c (Ok x) is fixed all = record { named = c; said = command_taken (line_meaning line) c is fixed; same = all }
command_read line c (Err fault) is fixed bad = absurd bad
