-- What a body of an interrupt may have, and the software interrupts that a command names, one argument after another.
use Rattle.std.proofs.Common.{◌≡◌, ℕ, Bool, ◌&&◌, bytes_eq, List, [], ◌∷◌, ◌++◌, map, Option, option_map, refl, ap, ◌∙◌}
use Rattle.std.specs.List.{list_all, list_any}
use Rattle.std.proofs.lemmas.List.Folds.{list_all-append}
use Rattle.taskscript.specs.{declared.named.NamedArgument.NamedArgument, declared.variable.NamedVariable.NamedVariable, Interrupting.is_open, Lines.NamedVariableData, Lines.named_variable_view, Lines.named_argument_view, Numbering.variables_of_target, Numbering.variables_of_arguments}
use Rattle.taskscript.specs.declared.named.NamedArgument.TheVariants as named

-- ---- variables

abbrev is_shared : NamedVariableData → Bool
is_shared v = v.is_shared

arguments_open : (xs : List NamedArgument) → list_all is_shared (variables_of_arguments (map named_argument_view xs)) ≡ list_all (λ (a : NamedArgument). is_open (named_argument_view a)) xs
arguments_open [] = refl
arguments_open (named.Number n ∷ xs) = arguments_open xs
arguments_open (named.Label n ∷ xs) = arguments_open xs
arguments_open (named.Quoted n ∷ xs) = arguments_open xs
arguments_open (named.Variable v ∷ xs) = ap (λ (b : Bool). v.is_shared && b) (arguments_open xs)

pub all_open : (target : Option NamedVariable) (xs : List NamedArgument)
    → list_all is_shared (variables_of_target (option_map named_variable_view target) ++ variables_of_arguments (map named_argument_view xs))
    ≡ (list_all is_shared (variables_of_target (option_map named_variable_view target)) && list_all (λ (a : NamedArgument). is_open (named_argument_view a)) xs)
all_open target xs =
    let vs = variables_of_target (option_map named_variable_view target) in
    list_all-append is_shared vs (variables_of_arguments (map named_argument_view xs)) ∙ ap (λ (b : Bool). list_all is_shared vs && b) (arguments_open xs)

-- ---- names of software interrupts

-- whether these are all known
abbrev pub are_known : List (List ℕ) → List (List ℕ) → Bool
are_known softints names = list_all (λ name. list_any (bytes_eq name) softints) names
