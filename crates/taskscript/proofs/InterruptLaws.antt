-- What holds of the code of a body without a fault by its setting: the software interrupts that it names are those of
-- the file, and the body of an interrupt has few words and no variables of its own.
use Rattle.std.proofs.Common.{◌≡◌, ℕ, Bool, true, bytes_eq, List, [], ◌∷◌, ◌++◌, map, All, Option, Some, None, IfSome, option_map, refl, ap, ◌∙◌}
use Rattle.std.specs.List.{list_all, list_any, cons_option}
use Rattle.std.proofs.lemmas.{Bool.and_parts, List.Elements.All-nil, List.Elements.All-cons}
use Rattle.script.specs.declared.word.row.Kind.TheVariants.{Value, Label, Name, NameOrNone, Softint}
use Rattle.script.specs.{declared.word.row.Kind.Kind, Commands.ArgumentData, Machines.IsShared, Machines.ReadsShared, Machines.IsOfInterrupt, Machines.softint_asked, Machines.softints_named, Machines.NamesSoftints, Words.kinds}
use Rattle.taskscript.specs.{declared.place.Owner.Owner, Code.body_faults, Code.code_of, Interrupting.Setting, Interrupting.is_of_interrupt, Interrupting.softint_argument, Interrupting.softints_among, Lines.NamedVariableData, Lines.NamedArgumentData, Lines.number, Lines.variable, Lines.label, Lines.quoted, Lines.NamedCommandData, Numbering.Names, Numbering.variable_in, Numbering.argument_in, Numbering.command_in, Numbering.variables_of_target, Numbering.variables_of_arguments}
use Rattle.script.specs.Commands as numbered
use Rattle.execlist.specs.Order.{first}
use Rattle.taskscript.proofs.CodeLaws.{each_command}

-- ---- the software interrupts that a command names

asked : (names : Names) (places : List ℕ → ℕ) (k : Kind) (a : NamedArgumentData) → softint_asked k (argument_in names places a) ≡ softint_argument k a
asked names places Value a = refl
asked names places Label a = refl
asked names places Name a = refl
asked names places NameOrNone a = refl
asked names places Softint (number n) = refl
asked names places Softint (variable v) = refl
asked names places Softint (label n) = refl
asked names places Softint (quoted n) = refl

all_asked : (names : Names) (places : List ℕ → ℕ) (ks : List Kind) (found : List NamedArgumentData) → softints_named ks (map (argument_in names places) found) ≡ softints_among ks found
all_asked names places [] found = refl
all_asked names places (k ∷ ks) [] = refl
all_asked names places (k ∷ ks) (a ∷ found) =
    ap (λ (o : Option (List ℕ)). cons_option o (softints_named ks (map (argument_in names places) found))) (asked names places k a)
    ∙ ap (λ (others : List (List ℕ)). cons_option (softint_argument k a) others) (all_asked names places ks found)

all_true : (p : List ℕ → Bool) (ns : List (List ℕ)) → list_all p ns ≡ true → All (λ n. p n ≡ true) ns
all_true p [] h = All-nil (λ n. p n ≡ true)
all_true p (n ∷ ns) h = All-cons (λ m. p m ≡ true) n ns (and_parts (p n) (list_all p ns) h).0 (all_true p ns (and_parts (p n) (list_all p ns) h).1)

pub commands_named : (w : Owner) (j : ℕ) (s : Setting) (shared lines : List (List ℕ)) → first (body_faults w j s shared lines) ≡ None → All (NamesSoftints s.softints) (code_of shared lines)
commands_named w j s shared lines h =
    each_command (NamesSoftints s.softints) w j s shared lines
    (λ names places c stands. rw (all_asked names places (kinds c.word) c.arguments) (all_true (λ n. list_any (bytes_eq n) s.softints) (softints_among (kinds c.word) c.arguments) stands.named)) h

-- ---- the body of an interrupt

abbrev all_shared : List NamedVariableData → Bool
all_shared vs = list_all (λ (v : NamedVariableData). v.is_shared) vs

variable_shared : (names : Names) (v : NamedVariableData) → v.is_shared ≡ true → IsShared (variable_in names v)
variable_shared names v h = rw h tt

target_shared : (names : Names) (t : Option NamedVariableData) (others : List NamedVariableData) → all_shared (variables_of_target t ++ others) ≡ true → IfSome (option_map (variable_in names) t) IsShared
target_shared names None others h = tt
target_shared names (Some v) others h = variable_shared names v (and_parts v.is_shared (all_shared others) h).0

after_target : (t : Option NamedVariableData) (others : List NamedVariableData) → all_shared (variables_of_target t ++ others) ≡ true → all_shared others ≡ true
after_target None others h = h
after_target (Some v) others h = (and_parts v.is_shared (all_shared others) h).1

arguments_shared : (names : Names) (places : List ℕ → ℕ) (found : List NamedArgumentData) → all_shared (variables_of_arguments found) ≡ true → All ReadsShared (map (argument_in names places) found)
arguments_shared names places [] h = All-nil ReadsShared
arguments_shared names places (number n ∷ found) h = All-cons ReadsShared (numbered.number n) (map (argument_in names places) found) tt (arguments_shared names places found h)
arguments_shared names places (label n ∷ found) h = All-cons ReadsShared (numbered.place (places n)) (map (argument_in names places) found) tt (arguments_shared names places found h)
arguments_shared names places (quoted n ∷ found) h = All-cons ReadsShared (numbered.quoted n) (map (argument_in names places) found) tt (arguments_shared names places found h)
arguments_shared names places (variable v ∷ found) h =
    let parts = and_parts v.is_shared (all_shared (variables_of_arguments found)) h in
    All-cons ReadsShared (numbered.variable (variable_in names v)) (map (argument_in names places) found) (variable_shared names v parts.0) (arguments_shared names places found parts.1)

command_interrupts : (names : Names) (places : List ℕ → ℕ) (c : NamedCommandData) → is_of_interrupt c ≡ true → IsOfInterrupt (command_in names places c)
command_interrupts names places c h =
    let parts = and_parts _ _ h in
    record {
      word = parts.0;
      target = target_shared names c.target (variables_of_arguments c.arguments) parts.1;
      arguments = arguments_shared names places c.arguments (after_target c.target (variables_of_arguments c.arguments) parts.1);
    }

abbrev interrupting : List (List ℕ) → Setting
interrupting softints = record { of_interrupt = true; softints = softints }

pub commands_interrupt : (w : Owner) (j : ℕ) (softints shared lines : List (List ℕ)) → first (body_faults w j (interrupting softints) shared lines) ≡ None → All IsOfInterrupt (code_of shared lines)
commands_interrupt w j softints shared lines h = each_command IsOfInterrupt w j (interrupting softints) shared lines (λ names places c stands. command_interrupts names places c stands.stands) h
