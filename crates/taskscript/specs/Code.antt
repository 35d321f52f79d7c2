-- The code of one body: the commands of its lines, or all their faults in order.
use Rattle.std.specs.Prelude.{ℕ, ◌+◌, Bool, false, not, nat_le, bytes_eq, List, [], ◌∷◌, ◌++◌, length, map, Option, Some, None, filter_map, flat_map}
use Rattle.std.specs.{List.list_all, List.list_any, List.before_first, Option.option_map_or}
use Rattle.toml.specs.Data.{Data, string, Items, no_items, item as an_item}
use Rattle.taskscript.specs.declared.fault.FileFault.TheVariants.{BadCommand, NotInInterrupt, BadLabel, TooMany}
use Rattle.taskscript.specs.Numbering.{Names, names_after, variable_in, command_in, keeps_variable_limits, variables_of, labels_of_arguments}
use Rattle.script.specs.Commands.{CommandData}
use Rattle.taskscript.specs.{declared.fault.FileFault.FileFault, declared.place.Owner.Owner, declared.refused.Refused.Refused, Places.at, Places.line_at, Faults.check, Lines.NamedCommandData, Lines.LineData, Lines.label_line, Lines.command_line, Interrupting.Setting, Interrupting.may_have, Interrupting.names_softints, Meaning.line_meaning}

-- ---- lines

-- the text of an item; an item that is not a string counts as the empty text, which says nothing
abbrev pub line_in : Data → List ℕ
line_in (string text) = text
line_in _ = []

-- the lines of an array of strings
abbrev pub lines_in : Items → List (List ℕ)
lines_in no_items = []
lines_in (an_item d ds) = line_in d ∷ lines_in ds

-- the command that a line is, if it is one
abbrev pub command_said : Option LineData → Option NamedCommandData
command_said (Some (command_line c)) = Some c
command_said _ = None

-- the label that a line is, if it is one
abbrev pub label_said : Option LineData → Option (List ℕ)
label_said (Some (label_line name)) = Some name
label_said _ = None

-- ---- a body, after the shared names of the bodies before it

-- the commands of those lines that are commands
abbrev pub commands_of : List (List ℕ) → List NamedCommandData
commands_of lines = filter_map (λ line. command_said (line_meaning line)) lines

-- the labels of those lines that are labels
abbrev pub labels_of : List (List ℕ) → List (List ℕ)
labels_of lines = filter_map (λ line. label_said (line_meaning line)) lines

-- a line is the label of a name
abbrev pub is_label_of : List ℕ → List ℕ → Bool
is_label_of name line = option_map_or (bytes_eq name) (label_said (line_meaning line)) false

-- the place that a label names: the number of commands before it
abbrev pub place_of : List (List ℕ) → List ℕ → ℕ
place_of lines name = length (commands_of (before_first (is_label_of name) lines))

-- all names of variables in the order of first sight, after the shared ones that were seen before; a line that is not a
-- command names none
abbrev pub names_of : List (List ℕ) → List (List ℕ) → Names
names_of shared lines = names_after (record { private = []; shared = shared }) (flat_map variables_of (commands_of lines))

-- ---- faults

-- The faults of what a line says, after the labels before it: BadCommand if it says nothing, or names a software
-- interrupt that the file lacks; NotInInterrupt if the body is that of an interrupt, which may not have such a line;
-- BadLabel if the line is a label that was there before; TooMany if it has a variable past the limit.
abbrev pub line_faults : Setting → Names → List (List ℕ) → Option LineData → List FileFault
line_faults setting names before None = BadCommand ∷ []
line_faults setting names before (Some (label_line name)) =
    check (not setting.of_interrupt) NotInInterrupt ++ check (not (list_any (bytes_eq name) before)) BadLabel
line_faults setting names before (Some (command_line c)) =
    check (names_softints setting c) BadCommand
    ++ (check (may_have setting c) NotInInterrupt
    ++ check (list_all (λ v. keeps_variable_limits (variable_in names v)) (variables_of c)) TooMany)

-- the faults of the lines of a body from that number on, each after the labels before it
abbrev pub lines_faults : Owner → ℕ → ℕ → Setting → Names → List (List ℕ) → List (List ℕ) → List Refused
lines_faults owner item number setting names before [] = []
lines_faults owner item number setting names before (line ∷ others) =
    at (line_at owner item number) (line_faults setting names before (line_meaning line))
    ++ lines_faults owner item (number + 1) setting names (before ++ labels_of (line ∷ [])) others

-- BadLabel, if a command jumps to a label that is not among these
abbrev pub jump_faults : List (List ℕ) → NamedCommandData → List FileFault
jump_faults labels c = check (list_all (λ name. list_any (bytes_eq name) labels) (labels_of_arguments c.arguments)) BadLabel

-- the fault of the jump of a line, if it is a command that jumps
abbrev pub jumps_said : List (List ℕ) → Option NamedCommandData → List FileFault
jumps_said labels None = []
jumps_said labels (Some c) = jump_faults labels c

-- the faults of the jumps of the lines from that number on
abbrev pub jumps_faults : Owner → ℕ → ℕ → List (List ℕ) → List (List ℕ) → List Refused
jumps_faults owner item number labels [] = []
jumps_faults owner item number labels (line ∷ others) =
    at (line_at owner item number) (jumps_said labels (command_said (line_meaning line))) ++ jumps_faults owner item (number + 1) labels others

-- The faults of a body: TooMany at the line after the 1,024th, if there are more; then those of its lines in their
-- order, and then those of its jumps in their order.
unfoldable pub body_faults : Owner → ℕ → Setting → List (List ℕ) → List (List ℕ) → List Refused
body_faults owner item setting shared lines =
    at (line_at owner item 1024) (check (nat_le (length lines) 1024) TooMany)
    ++ (lines_faults owner item 0 setting (names_of shared lines) [] lines
    ++ jumps_faults owner item 0 (labels_of lines) lines)

-- ---- the code

-- the commands of a body, with their variables by number and their labels by the place of the command after them
unfoldable pub code_of : List (List ℕ) → List (List ℕ) → List CommandData
code_of shared lines = map (command_in (names_of shared lines) (place_of lines)) (commands_of lines)

-- the names of the shared variables, in order of first sight, after a body
unfoldable pub shared_after : List (List ℕ) → List (List ℕ) → List (List ℕ)
shared_after shared lines = (names_of shared lines).shared
