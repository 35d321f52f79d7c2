-- A body as it is read: line after line, with what was read so far.
use Rattle.std.specs.Prelude.{◌≡◌, ℕ, ◌+◌, not, is_some, List, [], ◌∷◌, ◌++◌, length, map, Option, Some, None, Result, fold}
use Rattle.arrayvec.specs.ArrayString.{ArrayString}
use Rattle.taskscript.specs.declared.fault.FileFault.TheVariants.{BadCommand, NotInInterrupt, BadLabel, TooMany}
use Rattle.taskscript.specs.{declared.body.Body.Body, declared.fault.FileFault.FileFault, Faults.check, Faults.JudgesLine, declared.place.Owner.Owner, declared.refused.Refused.Refused, Places.at, Places.line_at, Interrupting.Setting, Interrupting.may_have, Interrupting.names_softints, Labels.Mark, Labels.place_in, Labels.marks_view, Lines.NamedCommandData, Lines.LineData, Lines.label_line, Lines.command_line, Lines.named_command_view, Meaning.line_meaning, Numbering.Names, Numbering.names_after, Numbering.variables_of, Numbering.have_room, Numbering.names_view}

-- the commands, the names of variables and the labels so far
pub record Reading : Type 0 where
  pub commands : List NamedCommandData
  pub names : Names
  pub marks : List Mark

-- nothing yet, after the shared names of the bodies before
abbrev pub nothing_read : List (List ℕ) → Reading
nothing_read shared = record { commands = []; names = record { private = []; shared = shared }; marks = [] }

-- after what one line says
abbrev pub reading_with : Reading → Option LineData → Reading
reading_with r None = r
reading_with r (Some (label_line name)) =
    record r { marks = r.marks ++ record { name = name; place = length r.commands } ∷ [] }
reading_with r (Some (command_line c)) =
    record r { commands = r.commands ++ c ∷ []; names = names_after r.names (variables_of c) }

abbrev pub reading_after : Reading → List (List ℕ) → Reading
reading_after r lines = fold (λ before line. reading_with before (line_meaning line)) r lines

-- the faults of what one line says
abbrev pub said_faults : Setting → Reading → Option LineData → List FileFault
said_faults setting r None = BadCommand ∷ []
said_faults setting r (Some (label_line name)) =
    check (not setting.of_interrupt) NotInInterrupt ++ check (not (is_some (place_in r.marks name))) BadLabel
said_faults setting r (Some (command_line c)) =
    check (names_softints setting c) BadCommand
    ++ (check (may_have setting c) NotInInterrupt
    ++ check (have_room r.names (variables_of c)) TooMany)

-- the faults of the lines of the body of an item from that number on
abbrev pub faults_after : Owner → ℕ → ℕ → Setting → Reading → List (List ℕ) → List Refused
faults_after owner item number setting r [] = []
faults_after owner item number setting r (line ∷ others) =
    at (line_at owner item number) (said_faults setting r (line_meaning line)) ++ faults_after owner item (number + 1) setting (reading_with r (line_meaning line)) others

-- the body is read by what one line says, or the line has a fault
abbrev pub ReadsOn : {X : Type 0} → Setting → Result X FileFault → Reading → Reading → Option LineData → Type 0
ReadsOn setting result before after said = JudgesLine result (said_faults setting before said) (λ _. after ≡ reading_with before said)

-- ---- what the code holds

abbrev pub reading_view : Body → List ArrayString → Reading
reading_view body shared =
    record {
      commands = map named_command_view body.commands.items;
      names = names_view body.private.keys shared;
      marks = marks_view body.labels.entries;
    }
