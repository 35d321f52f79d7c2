-- A command has the arguments of its word, since the line that says it has.
use Rattle.std.proofs.Common.{◌≡◌, ℕ, List, [], ◌∷◌, map, All, Option, Some, None, refl}
use Rattle.std.specs.List.{cons_option}
use Rattle.std.proofs.lemmas.List.Elements.{All-nil, All-cons}
use Rattle.script.specs.declared.word.row.Kind.TheVariants.{Value, Label, Name, NameOrNone, Softint}
use Rattle.script.specs.{declared.word.row.Kind.Kind, Machines.IsOfKind, Machines.AreOfKinds, Machines.HasItsArguments, Words.kinds}
use Rattle.taskscript.specs.{Code.command_said, Code.commands_of, Code.place_of, Code.names_of, Code.code_of, Lines.fields, Lines.NamedArgumentData, Lines.variable, Lines.number, Lines.label, Lines.quoted, Lines.NamedCommandData, Lines.LineData, Lines.label_line, Lines.command_line, Meaning.line_meaning, Numbering.Names, Numbering.argument_in, Numbering.command_in, Says.IsArgument, Says.AreArguments, Says.IsLine}
use Rattle.taskscript.proofs.Readings.{is_said}

argument_kind : (names : Names) (places : List ℕ → ℕ) (k : Kind) (f : List ℕ) (a : NamedArgumentData) → IsArgument k f a → IsOfKind k (argument_in names places a)
argument_kind names places Value f (variable v) h = tt
argument_kind names places Value f (number n) h = tt
argument_kind names places Value f (label n) h = h
argument_kind names places Value f (quoted n) h = h
argument_kind names places Label f (variable v) h = h
argument_kind names places Label f (number n) h = h
argument_kind names places Label f (label n) h = tt
argument_kind names places Label f (quoted n) h = h
argument_kind names places Name f (variable v) h = h
argument_kind names places Name f (number n) h = h
argument_kind names places Name f (label n) h = h
argument_kind names places Name f (quoted n) h = h.1
argument_kind names places Softint f (variable v) h = h
argument_kind names places Softint f (number n) h = h
argument_kind names places Softint f (label n) h = h
argument_kind names places Softint f (quoted n) h = h.1
argument_kind names places NameOrNone f (variable v) h = h
argument_kind names places NameOrNone f (number n) h = h.1
argument_kind names places NameOrNone f (label n) h = h
argument_kind names places NameOrNone f (quoted n) h = h.1

argument_kinds : (names : Names) (places : List ℕ → ℕ) (ks : List Kind) (fs : List (List ℕ)) (found : List NamedArgumentData) → AreArguments ks fs found
    → AreOfKinds ks (map (argument_in names places) found)
argument_kinds names places [] [] [] h = tt
argument_kinds names places [] [] (a ∷ found) h = h
argument_kinds names places [] (f ∷ fs) found h = absurd h
argument_kinds names places (k ∷ ks) [] found h = absurd h
argument_kinds names places (k ∷ ks) (f ∷ fs) [] h = h
argument_kinds names places (k ∷ ks) (f ∷ fs) (a ∷ found) h = (argument_kind names places k f a h.0, argument_kinds names places ks fs found h.1)

pub command_has : (names : Names) (places : List ℕ → ℕ) (fs : List (List ℕ)) (c : NamedCommandData) → IsLine fs c → HasItsArguments (command_in names places c)
command_has names places fs c l = argument_kinds names places (kinds c.word) l.after c.arguments l.arguments

said_has : (names : Names) (places : List ℕ → ℕ) (o : Option LineData) (others : List NamedCommandData)
    → ((c : NamedCommandData) → o ≡ Some (command_line c) → HasItsArguments (command_in names places c))
    → All HasItsArguments (map (command_in names places) others) → All HasItsArguments (map (command_in names places) (cons_option (command_said o) others))
said_has names places None others has rest = rest
said_has names places (Some (label_line n)) others has rest = rest
said_has names places (Some (command_line c)) others has rest =
    All-cons HasItsArguments (command_in names places c) (map (command_in names places) others) (has c refl) rest

pub lines_have : (names : Names) (places : List ℕ → ℕ) (lines : List (List ℕ)) → All HasItsArguments (map (command_in names places) (commands_of lines))
lines_have names places [] = All-nil HasItsArguments
lines_have names places (line ∷ others) =
    said_has names places (line_meaning line) (commands_of others) (λ c is. command_has names places (fields line) c (is_said line (command_line c) is))
    (lines_have names places others)

pub commands_have : (shared lines : List (List ℕ)) → All HasItsArguments (code_of shared lines)
unfolding code_of
commands_have shared lines = lines_have (names_of shared lines) (place_of lines) lines
