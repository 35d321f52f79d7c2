-- The variables of a command, one after another.
use Rattle.std.proofs.Common.{◌≡◌, ℕ, ◌+◌, ◌<◌, List, ◌∷◌, ◌++◌, length, map, drop, get_or, ap, sym, ◌∙◌}
use Rattle.std.proofs.lemmas.{List.drop_more, List.Sums.fold-append}
use Rattle.taskscript.specs.{declared.named.NamedArgument.NamedArgument, Lines.NamedVariableData, Lines.named_argument_view, Numbering.Names, Numbering.names_with, Numbering.names_after}

pub names_after-append : (names : Names) (vs ws : List NamedVariableData) → names_after names (vs ++ ws) ≡ names_after (names_after names vs) ws
names_after-append names vs ws = fold-append names_with names vs ws

pub left_split : (xs : List NamedArgument) (i : ℕ) (a : NamedArgument) → i < length xs → a ≡ get_or xs i a
    → map named_argument_view (drop i xs) ≡ named_argument_view a ∷ map named_argument_view (drop (i + 1) xs)
left_split xs i a lt is = ap (map named_argument_view) (drop_more xs i a lt) ∙ ap (λ (b : NamedArgument). named_argument_view b ∷ map named_argument_view (drop (i + 1) xs)) (sym is)
