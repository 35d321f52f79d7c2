-- Labels and numbers of a command, one argument and one command after another.
use Rattle.std.proofs.Common.{◌≡◌, ℕ, ◌+◌, ◌<◌, ◌≤◌, Bool, true, false, ◌&&◌, List, [], ◌∷◌, ◌++◌, length, map, drop, take, get_or, Option, Some, All, arith, refl, ap, sym, subst, ◌∙◌, append_assoc, is_some, count_by, append-nil, set}
use Rattle.std.proofs.lemmas.List.{drop_all, drop_more, take_more_set, map_push}
use Rattle.arrayvec.specs.ArrayString.{ArrayString as Name}
use Rattle.script.specs.{declared.command.Argument.Argument, declared.variable.Variable.Variable, declared.word.Word.Word, Commands.ArgumentData, Commands.CommandData, Commands.argument_view, Commands.IsNamed, Commands.first_name, Machines.is_quoted}
use Rattle.taskscript.specs.{declared.fault.FileFault.FileFault, declared.fault.FileFault.TheVariants.BadLabel, declared.named.NamedArgument.NamedArgument, declared.named.NamedCommand.NamedCommand, declared.place.Owner.Owner, declared.refused.Refused.Refused, Faults.check, Places.at, Places.line_at, Places.refused, Labels.Mark, Labels.place_in, Labels.are_marked, Labels.jump_faults_in, Labels.jumps_faults_in, Lines.NamedArgumentData, Lines.number, Lines.variable, Lines.label, Lines.quoted, Lines.NamedCommandData, Lines.named_argument_view, Lines.named_command_view, Numbering.Names, Numbering.argument_in, Numbering.labels_of_arguments}
use Rattle.taskscript.specs.declared.named.NamedArgument.TheVariants as named
use Rattle.execlist.specs.Order.{first}
use Rattle.taskscript.proofs.{Firsts.first_none, Firsts.first_some, Naming.first_named}

and_true : (a b : Bool) → (a && b) ≡ ((a && true) && b)
and_true true b = refl
and_true false b = refl

marked_split : (marks : List Mark) (a : NamedArgumentData) (others : List NamedArgumentData)
    → are_marked marks (labels_of_arguments (a ∷ others)) ≡ (are_marked marks (labels_of_arguments (a ∷ [])) && are_marked marks (labels_of_arguments others))
marked_split marks (number n) others = refl
marked_split marks (variable v) others = refl
marked_split marks (quoted n) others = refl
marked_split marks (label n) others = and_true (is_some (place_in marks n)) (are_marked marks (labels_of_arguments others))

pub marked_more : (marks : List Mark) (a : NamedArgumentData) (left others : List NamedArgumentData) (b : Bool) → left ≡ a ∷ others → are_marked marks (labels_of_arguments (a ∷ [])) ≡ b
    → are_marked marks (labels_of_arguments left) ≡ (b && are_marked marks (labels_of_arguments others))
marked_more marks a left others b is h =
    ap (λ (found : List NamedArgumentData). are_marked marks (labels_of_arguments found)) is ∙ marked_split marks a others
    ∙ ap (λ (c : Bool). c && are_marked marks (labels_of_arguments others)) h

pub front_grown : (name : List ℕ) (xs : List Argument) (i : ℕ) (a : Argument) → i < length xs
    → map (argument_view name) (take (i + 1) (set xs i a)) ≡ map (argument_view name) (take i xs) ++ argument_view name a ∷ []
front_grown name xs i a lt = ap (map (argument_view name)) (take_more_set xs i a lt) ∙ map_push (argument_view name) (take i xs) a

-- one more of what is made of a list by a function
pub made_more : {X Y : Type 0} (f : X → Y) (front grown : List Y) (y : Y) (x : X) (left others : List X) → left ≡ x ∷ others → y ≡ f x → grown ≡ front ++ y ∷ []
    → grown ++ map f others ≡ front ++ map f left
made_more f front grown y x left others is made h =
    ap (λ ys. ys ++ map f others) h ∙ append_assoc front (y ∷ []) (map f others) ∙ ap (λ z. front ++ (z ∷ map f others)) made ∙ ap (λ xs. front ++ map f xs) (sym is)

pub next_command : (xs : List NamedCommand) (i : ℕ) (c : NamedCommand) → i < length xs → c ≡ get_or xs i c
    → map named_command_view (drop i xs) ≡ named_command_view c ∷ map named_command_view (drop (i + 1) xs)
next_command xs i c lt is = ap (map named_command_view) (drop_more xs i c lt) ∙ ap (λ (d : NamedCommand). named_command_view d ∷ map named_command_view (drop (i + 1) xs)) (sym is)

-- all arguments have their numbers and places
pub arguments_resolved : (marks : List Mark) (made : NamedArgumentData → ArgumentData) (named : List NamedArgument) (xs : List Argument) (i : ℕ) → i ≤ length named → length named ≤ i
    → are_marked marks (labels_of_arguments (map named_argument_view (drop i named))) ≡ are_marked marks (labels_of_arguments (map named_argument_view named))
    → ((name : List ℕ) → All (IsNamed name) (map made (map named_argument_view named))
    → map (argument_view name) (take i xs) ++ map made (map named_argument_view (drop i named)) ≡ map made (map named_argument_view named))
    → (are_marked marks (labels_of_arguments (map named_argument_view named)) ≡ true)
    × ((name : List ℕ) → All (IsNamed name) (map made (map named_argument_view named)) → map (argument_view name) (take (length named) xs) ≡ map made (map named_argument_view named))
arguments_resolved marks made named xs i within past known found =
    let end : i ≡ length named = omega (arith, within, past) in
    let none : drop i named ≡ [] = drop_all i named past in (
      sym known ∙ ap (λ (left : List NamedArgument). are_marked marks (labels_of_arguments (map named_argument_view left))) none,
      λ name all. ap (λ k. map (argument_view name) (take k xs)) (sym end) ∙ sym (append-nil (map (argument_view name) (take i xs)))
          ∙ ap (λ (left : List NamedArgument). map (argument_view name) (take i xs) ++ map made (map named_argument_view left)) (sym none) ∙ found name all,
    )

-- ---- the first name

-- a name is the first, and what is not a name leaves it to the others
pub name_first : (names : Names) (places : List ℕ → ℕ) (a : NamedArgument) (name : Name) (left others : List NamedArgumentData) → left ≡ named_argument_view a ∷ others → a ≡ named.Quoted name
    → name.bytes ≡ first_name (map (argument_in names places) left)
name_first names places a name left others is quotes =
    sym (ap (λ xs. first_name (map (argument_in names places) xs)) is
    ∙ ap (λ (b : NamedArgument). first_name (map (argument_in names places) (named_argument_view b ∷ others))) quotes)

not_named : (names : Names) (places : List ℕ → ℕ) (a : NamedArgument) (others : List NamedArgumentData) → ((name : Name) → a ≡ named.Quoted name → ⊥)
    → first_name (map (argument_in names places) others) ≡ first_name (map (argument_in names places) (named_argument_view a ∷ others))
not_named names places (named.Number n) others not = refl
not_named names places (named.Variable v) others not = refl
not_named names places (named.Label n) others not = refl
not_named names places (named.Quoted n) others not = absurd (not n refl)

pub name_left : (names : Names) (places : List ℕ → ℕ) (a : NamedArgument) (left others : List NamedArgumentData) → left ≡ named_argument_view a ∷ others → ((name : Name) → a ≡ named.Quoted name → ⊥)
    → first_name (map (argument_in names places) others) ≡ first_name (map (argument_in names places) left)
name_left names places a left others is not = not_named names places a others not ∙ ap (λ xs. first_name (map (argument_in names places) xs)) (sym is)

-- ---- commands

abbrev command : Word → Option Variable → List ArgumentData → CommandData
command w t found = record { word = w; target = t; arguments = found }

-- a command made of its parts
pub command_made : (w : Word) (t u : Option Variable) (xs : List Argument) (n k : ℕ) (name : List ℕ) (found : List ArgumentData) → n ≡ k → t ≡ u → name ≡ first_name found → count_by is_quoted found ≤ 1
    → ((m : List ℕ) → All (IsNamed m) found → map (argument_view m) (take k xs) ≡ found) → command w t (map (argument_view name) (take n xs)) ≡ command w u found
command_made w t u xs n k name found count target first once made =
    let named : All (IsNamed name) found = subst (λ m. All (IsNamed m) found) (sym first) (first_named found once) in
    ap (λ (o : Option Variable). command w o (map (argument_view name) (take n xs))) target
    ∙ ap (command w u) (ap (λ (j : ℕ). map (argument_view name) (take j xs)) count ∙ made name named)

pub jump_stops : (w : Owner) (j : ℕ) (marks : List Mark) (n : ℕ) (c : NamedCommandData) (numbers ns : List ℕ) (left others : List NamedCommandData) (f : FileFault) (o : Option Refused) → numbers ≡ n ∷ ns → left ≡ c ∷ others
    → (f ≡ BadLabel) × (are_marked marks (labels_of_arguments c.arguments) ≡ false) → first (jumps_faults_in w j marks numbers left) ≡ o → o ≡ Some (refused (line_at w j n) f)
jump_stops w j marks n c numbers ns left others f o has is h so_far =
    sym so_far ∙ ap (λ (ks : List ℕ). first (jumps_faults_in w j marks ks left)) has ∙ ap (λ (cs : List NamedCommandData). first (jumps_faults_in w j marks (n ∷ ns) cs)) is
    ∙ first_some (at (line_at w j n) (jump_faults_in marks c)) (jumps_faults_in w j marks ns others) (refused (line_at w j n) BadLabel) (ap (λ (b : Bool). first (at (line_at w j n) (check b BadLabel))) h.1)
    ∙ ap (λ (g : FileFault). Some (refused (line_at w j n) g)) (sym h.0)

pub jump_goes_on : (w : Owner) (j : ℕ) (marks : List Mark) (n : ℕ) (c : NamedCommandData) (numbers ns : List ℕ) (left others : List NamedCommandData) → numbers ≡ n ∷ ns → left ≡ c ∷ others
    → are_marked marks (labels_of_arguments c.arguments) ≡ true → first (jumps_faults_in w j marks ns others) ≡ first (jumps_faults_in w j marks numbers left)
jump_goes_on w j marks n c numbers ns left others has is h =
    sym (ap (λ (ks : List ℕ). first (jumps_faults_in w j marks ks left)) has ∙ ap (λ (cs : List NamedCommandData). first (jumps_faults_in w j marks (n ∷ ns) cs)) is
    ∙ first_none (at (line_at w j n) (jump_faults_in marks c)) (jumps_faults_in w j marks ns others) (ap (λ (b : Bool). first (at (line_at w j n) (check b BadLabel))) h))
