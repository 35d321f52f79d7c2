-- Labels, and the places that they name.
use Rattle.std.specs.Prelude.{◌≡◌, ℕ, Bool, true, false, bytes_eq, is_some, unwrap_or, List, [], ◌∷◌, ◌++◌, map, Option, Some, None, Result, Ok, Err, if◌then◌else◌}
use Rattle.std.specs.List.{list_all}
use Rattle.arrayvec.specs.ArrayString.{ArrayString}
use Rattle.taskscript.specs.{declared.fault.FileFault.FileFault, declared.fault.FileFault.TheVariants.BadLabel, Faults.check, declared.place.Owner.Owner, declared.refused.Refused.Refused, Lines.NamedCommandData, Places.at, Places.line_at, Numbering.labels_of_arguments}

-- a label and its place, which is the number of the commands before it
pub record Mark : Type 0 where
  pub name : List ℕ
  pub place : ℕ

-- the place of a label, if it is one of these
abbrev pub place_in : List Mark → List ℕ → Option ℕ
place_in [] name = None
place_in (mark ∷ others) name = if bytes_eq name mark.name then Some mark.place else place_in others name

abbrev pub place_at : List Mark → List ℕ → ℕ
place_at marks name = unwrap_or (place_in marks name) 0

abbrev pub are_marked : List Mark → List (List ℕ) → Bool
are_marked marks names = list_all (λ name. is_some (place_in marks name)) names

-- a command that jumps to none of these
abbrev pub jump_faults_in : List Mark → NamedCommandData → List FileFault
jump_faults_in marks c = check (are_marked marks (labels_of_arguments c.arguments)) BadLabel

-- the jumps of commands of the body of an item, each in the line of its number
abbrev pub jumps_faults_in : Owner → ℕ → List Mark → List ℕ → List NamedCommandData → List Refused
jumps_faults_in owner item marks numbers [] = []
jumps_faults_in owner item marks [] (c ∷ others) = []
jumps_faults_in owner item marks (number ∷ numbers) (c ∷ others) =
    at (line_at owner item number) (jump_faults_in marks c) ++ jumps_faults_in owner item marks numbers others

-- the labels are there, and the value is right; or one lacks
abbrev pub Resolves : {X : Type 0} → Result X FileFault → Bool → (X → Type 0) → Type 0
Resolves (Ok x) known right = (known ≡ true) × right x
Resolves (Err fault) known right = (fault ≡ BadLabel) × (known ≡ false)

-- ---- what the code holds

abbrev pub marks_view : List (ArrayString × ℕ) → List Mark
marks_view entries = map (λ e. record { name = e.0.bytes; place = e.1 }) entries
