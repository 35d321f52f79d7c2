-- A number, once given, stays: later names are after the earlier ones.
use Rattle.std.proofs.Common.{◌≡◌, ℕ, ◌+◌, Bool, true, false, not, ◌&&◌, ◌||◌, cond, List, [], ◌∷◌, ◌++◌, bytes_eq, inl, inr, refl, sym, ap, ◌∙◌}
use Rattle.std.specs.List.{list_any, list_all}
use Rattle.std.proofs.lemmas.{Bool.cases_Bool, Slice.Eq.bytes_eq-Decides}
use Rattle.script.specs.declared.variable.Variable.TheVariants.{Private, Shared}
use Rattle.taskscript.specs.Numbering.{seen_after, place_of_name, Names, names_with, names_after, variable_in, keeps_variable_limits, have_room}
use Rattle.script.specs.declared.variable.Variable.{Variable}
use Rattle.taskscript.specs.Lines.{NamedVariableData}

-- a name among those seen
abbrev pub is_among : List (List ℕ) → List ℕ → Bool
is_among seen name = list_any (bytes_eq name) seen

same_bytes : (x : List ℕ) → bytes_eq x x ≡ true
same_bytes x = (bytes_eq-Decides x x).1 refl

among_pushed : (seen : List (List ℕ)) (x y : List ℕ) → (is_among seen x || bytes_eq x y) ≡ true → is_among (seen ++ y ∷ []) x ≡ true
among_pushed [] x y h = rw h
among_pushed (z ∷ seen) x y h = step (bytes_eq x z) (is_among seen x) (bytes_eq x y) (is_among (seen ++ y ∷ []) x) h (among_pushed seen x y)
  where
    step : (a b c d : Bool) → ((a || b) || c) ≡ true → ((b || c) ≡ true → d ≡ true) → (a || d) ≡ true
    step true b c d h k = refl
    step false b c d h k = k h

number_pushed : (seen : List (List ℕ)) (x y : List ℕ) → (is_among seen x || bytes_eq x y) ≡ true → place_of_name (seen ++ y ∷ []) x ≡ place_of_name seen x
number_pushed [] x y h = rw h
number_pushed (z ∷ seen) x y h = step (bytes_eq x z) (is_among seen x) (bytes_eq x y) (place_of_name (seen ++ y ∷ []) x) (place_of_name seen x) h (number_pushed seen x y)
  where
    step : (a b c : Bool) (m n : ℕ) → ((a || b) || c) ≡ true → ((b || c) ≡ true → m ≡ n) → cond (not a) (1 + m) 0 ≡ cond (not a) (1 + n) 0
    step true b c m n h k = refl
    step false b c m n h k = ap (λ (i : ℕ). 1 + i) (k h)

or_left : (a b : Bool) → a ≡ true → (a || b) ≡ true
or_left a b h = rw h

or_right : (a b : Bool) → b ≡ true → (a || b) ≡ true
or_right true b h = refl
or_right false b h = h

-- one name more: x keeps its number, if it was there or is this one
number_kept : (seen : List (List ℕ)) (x y : List ℕ) → (is_among seen x || bytes_eq x y) ≡ true → place_of_name (seen_after seen y) x ≡ place_of_name seen x
number_kept seen x y h =
    elim (cases_Bool (is_among seen y)) [
      | inl there ↦ rw there
      | inr new ↦ rw new (number_pushed seen x y h)
    ]

among_kept : (seen : List (List ℕ)) (x y : List ℕ) → is_among seen x ≡ true → is_among (seen_after seen y) x ≡ true
among_kept seen x y h =
    elim (cases_Bool (is_among seen y)) [
      | inl there ↦ rw there h
      | inr new ↦ rw new (among_pushed seen x y (or_left _ _ h))
    ]

among_here : (seen : List (List ℕ)) (x : List ℕ) → is_among (seen_after seen x) x ≡ true
among_here seen x =
    elim (cases_Bool (is_among seen x)) [
      | inl there ↦ rw there there
      | inr new ↦ rw new (among_pushed seen x x (or_right _ _ (same_bytes x)))
    ]

number_here : (seen : List (List ℕ)) (x : List ℕ) → place_of_name (seen_after seen x) x ≡ place_of_name seen x
number_here seen x = number_kept seen x x (or_right (is_among seen x) _ (same_bytes x))

-- ---- variables

abbrev variable_named : Bool → List ℕ → NamedVariableData
variable_named b n = record { is_shared = b; name = n }

abbrev is_seen : Names → NamedVariableData → Bool
is_seen names v = cond v.is_shared (is_among names.shared v.name) (is_among names.private v.name)

seen_kept : (b d : Bool) (names : Names) (x y : List ℕ) → is_seen names (variable_named b x) ≡ true → is_seen (names_with names (variable_named d y)) (variable_named b x) ≡ true
seen_kept true true names x y h = among_kept names.shared x y h
seen_kept true false names x y h = h
seen_kept false true names x y h = h
seen_kept false false names x y h = among_kept names.private x y h

variable_kept : (b d : Bool) (names : Names) (x y : List ℕ) → is_seen names (variable_named b x) ≡ true
    → variable_in (names_with names (variable_named d y)) (variable_named b x) ≡ variable_in names (variable_named b x)
variable_kept true true names x y h = ap Shared (number_kept names.shared x y (or_left _ _ h))
variable_kept true false names x y h = refl
variable_kept false true names x y h = refl
variable_kept false false names x y h = ap Private (number_kept names.private x y (or_left _ _ h))

seen_here : (b : Bool) (names : Names) (x : List ℕ) → is_seen (names_with names (variable_named b x)) (variable_named b x) ≡ true
seen_here true names x = among_here names.shared x
seen_here false names x = among_here names.private x

variable_here : (b : Bool) (names : Names) (x : List ℕ) → variable_in (names_with names (variable_named b x)) (variable_named b x) ≡ variable_in names (variable_named b x)
variable_here true names x = ap Shared (number_here names.shared x)
variable_here false names x = ap Private (number_here names.private x)

variable_after : (names : Names) (v : NamedVariableData) (later : List NamedVariableData) → is_seen names v ≡ true → variable_in (names_after names later) v ≡ variable_in names v
variable_after names v [] h = refl
variable_after names v (w ∷ later) h =
    variable_after (names_with names w) v later (seen_kept v.is_shared w.is_shared names v.name w.name h) ∙ variable_kept v.is_shared w.is_shared names v.name w.name h

-- the number that a variable gets at its place is its number in the whole
variable_first : (names : Names) (v : NamedVariableData) (later : List NamedVariableData) → variable_in (names_after names (v ∷ later)) v ≡ variable_in names v
variable_first names v later = variable_after (names_with names v) v later (seen_here v.is_shared names v.name) ∙ variable_here v.is_shared names v.name

-- ---- variables in turn, and in the whole

abbrev pub all_within : Names → List NamedVariableData → Bool
all_within names vs = list_all (λ v. keeps_variable_limits (variable_in names v)) vs

pub room_whole : (names : Names) (vs later : List NamedVariableData) → have_room names vs ≡ all_within (names_after names (vs ++ later)) vs
room_whole names [] later = refl
room_whole names (v ∷ vs) later =
    ap (λ (n : Variable). keeps_variable_limits n && have_room (names_with names v) vs) (sym (variable_first names v (vs ++ later)))
    ∙ ap (λ (b : Bool). keeps_variable_limits (variable_in (names_after names (v ∷ (vs ++ later))) v) && b) (room_whole (names_with names v) vs later)
