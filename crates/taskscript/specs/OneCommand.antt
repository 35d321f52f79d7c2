-- A line has at most one command.
use Rattle.std.proofs.Common.{◌≡◌, ℕ, ◌≤◌, Bool, true, false, ◌||◌, cond, bytes_eq, codes, List, [], ◌∷◌, ◌++◌, Option, Some, None, refl, sym, ap, ◌∙◌, arith, inl, inr, nat_lt, length, get_or, option_map, ◌==◌}
use Rattle.std.proofs.lemmas.{Bool.cases_Bool, Bool.Decides.nat_tests, Option.same_Some, Slice.Eq.bytes_eq-Decides}
use Rattle.script.specs.declared.word.row.Kind.TheVariants.{Value, Label, Name, NameOrNone, Softint}
use Rattle.script.specs.{declared.word.Word.Word, declared.word.row.Kind.Kind, Words.word_text, Words.answers, Words.kinds, WordTable.word_known}
use Rattle.taskscript.specs.{Identifiers.is_identifier, Numbers.is_digit, Numbers.decimal_of, Numbers.number_written, Lines.NamedVariableData, Lines.NamedArgumentData, Lines.variable, Lines.number, Lines.label, Lines.quoted, Lines.NamedCommandData, Parsing.variable_of, Parsing.argument_of, Parsing.arguments_of, Parsing.target_of, Parsing.with_word, Parsing.cut_target, Parsing.command_of, Quotes.quoted_from, Variables.begins_small, Variables.variable_from, Says.quote, Says.IsVariable, Says.IsArgument, Says.AreArguments, Says.IsTarget, Says.IsLine}

same_bytes : (x y : List ℕ) → bytes_eq x y ≡ true → x ≡ y
same_bytes x y h = (bytes_eq-Decides x y).0 h

no_sign : (n : List ℕ) → codes "=" ≡ n → is_identifier n ≡ true → ⊥
no_sign n same h = let none : is_identifier (codes "=") ≡ true = ap is_identifier same ∙ h in cc

no_quote : (f n : List ℕ) → f ≡ codes "=" → f ≡ quote ++ n ++ quote → ⊥
no_quote f n sign same = let first : 61 ≡ 34 = ap (λ (g : List ℕ). get_or g 0 0) (sym sign ∙ same) in absurd (omega (arith, first))

no_variable : (f : List ℕ) (v : NamedVariableData) → f ≡ codes "=" → IsVariable f v → ⊥
no_variable f v sign h = let none : variable_of (codes "=") ≡ Some v = ap variable_of (sym sign) ∙ variable_from f v h in cc

no_value : (f : List ℕ) (n : ℕ) → f ≡ codes "=" → number_written f ≡ Some n → ⊥
no_value f n sign h = let none : number_written (codes "=") ≡ Some n = ap number_written (sym sign) ∙ h in cc

no_zero : (f : List ℕ) → f ≡ codes "=" → f ≡ codes "0" → ⊥
no_zero f sign h = let same : codes "=" ≡ codes "0" = sym sign ∙ h in cc

-- no argument is `=`
not_equals_sign : (k : Kind) (f : List ℕ) (a : NamedArgumentData) → f ≡ codes "=" → IsArgument k f a → ⊥
not_equals_sign Value f (variable v) sign h = no_variable f v sign h
not_equals_sign Value f (number n) sign h = no_value f n sign h
not_equals_sign Value f (label n) sign h = h
not_equals_sign Value f (quoted n) sign h = h
not_equals_sign Label f (variable v) sign h = h
not_equals_sign Label f (number n) sign h = h
not_equals_sign Label f (label n) sign h = no_sign n (sym sign ∙ h.0) h.1
not_equals_sign Label f (quoted n) sign h = h
not_equals_sign Name f (variable v) sign h = h
not_equals_sign Name f (number n) sign h = h
not_equals_sign Name f (label n) sign h = h
not_equals_sign Name f (quoted n) sign h = no_quote f n sign h.0
not_equals_sign NameOrNone f (variable v) sign h = h
not_equals_sign NameOrNone f (number n) sign h = no_zero f sign h.0
not_equals_sign NameOrNone f (label n) sign h = h
not_equals_sign NameOrNone f (quoted n) sign h = no_quote f n sign h.0
not_equals_sign Softint f (variable v) sign h = h
not_equals_sign Softint f (number n) sign h = h
not_equals_sign Softint f (label n) sign h = h
not_equals_sign Softint f (quoted n) sign h = no_quote f n sign h.0

arg_is_other : (k : Kind) (f : List ℕ) (a : NamedArgumentData) → IsArgument k f a → bytes_eq f (codes "=") ≡ false
arg_is_other k f a h =
    elim (cases_Bool (bytes_eq f (codes "="))) [
      | inl same ↦ absurd (not_equals_sign k f a (same_bytes f (codes "=") same) h)
      | inr other ↦ other
    ]

no_digit : (b : ℕ) (bs : List ℕ) → is_digit b ≡ false → decimal_of (b ∷ bs) ≡ None
no_digit b bs h = rw h (or_last (nat_lt (length (b ∷ bs)) 1) _)
  where
    or_last : {A : Type 0} (x : Bool) (o : Option A) → cond (x || true) None o ≡ None
    or_last true o = refl
    or_last false o = refl

-- what begins with a byte above the digits is not a number
no_number : (b : ℕ) (bs : List ℕ) → 58 ≤ b → number_written (b ∷ bs) ≡ None
no_number b bs h =
    let a : (b == 36) ≡ false = grind (arith, nat_tests) in
    let c : (b == 45) ≡ false = grind (arith, nat_tests) in
    let d : is_digit b ≡ false = grind (arith, nat_tests) in
    rw (a, c) (no_digit b bs d)

begins_above : (b : ℕ) (bs : List ℕ) → is_identifier (b ∷ bs) ≡ true → 58 ≤ b
begins_above b bs h = let low = begins_small b bs h in omega arith

is_sign : (b : ℕ) → (b == 64) ≡ true → 58 ≤ b
is_sign b h = grind (arith, nat_tests)

no_name : (b : ℕ) (bs : List ℕ) → (b == 64) ≡ false → is_identifier (b ∷ bs) ≡ false → variable_of (b ∷ bs) ≡ None
no_name b bs h g = rw (h, g)

clash : {A : Type 0} (b n : ℕ) (bs : List ℕ) → 58 ≤ b → number_written (b ∷ bs) ≡ Some n → A
clash b n bs h e = let none = no_number b bs h in absurd cc

-- a number is not a variable
number_is_other : (b n : ℕ) (bs : List ℕ) → number_written (b ∷ bs) ≡ Some n → variable_of (b ∷ bs) ≡ None
number_is_other b n bs h =
    elim (cases_Bool (b == 64)) [
      | inl sign ↦ clash b n bs (is_sign b sign) h
      | inr other ↦ elim (cases_Bool (is_identifier (b ∷ bs))) [
        | inl name ↦ clash b n bs (begins_above b bs name) h
        | inr none ↦ no_name b bs other none
      ]
    ]

arg_from : (k : Kind) (f : List ℕ) (a : NamedArgumentData) → IsArgument k f a → argument_of k f ≡ Some a
arg_from Value f (variable v) h = rw (variable_from f v h)
arg_from Value [] (number n) h = absurd cc
arg_from Value (b ∷ bs) (number n) h = rw (number_is_other b n bs h, h)
arg_from Value f (label n) h = absurd h
arg_from Value f (quoted n) h = absurd h
arg_from Label f (variable v) h = absurd h
arg_from Label f (number n) h = absurd h
arg_from Label f (label n) h = rw (h.0, h.1)
arg_from Label f (quoted n) h = absurd h
arg_from Name f (variable v) h = absurd h
arg_from Name f (number n) h = absurd h
arg_from Name f (label n) h = absurd h
arg_from Name f (quoted n) h = rw h.0 (ap (λ (o : Option (List ℕ)). option_map quoted o) (quoted_from n h.1))
arg_from NameOrNone f (variable v) h = absurd h
arg_from NameOrNone f (number n) h = rw (h.0, h.1)
arg_from NameOrNone f (label n) h = absurd h
arg_from NameOrNone f (quoted n) h = rw h.0 (ap (λ (o : Option (List ℕ)). option_map quoted o) (quoted_from n h.1))
arg_from Softint f (variable v) h = absurd h
arg_from Softint f (number n) h = absurd h
arg_from Softint f (label n) h = absurd h
arg_from Softint f (quoted n) h = rw h.0 (ap (λ (o : Option (List ℕ)). option_map quoted o) (quoted_from n h.1))

args_from : (ks : List Kind) (fs : List (List ℕ)) (found : List NamedArgumentData) → AreArguments ks fs found → arguments_of ks fs ≡ Some found
unfolding arguments_of
args_from [] [] [] h = refl
args_from [] [] (a ∷ found) h = absurd h
args_from [] (f ∷ fs) found h = absurd h
args_from (k ∷ ks) [] found h = absurd h
args_from (k ∷ ks) (f ∷ fs) [] h = absurd h
args_from (k ∷ ks) (f ∷ fs) (a ∷ found) h = rw (arg_from k f a h.0, args_from ks fs found h.1)

with_word_from : (t : Option (List ℕ)) (fs : List (List ℕ)) (c : NamedCommandData) → target_of (answers c.word) t ≡ Some c.target → AreArguments (kinds c.word) fs c.arguments → with_word t (word_text c.word ∷ fs) ≡ Some c
unfolding with_word
with_word_from t fs c target args = rw (word_known c.word, target, args_from (kinds c.word) fs c.arguments args)

-- no target is cut off if the arguments follow the word
uncut : (w : List ℕ) (ks : List Kind) (fs : List (List ℕ)) (found : List NamedArgumentData) → AreArguments ks fs found → cut_target (w ∷ fs) ≡ (None, w ∷ fs)
uncut w ks [] found h = refl
uncut w [] (f ∷ fs) found h = absurd h
uncut w (k ∷ ks) (f ∷ fs) [] h = absurd h
uncut w (k ∷ ks) (f ∷ fs) (a ∷ found) h = rw (arg_is_other k f a h.0)

from_parts : (may : Bool) (w : Word) (t : Option NamedVariableData) (found : List NamedArgumentData) (before after : List (List ℕ)) → answers w ≡ may → IsTarget may before t → AreArguments (kinds w) after found
    → command_of (before ++ word_text w ∷ after) ≡ Some (record { word = w; target = t; arguments = found })
from_parts may w None found [] after e target args = rw (uncut (word_text w) (kinds w) after found args) (with_word_from None after (record { word = w; target = None; arguments = found }) refl args)
from_parts true w (Some v) found (f ∷ g ∷ []) after e target args =
    rw target.0 (with_word_from (Some f) after (record { word = w; target = Some v; arguments = found }) (rw (e, variable_from f v target.1)) args)
from_parts true w (Some v) found [] after e target args = absurd target
from_parts true w (Some v) found (f ∷ []) after e target args = absurd target
from_parts true w (Some v) found (f ∷ g ∷ h ∷ more) after e target args = absurd target
from_parts true w None found (f ∷ []) after e target args = absurd target
from_parts true w None found (f ∷ g ∷ []) after e target args = absurd target
from_parts true w None found (f ∷ g ∷ h ∷ more) after e target args = absurd target
from_parts false w None found (f ∷ []) after e target args = absurd target
from_parts false w None found (f ∷ g ∷ []) after e target args = absurd target
from_parts false w None found (f ∷ g ∷ h ∷ more) after e target args = absurd target
from_parts false w (Some v) found [] after e target args = absurd target
from_parts false w (Some v) found (f ∷ []) after e target args = absurd target
from_parts false w (Some v) found (f ∷ g ∷ []) after e target args = absurd target
from_parts false w (Some v) found (f ∷ g ∷ h ∷ more) after e target args = absurd target

pub line_has_command : (fs : List (List ℕ)) (c : NamedCommandData) → IsLine fs c → command_of fs ≡ Some c
line_has_command fs c l = ap command_of l.parts ∙ from_parts (answers c.word) c.word c.target c.arguments l.before l.after refl l.target l.arguments

-- a line has at most one command
pub one_command : (fs : List (List ℕ)) (c d : NamedCommandData) → IsLine fs c → IsLine fs d → c ≡ d
one_command fs c d p q = same_Some _ _ (sym (line_has_command fs c p) ∙ line_has_command fs d q)
