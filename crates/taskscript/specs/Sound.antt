-- What is read from the fields of a line is what the line says.
use Rattle.std.proofs.Common.{◌≡◌, ℕ, Bool, true, false, cond, bytes_eq, codes, find, List, [], ◌∷◌, Option, Some, None, option_map, refl, sym, ap, subst}
use Rattle.std.specs.Option.{option_or}
use Rattle.std.proofs.lemmas.{Option.same_Some, Slice.Eq.bytes_eq-Decides}
use Rattle.script.specs.declared.word.row.Kind.TheVariants.{Value, Label, Name, NameOrNone, Softint}
use Rattle.script.specs.{declared.word.Word.Word, declared.word.row.Kind.Kind, Words.word_text, Words.word_of, Words.all_words, Words.answers, Words.kinds}
use Rattle.taskscript.specs.{Identifiers.is_identifier, Numbers.number_written, Lines.NamedVariableData, Lines.NamedArgumentData, Lines.variable, Lines.number, Lines.label, Lines.quoted, Lines.NamedCommandData, Parsing.◌>>=◌, Parsing.variable_of, Parsing.quoted_in, Parsing.argument_of, Parsing.arguments_of, Parsing.target_of, Parsing.with_word, Parsing.command_of, Quotes.quoted_back, Variables.variable_is, Says.IsArgument, Says.AreArguments, Says.IsTarget, Says.IsLine}

pub bind_ok : {A B : Type 0} (o : Option A) (f : A → Option B) (y : B) → (o >>= f) ≡ Some y → (x : A) × (o ≡ Some x) × (f x ≡ Some y)
bind_ok None f y h = absurd cc
bind_ok (Some x) f y h = (x, refl, h)

passes_here : {A : Type 0} (p : A → Bool) (x y : A) (rest : Option A) (b : Bool) → p y ≡ b → (rest ≡ Some x → p x ≡ true) → cond b (Some y) rest ≡ Some x → p x ≡ true
passes_here p x y rest true e more h = subst (λ z. p z ≡ true) (same_Some _ _ h) e
passes_here p x y rest false e more h = more h

found_passes : {A : Type 0} (p : A → Bool) (xs : List A) (x : A) → find p xs ≡ Some x → p x ≡ true
found_passes p [] x h = absurd cc
found_passes p (y ∷ ys) x h = passes_here p x y (find p ys) (p y) refl (found_passes p ys x) h

pub word_is : (t : List ℕ) (w : Word) → word_of t ≡ Some w → t ≡ word_text w
word_is t w h = sym ((bytes_eq-Decides (word_text w) t).0 (found_passes (λ v. bytes_eq (word_text v) t) all_words w h))

arg_is_value : (o : Option NamedVariableData) (p : Option ℕ) (f : List ℕ) (a : NamedArgumentData) → variable_of f ≡ o → number_written f ≡ p → option_or (option_map variable o) (option_map number p) ≡ Some a → IsArgument Value f a
arg_is_value (Some v) p f a e g h = subst (λ (x : NamedArgumentData). IsArgument Value f x) (same_Some _ _ h) (variable_is f v e)
arg_is_value None (Some n) f a e g h = subst (λ (x : NamedArgumentData). IsArgument Value f x) (same_Some _ _ h) g
arg_is_value None None f a e g h = absurd cc

arg_is_label : (b : Bool) (f : List ℕ) (a : NamedArgumentData) → is_identifier f ≡ b → option_map label (cond b (Some f) None) ≡ Some a → IsArgument Label f a
arg_is_label true f a e h = subst (λ (x : NamedArgumentData). IsArgument Label f x) (same_Some _ _ h) (refl, e)
arg_is_label false f a e h = absurd cc

arg_is_name : (o : Option (List ℕ)) (f : List ℕ) (a : NamedArgumentData) → quoted_in f ≡ o → option_map quoted o ≡ Some a → IsArgument Name f a
arg_is_name (Some n) f a e h = subst (λ (x : NamedArgumentData). IsArgument Name f x) (same_Some _ _ h) (quoted_back f n e)
arg_is_name None f a e h = absurd cc

arg_is_softint : (o : Option (List ℕ)) (f : List ℕ) (a : NamedArgumentData) → quoted_in f ≡ o → option_map quoted o ≡ Some a → IsArgument Softint f a
arg_is_softint (Some n) f a e h = subst (λ (x : NamedArgumentData). IsArgument Softint f x) (same_Some _ _ h) (quoted_back f n e)
arg_is_softint None f a e h = absurd cc

or_none : (o : Option (List ℕ)) (f : List ℕ) (a : NamedArgumentData) → quoted_in f ≡ o → option_map quoted o ≡ Some a → IsArgument NameOrNone f a
or_none (Some n) f a e h = subst (λ (x : NamedArgumentData). IsArgument NameOrNone f x) (same_Some _ _ h) (quoted_back f n e)
or_none None f a e h = absurd cc

arg_is_name_or_none : (b : Bool) (f : List ℕ) (a : NamedArgumentData) → bytes_eq f (codes "0") ≡ b → cond b (Some (number 0)) (option_map quoted (quoted_in f)) ≡ Some a → IsArgument NameOrNone f a
arg_is_name_or_none true f a e h = subst (λ (x : NamedArgumentData). IsArgument NameOrNone f x) (same_Some _ _ h) ((bytes_eq-Decides f (codes "0")).0 e, refl)
arg_is_name_or_none false f a e h = or_none (quoted_in f) f a refl h

arg_is : (k : Kind) (f : List ℕ) (a : NamedArgumentData) → argument_of k f ≡ Some a → IsArgument k f a
arg_is Value f a h = arg_is_value (variable_of f) (number_written f) f a refl refl h
arg_is Label f a h = arg_is_label (is_identifier f) f a refl h
arg_is Name f a h = arg_is_name (quoted_in f) f a refl h
arg_is Softint f a h = arg_is_softint (quoted_in f) f a refl h
arg_is NameOrNone f a h = arg_is_name_or_none (bytes_eq f (codes "0")) f a refl h

pub args_are : (ks : List Kind) (fs : List (List ℕ)) (found : List NamedArgumentData) → arguments_of ks fs ≡ Some found → AreArguments ks fs found
unfolding arguments_of
args_are [] [] [] h = tt
args_are [] [] (a ∷ found) h = absurd cc
args_are [] (f ∷ fs) found h = absurd cc
args_are (k ∷ ks) [] found h = absurd cc
args_are (k ∷ ks) (f ∷ fs) found h =
    let p = bind_ok (argument_of k f) (λ a. arguments_of ks fs >>= λ others. Some (a ∷ others)) found h in
    let q = bind_ok (arguments_of ks fs) (λ others. Some (p.0 ∷ others)) found p.2 in
    subst (λ (x : List NamedArgumentData). AreArguments (k ∷ ks) (f ∷ fs) x) (same_Some _ _ q.2) (arg_is k f p.0 p.1, args_are ks fs q.0 q.1)

with_parts : (t : Option (List ℕ)) (w : List ℕ) (rest : List (List ℕ)) (c : NamedCommandData) → with_word t (w ∷ rest) ≡ Some c → (w ≡ word_text c.word) × (target_of (answers c.word) t ≡ Some c.target) × AreArguments (kinds c.word) rest c.arguments
unfolding with_word
with_parts t w rest c h =
    let p = bind_ok (word_of w) (λ word. target_of (answers word) t >>= λ target. arguments_of (kinds word) rest >>= λ found. Some (record { word = word; target = target; arguments = found })) c h in
    let q = bind_ok (target_of (answers p.0) t) (λ target. arguments_of (kinds p.0) rest >>= λ found. Some (record { word = p.0; target = target; arguments = found })) c p.2 in
    let r = bind_ok (arguments_of (kinds p.0) rest) (λ found. Some (record { word = p.0; target = q.0; arguments = found })) c q.2 in
    subst (λ (d : NamedCommandData). (w ≡ word_text d.word) × (target_of (answers d.word) t ≡ Some d.target) × AreArguments (kinds d.word) rest d.arguments) (same_Some (record { word = p.0; target = q.0; arguments = r.0 }) c r.2) (word_is w p.0 p.1, q.1, args_are (kinds p.0) rest r.0 r.1)

no_target : (may : Bool) (o : Option NamedVariableData) → target_of may None ≡ Some o → IsTarget may [] o
no_target may o h = subst (λ (x : Option NamedVariableData). IsTarget may [] x) (same_Some _ _ h) tt

one_target : (v : Option NamedVariableData) (t e : List ℕ) (o : Option NamedVariableData) → variable_of t ≡ v → e ≡ codes "=" → option_map Some v ≡ Some o → IsTarget true (t ∷ e ∷ []) o
one_target None t e o is eq h = absurd cc
one_target (Some v) t e o is eq h = subst (λ (x : Option NamedVariableData). IsTarget true (t ∷ e ∷ []) x) (same_Some _ _ h) (eq, variable_is t v is)

target_is : (may : Bool) (t e : List ℕ) (o : Option NamedVariableData) → e ≡ codes "=" → target_of may (Some t) ≡ Some o → IsTarget may (t ∷ e ∷ []) o
target_is false t e o eq h = absurd cc
target_is true t e o eq h = one_target (variable_of t) t e o refl eq h

plain_line : (w : List ℕ) (rest : List (List ℕ)) (c : NamedCommandData) → with_word None (w ∷ rest) ≡ Some c → IsLine (w ∷ rest) c
plain_line w rest c h =
    let p = with_parts None w rest c h in
    record { before = []; after = rest; parts = ap (λ (x : List ℕ). x ∷ rest) p.0; target = no_target (answers c.word) c.target p.1; arguments = p.2 }

target_line : (t e : List ℕ) (rest : List (List ℕ)) (c : NamedCommandData) → e ≡ codes "=" → with_word (Some t) rest ≡ Some c → IsLine (t ∷ e ∷ rest) c
unfolding with_word
target_line t e [] c eq h = absurd cc
target_line t e (w ∷ after) c eq h =
    let p = with_parts (Some t) w after c h in
    record { before = t ∷ e ∷ []; after = after; parts = ap (λ (x : List ℕ). t ∷ e ∷ x ∷ after) p.0; target = target_is (answers c.word) t e c.target eq p.1; arguments = p.2 }

abbrev cut : Bool → List ℕ → List ℕ → List (List ℕ) → Option (List ℕ) × List (List ℕ)
cut b t e rest = cond b (Some t, rest) (None, t ∷ e ∷ rest)

cut_line : (b : Bool) (t e : List ℕ) (rest : List (List ℕ)) (c : NamedCommandData) → bytes_eq e (codes "=") ≡ b
    → with_word (cut b t e rest).0 (cut b t e rest).1 ≡ Some c → IsLine (t ∷ e ∷ rest) c
cut_line true t e rest c same h = target_line t e rest c ((bytes_eq-Decides e (codes "=")).0 same) h
cut_line false t e rest c same h = plain_line t (e ∷ rest) c h

pub command_is_line : (fs : List (List ℕ)) (c : NamedCommandData) → command_of fs ≡ Some c → IsLine fs c
unfolding with_word
command_is_line [] c h = absurd cc
command_is_line (w ∷ []) c h = plain_line w [] c h
command_is_line (t ∷ e ∷ rest) c h = cut_line (bytes_eq e (codes "=")) t e rest c refl h
