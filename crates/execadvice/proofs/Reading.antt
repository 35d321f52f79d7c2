-- Whether there is a value, by whether there are its parts; and so whether the fields of a line are a command.
use Rattle.std.proofs.Common.{◌≡◌, ℕ, suc, ◌-◌, ◌<◌, ◌≤◌, Bool, true, false, ◌&&◌, ◌||◌, ◌==◌, List, [], ◌∷◌, map, length, get_or, take, take_all, drop, Option, Some, None, option_map, is_some, Bor, refl, sym, ◌∙◌, arith}
use Rattle.std.proofs.lemmas.Bool.Decides.{nat_tests}
use Rattle.std.specs.Option.{option_or}
use Rattle.script.specs.declared.word.Word.{Word}
use Rattle.script.specs.declared.word.row.Kind.{Kind}
use Rattle.script.specs.Words.{word_of, answers, kinds}
use Rattle.taskscript.specs.Parsing.{◌>>=◌, argument_of, arguments_of, target_of, with_word}

pub both : {A B C : Type 0} (o : Option A) (p : Option B) (f : A → B → C) → is_some (o >>= λ a. p >>= λ b. Some (f a b)) ≡ is_some o && is_some p
both None p f = refl
both (Some a) None f = refl
both (Some a) (Some b) f = refl

pub either : {A B C : Type 0} (o : Option A) (p : Option B) (f : A → C) (g : B → C) → is_some (option_or (option_map f o) (option_map g p)) ≡ is_some o || is_some p
either None None f g = refl
either None (Some b) f g = refl
either (Some a) p f g = refl

pub made : {A B : Type 0} (o : Option A) (f : A → B) → is_some (option_map f o) ≡ is_some o
made None f = refl
made (Some a) f = refl

-- of no kind there are no fields
pub none_left : (ks : List Kind) (fs : List (Bor (List ℕ))) → length ks < 1 → (length fs == 0) ≡ is_some (arguments_of ks (map (λ f. f.now) fs))
unfolding arguments_of
none_left [] [] none = refl
none_left [] (f ∷ fs) none = grind (arith, nat_tests)
none_left (k ∷ ks) fs none = absurd (omega arith)

-- of a kind there is a field
pub no_field : (ks : List Kind) (fs : List (Bor (List ℕ))) → 1 ≤ length ks → length fs < 1 → false ≡ is_some (arguments_of ks (map (λ f. f.now) fs))
unfolding arguments_of
no_field [] fs some none = absurd (omega arith)
no_field (k ∷ ks) [] some none = refl
no_field (k ∷ ks) (f ∷ fs) some none = absurd (omega arith)

-- the first field is of the first kind, and the others are of the others
pub one_more : (ks : List Kind) (fs : List (Bor (List ℕ))) (k : Kind) (f : Bor (List ℕ)) → 1 ≤ length ks → 1 ≤ length fs
    → is_some (arguments_of ks (map (λ f. f.now) fs))
    ≡ is_some (argument_of (get_or ks 0 k) (get_or fs 0 f).now) && is_some (arguments_of (take (length ks - 1) (drop 1 ks)) (map (λ f. f.now) (take (length fs - 1) (drop 1 fs))))
unfolding arguments_of
one_more [] fs k f more some = absurd (omega arith)
one_more (a ∷ ks) [] k f more some = absurd (omega arith)
one_more (a ∷ ks) (b ∷ fs) k f more some =
    let kinds_after : take (suc (length ks) - 1) ks ≡ ks = take_all _ ks (omega arith) in
    let fields_after : take (suc (length fs) - 1) fs ≡ fs = take_all _ fs (omega arith) in
    rw (kinds_after, fields_after) (both (argument_of a b.now) (arguments_of ks (map (λ f. f.now) fs)) (λ x others. x ∷ others))

-- a command, by its word, its target and its arguments
pub word_is : (t : Option (List ℕ)) (fs : List (Bor (List ℕ))) (f : Bor (List ℕ)) (w : Word) → 1 ≤ length fs → word_of (get_or fs 0 f).now ≡ Some w
    → is_some (with_word t (map (λ f. f.now) fs))
    ≡ is_some (target_of (answers w) t) && is_some (arguments_of (kinds w) (map (λ f. f.now) (take (length fs - 1) (drop 1 fs))))
unfolding with_word
word_is t [] f w some is = absurd (omega arith)
word_is t (b ∷ fs) f w some is =
    let fields_after : take (suc (length fs) - 1) fs ≡ fs = take_all _ fs (omega arith) in
    rw (fields_after, is) (both (target_of (answers w) t) (arguments_of (kinds w) (map (λ f. f.now) fs)) (λ v xs. record { word = w; target = v; arguments = xs }))

-- the same of what was found of the first field, and of the others
pub first_is : (ks : List Kind) (fs : List (Bor (List ℕ))) (k : Kind) (f : Bor (List ℕ)) (a b : Bool) → 1 ≤ length ks → 1 ≤ length fs
    → a ≡ is_some (argument_of (get_or ks 0 k) (get_or fs 0 f).now) → a ≡ true
    → b ≡ is_some (arguments_of (take (length ks - 1) (drop 1 ks)) (map (λ f. f.now) (take (length fs - 1) (drop 1 fs))))
    → b ≡ is_some (arguments_of ks (map (λ f. f.now) fs))
first_is ks fs k f a b more some first is others = rw (one_more ks fs k f more some, ← first, is) others

pub first_is_not : (ks : List Kind) (fs : List (Bor (List ℕ))) (k : Kind) (f : Bor (List ℕ)) (a : Bool) → 1 ≤ length ks → 1 ≤ length fs
    → a ≡ is_some (argument_of (get_or ks 0 k) (get_or fs 0 f).now) → a ≡ false
    → a ≡ is_some (arguments_of ks (map (λ f. f.now) fs))
first_is_not ks fs k f a more some first is = is ∙ sym (one_more ks fs k f more some ∙ rw (← first, is) refl)

-- the same of what was found of the word, the target and the arguments
pub target_is : (t : Option (List ℕ)) (fs : List (Bor (List ℕ))) (f : Bor (List ℕ)) (o : Option Word) (w : Word) (m a b : Bool) (ks : List Kind)
    → 1 ≤ length fs → o ≡ word_of (get_or fs 0 f).now → o ≡ Some w → m ≡ answers w → a ≡ is_some (target_of m t) → a ≡ true → ks ≡ kinds w
    → b ≡ is_some (arguments_of ks (map (λ f. f.now) (take (length fs - 1) (drop 1 fs))))
    → b ≡ is_some (with_word t (map (λ f. f.now) fs))
target_is t fs f o w m a b ks some read found may target is of_word others =
    let named : word_of (get_or fs 0 f).now ≡ Some w = sym read ∙ found in
    let taken : is_some (target_of (answers w) t) ≡ true = sym (rw may at target) ∙ is in
    rw (word_is t fs f w some named, taken) (rw of_word at others)

pub target_is_not : (t : Option (List ℕ)) (fs : List (Bor (List ℕ))) (f : Bor (List ℕ)) (o : Option Word) (w : Word) (m a : Bool)
    → 1 ≤ length fs → o ≡ word_of (get_or fs 0 f).now → o ≡ Some w → m ≡ answers w → a ≡ is_some (target_of m t) → a ≡ false
    → a ≡ is_some (with_word t (map (λ f. f.now) fs))
target_is_not t fs f o w m a some read found may target is =
    let named : word_of (get_or fs 0 f).now ≡ Some w = sym read ∙ found in
    let taken : is_some (target_of (answers w) t) ≡ false = sym (rw may at target) ∙ is in
    is ∙ sym (rw (word_is t fs f w some named, taken) refl)
