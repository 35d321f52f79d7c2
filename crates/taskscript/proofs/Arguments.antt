-- Lemmas on arguments.
use Rattle.std.proofs.Common.{◌≡◌, ℕ, suc, ◌+◌, ◌<◌, ◌≤◌, List, [], ◌∷◌, ◌++◌, length, get_or, drop, map, Option, Some, None, refl, sym, ap, ◌∙◌, arith, append_assoc, Bor, append-nil, drop_of_length-le}
use Rattle.std.proofs.lemmas.List.{drop_more, length-map}
use Rattle.std.proofs.Math.ListN.{get_or-map as default_map}
use Rattle.script.specs.{declared.word.row.Kind.TheVariants.Value, declared.word.row.Kind.Kind}
use Rattle.taskscript.specs.{Lines.NamedArgumentData, Parsing.◌>>=◌, Parsing.argument_of, Parsing.arguments_of}

none_after : {A B : Type 0} (o : Option A) (f : A → Option B) → ((x : A) → f x ≡ None) → (o >>= f) ≡ None
none_after None f h = refl
none_after (Some x) f h = h x

pub args_uneven : (ks : List Kind) (fs : List (List ℕ)) → ¬ (length ks ≡ length fs) → arguments_of ks fs ≡ None
unfolding arguments_of
args_uneven [] [] h = absurd (h refl)
args_uneven [] (f ∷ fs) h = refl
args_uneven (k ∷ ks) [] h = refl
args_uneven (k ∷ ks) (f ∷ fs) h = none_after (argument_of k f) _ (λ a. ap (λ (o : Option (List NamedArgumentData)). o >>= λ others. Some (a ∷ others)) (args_uneven ks fs (λ e. h (ap suc e))))

-- what was found before, and what is found after it
abbrev pub with_front : List NamedArgumentData → Option (List NamedArgumentData) → Option (List NamedArgumentData)
with_front front o = o >>= λ others. Some (front ++ others)

regroup : (front : List NamedArgumentData) (a : NamedArgumentData) (o : Option (List NamedArgumentData)) → with_front front (o >>= λ others. Some (a ∷ others)) ≡ with_front (front ++ a ∷ []) o
regroup front a None = refl
regroup front a (Some others) = ap Some (sym (append_assoc front (a ∷ []) others))

pub args_go_on : (front : List NamedArgumentData) (a : NamedArgumentData) (ks : List Kind) (fs : List (List ℕ)) (i : ℕ) (k : Kind) (f : List ℕ) → drop i ks ≡ k ∷ drop (i + 1) ks → drop i fs ≡ f ∷ drop (i + 1) fs → Some a ≡ argument_of k f
    → with_front front (arguments_of (drop i ks) (drop i fs)) ≡ with_front (front ++ a ∷ []) (arguments_of (drop (i + 1) ks) (drop (i + 1) fs))
unfolding arguments_of
args_go_on front a ks fs i k f p q found = rw (p, q, ← found) (regroup front a (arguments_of (drop (i + 1) ks) (drop (i + 1) fs)))

pub args_stop : (front : List NamedArgumentData) (ks : List Kind) (fs : List (List ℕ)) (i : ℕ) (k : Kind) (f : List ℕ) → drop i ks ≡ k ∷ drop (i + 1) ks → drop i fs ≡ f ∷ drop (i + 1) fs → None ≡ argument_of k f
    → with_front front (arguments_of (drop i ks) (drop i fs)) ≡ None
unfolding arguments_of
args_stop front ks fs i k f p q found = rw (p, q, ← found)

pub args_end : (front : List NamedArgumentData) (i j : ℕ) (ks : List Kind) (fs : List (List ℕ)) → drop i ks ≡ [] → drop i fs ≡ [] → with_front front (arguments_of (drop i ks) (drop i fs)) ≡ Some front
unfolding arguments_of
args_end front i j ks fs p q = rw (p, q) (ap Some (append-nil front))

abbrev nowhere : Bor (List ℕ)
nowhere = record { ref_ptr = (0, 0); now = [] }

abbrev pub texts : List (Bor (List ℕ)) → List (List ℕ)
texts fs = map (λ f. f.now) fs

next_text : (fs : List (Bor (List ℕ))) (i : ℕ) → i < length fs → drop i (texts fs) ≡ (get_or fs i nowhere).now ∷ drop (i + 1) (texts fs)
next_text fs i lt = drop_more (texts fs) i [] (rw length-map lt) ∙ ap (λ (t : List ℕ). t ∷ drop (i + 1) (texts fs)) (default_map (λ (f : Bor (List ℕ)). f.now) fs i nowhere)

pub turn_goes_on : (front : List NamedArgumentData) (a : NamedArgumentData) (ks : List Kind) (fs : List (Bor (List ℕ))) (i : ℕ) → i < length ks → i < length fs → Some a ≡ argument_of (get_or ks i Value) (get_or fs i nowhere).now
    → with_front front (arguments_of (drop i ks) (drop i (texts fs))) ≡ with_front (front ++ a ∷ []) (arguments_of (drop (i + 1) ks) (drop (i + 1) (texts fs)))
turn_goes_on front a ks fs i p q found = args_go_on front a ks (texts fs) i _ _ (drop_more ks i Value p) (next_text fs i q) found

pub turn_stops : (front : List NamedArgumentData) (ks : List Kind) (fs : List (Bor (List ℕ))) (i : ℕ) → i < length ks → i < length fs → None ≡ argument_of (get_or ks i Value) (get_or fs i nowhere).now
    → with_front front (arguments_of (drop i ks) (drop i (texts fs))) ≡ None
turn_stops front ks fs i p q found = args_stop front ks (texts fs) i _ _ (drop_more ks i Value p) (next_text fs i q) found

pub turns_end : (front : List NamedArgumentData) (ks : List Kind) (fs : List (Bor (List ℕ))) (i : ℕ) → length ks ≤ i → length ks ≡ length fs → with_front front (arguments_of (drop i ks) (drop i (texts fs))) ≡ Some front
turns_end front ks fs i p same = args_end front i i ks (texts fs) (drop_of_length-le ks p) (drop_of_length-le (texts fs) (rw length-map (omega arith)))
