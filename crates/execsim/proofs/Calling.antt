-- The calls that commands are.
use Rattle.std.proofs.Common.{◌≡◌, ℕ, ◌+◌, ◌<◌, List, [], ◌∷◌, ◌++◌, None, Some, refl, ap, sym, ◌∙◌, get_or, length, map, take, set, slice_get}
use Rattle.std.proofs.lemmas.List.{map_push, take_more, take_more_set}
use Rattle.script.specs.Commands.{CommandData}
use Rattle.execmodel.specs.{State.Call, State.Scripts, State.program_of, Calls.call_of, Calls.call_at, Calls.call_after, Calls.next_call}

pub map-map_as : {A B C : Type 0} (f : B → C) (v : A → B) (xs : List A) → map (λ a. f (v a)) xs ≡ map f (map v xs)
map-map_as f v [] = refl
map-map_as f v (x ∷ xs) = ap (λ ys. f (v x) ∷ ys) (map-map_as f v xs)

-- one more of what is shown of a list
shown_more : {X Y Z : Type 0} (f : X → Z) (g : Y → Z) (xs : List X) (ys : List Y) (y : Y) (i : ℕ) (x : X) → i < length xs → x ≡ get_or xs i x → g y ≡ f x
    → map g ys ≡ map f (take i xs) → map g (ys ++ y ∷ []) ≡ map f (take (i + 1) xs)
shown_more f g xs ys y i x below is made before =
    map_push g ys y ∙ ap (λ shown. shown ++ g y ∷ []) before ∙ ap (λ last. map f (take i xs) ++ last ∷ []) made
    ∙ sym (ap (map f) (take_more xs i x below ∙ ap (λ a. take i xs ++ a ∷ []) (sym is)) ∙ map_push f (take i xs) x)

-- one more value is shown as that of the argument at its place
pub shown_one_more : {A B C : Type 0} (value : B → C) (shown : A → C) (arguments : List B) (values : List A) (k : ℕ) (argument : B) (made : A) → k < length arguments
    → k < length values → argument ≡ get_or arguments k argument → shown made ≡ value argument
    → map shown (take k values) ≡ map value (take k arguments) → map shown (take (k + 1) (set values k made)) ≡ map value (take (k + 1) arguments)
shown_one_more value shown arguments values k argument made below room there is before =
    ap (map shown) (take_more_set values k made room)
    ∙ shown_more value shown arguments (take k values) made k argument below there is before

pub next-kept : (t : ℕ) (scripts : Scripts) (call : Call) → (program_of scripts t).kept ≡ Some call → next_call t scripts ≡ Some call
unfolding next_call
next-kept t scripts call kept = ap (λ k. call_after t k scripts) kept

pub next-none : (t : ℕ) (scripts : Scripts) → (program_of scripts t).kept ≡ None
    → slice_get (program_of scripts t).code (program_of scripts t).place ≡ None → next_call t scripts ≡ None
unfolding next_call
next-none t scripts kept used = ap (λ k. call_after t k scripts) kept ∙ ap (λ c. call_at t c scripts) used

pub next-command : (t : ℕ) (scripts : Scripts) (command : CommandData) → (program_of scripts t).kept ≡ None
    → slice_get (program_of scripts t).code (program_of scripts t).place ≡ Some command
    → next_call t scripts ≡ Some (call_of t ((program_of scripts t).place + 1) command scripts)
unfolding next_call
next-command t scripts command kept here = ap (λ k. call_after t k scripts) kept ∙ ap (λ c. call_at t c scripts) here
