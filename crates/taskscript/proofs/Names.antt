-- Names in a set, by their texts.
use Rattle.std.proofs.Common.{◌≡◌, ℕ, suc, ◌+◌, ◌≤◌, arith, Bool, true, false, not, ◌||◌, nat_lt, cond, List, [], ◌∷◌, ◌++◌, length, bytes_eq, Some, None, refl, sym, ap, ◌∙◌, position}
use Rattle.std.specs.List.{list_any, position_or_len}
use Rattle.std.proofs.lemmas.{Bool.Decides.nat_tests, List.map_push, Option.same_Some}
use Rattle.arrayvec.specs.ArrayString.{ArrayString}
use Rattle.script.specs.Names.{texts}
use Rattle.taskscript.specs.Numbering.{seen_after, place_of_name}

abbrev pub is : List ℕ → ArrayString → Bool
is n k = bytes_eq n k.bytes

pub any_texts : (n : List ℕ) (ks : List ArrayString) → list_any (bytes_eq n) (texts ks) ≡ list_any (is n) ks
any_texts n [] = refl
any_texts n (k ∷ ks) = ap (λ (b : Bool). bytes_eq n k.bytes || b) (any_texts n ks)

pub number_texts : (n : List ℕ) (ks : List ArrayString) → position_or_len (is n) ks ≡ place_of_name (texts ks) n
number_texts n [] = refl
number_texts n (k ∷ ks) = rw (number_texts n ks)

added : (b : Bool) (n : ArrayString) (ks : List ArrayString) → texts (cond b ks (ks ++ n ∷ [])) ≡ cond b (texts ks) (texts ks ++ n.bytes ∷ [])
added true n ks = refl
added false n ks = map_push (λ (k : ArrayString). k.bytes) ks n

pub seen_texts : (n : ArrayString) (ks : List ArrayString) → texts (cond (list_any (is n.bytes) ks) ks (ks ++ n ∷ [])) ≡ seen_after (texts ks) n.bytes
seen_texts n ks = added (list_any (is n.bytes) ks) n ks ∙ ap (λ (b : Bool). cond b (texts ks) (texts ks ++ n.bytes ∷ [])) (sym (any_texts n.bytes ks))

found_at : (b : Bool) (n i : ℕ) → Some i ≡ cond b (Some n) None → i ≡ n
found_at true n i h = same_Some _ _ h
found_at false n i h = absurd cc

pub position_found : {X : Type 0} (p : X → Bool) (xs : List X) (i : ℕ) → Some i ≡ position p xs → i ≡ position_or_len p xs
position_found p xs i h = found_at (nat_lt (position_or_len p xs) (length xs)) (position_or_len p xs) i h

none_found : (b : Bool) (n : ℕ) → None ≡ cond b (Some n) None → b ≡ false
none_found true n h = absurd cc
none_found false n h = refl

at_most_length : {X : Type 0} (p : X → Bool) (xs : List X) → position_or_len p xs ≤ length xs
at_most_length p [] = omega arith
at_most_length p (x ∷ xs) = one_more (p x) (position_or_len p xs) (length xs) (at_most_length p xs)
  where
    one_more : (b : Bool) (n m : ℕ) → n ≤ m → cond (not b) (1 + n) 0 ≤ suc m
    one_more true n m h = omega arith
    one_more false n m h = omega arith

pub position_lacking : {X : Type 0} (p : X → Bool) (xs : List X) → None ≡ position p xs → length xs ≡ position_or_len p xs
position_lacking p xs h =
    let past : nat_lt (position_or_len p xs) (length xs) ≡ false = none_found (nat_lt (position_or_len p xs) (length xs)) (position_or_len p xs) h in
    let most = at_most_length p xs in
    grind (arith, nat_tests)
