-- The names of variables: what is read from a field is the variable that it names.
use Rattle.std.proofs.Common.{◌≡◌, ℕ, ◌≤◌, Bool, true, false, ◌&&◌, cond, nat_le, ◌==◌, List, [], ◌∷◌, length, Some, None, option_map, refl, sym, subst, arith}
use Rattle.std.specs.List.{list_all}
use Rattle.std.proofs.lemmas.{Bool.and_parts, Bool.Decides.nat_tests, Option.same_Some}
use Rattle.taskscript.specs.{Identifiers.is_identifier, Identifiers.is_identifier_byte, Lines.NamedVariableData, Parsing.named, Parsing.variable_of, Says.IsVariable}

pub begins_small : (b : ℕ) (bs : List ℕ) → is_identifier (b ∷ bs) ≡ true → 97 ≤ b
begins_small b bs h =
    let front : ((nat_le 1 (length (b ∷ bs)) && nat_le (length (b ∷ bs)) 16) && (nat_le 97 b && nat_le b 122)) ≡ true = (and_parts _ (list_all is_identifier_byte (b ∷ bs)) h).0 in
    let low : nat_le 97 b ≡ true = (and_parts (nat_le 97 b) (nat_le b 122) (and_parts (nat_le 1 (length (b ∷ bs)) && nat_le (length (b ∷ bs)) 16) (nat_le 97 b && nat_le b 122) front).1).0 in
    grind (arith, nat_tests)

no_sign : (b : ℕ) (bs : List ℕ) → is_identifier (b ∷ bs) ≡ true → (b == 64) ≡ false
no_sign b bs h = let low = begins_small b bs h in grind (arith, nat_tests)

private_from : (n : List ℕ) → is_identifier n ≡ true → variable_of n ≡ Some (record { is_shared = false; name = n })
private_from [] h = absurd cc
private_from (b ∷ bs) h = rw (no_sign b bs h, h)

named_from : (is_shared : Bool) (n : List ℕ) → is_identifier n ≡ true
    → variable_of (cond is_shared (64 ∷ n) n) ≡ Some (record { is_shared = is_shared; name = n })
named_from true n h = rw h
named_from false n h = private_from n h

pub variable_from : (f : List ℕ) (v : NamedVariableData) → IsVariable f v → variable_of f ≡ Some v
variable_from f v is = rw is.text (named_from v.is_shared v.name is.named)

sign : (b : ℕ) → (b == 64) ≡ true → b ≡ 64
sign b h = grind (arith, nat_tests)

named_is : (is_shared yes : Bool) (n : List ℕ) (v : NamedVariableData) → is_identifier n ≡ yes
    → option_map (λ name. record { is_shared = is_shared; name = name }) (cond yes (Some n) None) ≡ Some v → IsVariable (cond is_shared (64 ∷ n) n) v
named_is is_shared true n v e h = subst (λ (x : NamedVariableData). IsVariable (cond is_shared (64 ∷ n) n) x) (same_Some _ _ h) (record { text = refl; named = e })
named_is is_shared false n v e h = absurd cc

by_sign : (b : ℕ) (bs : List ℕ) (v : NamedVariableData) (yes : Bool) → (b == 64) ≡ yes → cond yes (named true bs) (named false (b ∷ bs)) ≡ Some v → IsVariable (b ∷ bs) v
by_sign b bs v true e h = subst (λ (c : ℕ). IsVariable (c ∷ bs) v) (sym (sign b e)) (named_is true (is_identifier bs) bs v refl h)
by_sign b bs v false e h = named_is false (is_identifier (b ∷ bs)) (b ∷ bs) v refl h

pub variable_is : (f : List ℕ) (v : NamedVariableData) → variable_of f ≡ Some v → IsVariable f v
variable_is [] v h = absurd cc
variable_is (b ∷ bs) v h = by_sign b bs v (b == 64) refl h
