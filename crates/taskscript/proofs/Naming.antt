-- Of the arguments of a command at most one is a name, so it can be beside them.
use Rattle.std.proofs.Common.{◌≡◌, ℕ, ◌+◌, ◌<◌, ◌≤◌, arith, if◌then◌else◌, List, [], ◌∷◌, All, length, map, get_or, refl, sym, subst, ap, ◌∙◌, count_by}
use Rattle.std.proofs.lemmas.{List.length-map, List.Elements.All-nil, List.Elements.All-cons, List.Sums.sum_by-cons}
use Rattle.std.proofs.Math.ListN.{get_or-map as default_map}
use Rattle.script.specs.{Commands.ArgumentData, Commands.number, Commands.variable, Commands.quoted, Commands.place, Commands.IsNamed, Commands.first_name, Machines.is_quoted}

-- one that is not a name adds nothing to the count, and a name adds one
count_more : (a : ArgumentData) (others : List ArgumentData) (n : ℕ) → count_by is_quoted (a ∷ others) ≤ n → count_by is_quoted others ≤ n
count_more a others n h = let more : (if is_quoted a then 1 else 0) + count_by is_quoted others ≤ n = rw (sum_by-cons (λ b. if is_quoted b then 1 else 0) a others) at h in omega (arith, more)

count_name : (name : List ℕ) (others : List ArgumentData) (n : ℕ) → count_by is_quoted (quoted name ∷ others) ≤ n → 1 + count_by is_quoted others ≤ n
count_name name others n h = rw (sum_by-cons (λ b. if is_quoted b then 1 else 0) (quoted name) others) at h

-- if none is a name, each is the name, if it is one
none_named : (name : List ℕ) (found : List ArgumentData) → count_by is_quoted found ≤ 0 → All (IsNamed name) found
none_named name [] h = All-nil (IsNamed name)
none_named name (number n ∷ found) h = All-cons (IsNamed name) (number n) found tt (none_named name found (count_more (number n) found 0 h))
none_named name (variable v ∷ found) h = All-cons (IsNamed name) (variable v) found tt (none_named name found (count_more (variable v) found 0 h))
none_named name (place k ∷ found) h = All-cons (IsNamed name) (place k) found tt (none_named name found (count_more (place k) found 0 h))
none_named name (quoted m ∷ found) h = let more = count_name m found 0 h in absurd (omega (arith, more))

-- if at most one of the arguments is a name, each of them is the first name, if it is one
pub first_named : (found : List ArgumentData) → count_by is_quoted found ≤ 1 → All (IsNamed (first_name found)) found
first_named [] h = All-nil (IsNamed (first_name []))
first_named (number k ∷ found) h = All-cons (IsNamed (first_name found)) (number k) found tt (first_named found (count_more (number k) found 1 h))
first_named (variable v ∷ found) h = All-cons (IsNamed (first_name found)) (variable v) found tt (first_named found (count_more (variable v) found 1 h))
first_named (place k ∷ found) h = All-cons (IsNamed (first_name found)) (place k) found tt (first_named found (count_more (place k) found 1 h))
first_named (quoted m ∷ found) h =
    let more = count_name m found 1 h in
    All-cons (IsNamed m) (quoted m) found refl (none_named m found (omega (arith, more)))

-- what holds of all that is made of what is shown of a list holds of what is made of the one at a place
pub holds_at : {X Y Z : Type 0} (P : Z → Type 0) (f : Y → Z) (g : X → Y) (xs : List X) (i : ℕ) (x : X) → i < length xs → x ≡ get_or xs i x → All P (map f (map g xs)) → P (f (g x))
holds_at P f g xs i x below is all =
    let there : P (get_or (map f (map g xs)) i (f (g x))) = all i (f (g x)) (rw (length-map, length-map) below) in
    subst P (default_map f (map g xs) i (g x) ∙ ap f (default_map g xs i x ∙ ap g (sym is))) there
