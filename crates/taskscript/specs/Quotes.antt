-- Names between double quotes.
use Rattle.std.specs.Prelude.{◌≡◌, ℕ, suc, ◌+◌, ◌-◌, ◌<◌, ◌≤◌, Bool, true, false, ◌&&◌, cond, nat_le, ◌==◌, List, [], ◌∷◌, ◌++◌, length, take, drop, Option, Some, None, refl, slice_index}
use Rattle.std.proofs.Common.{arith, length-append, sym, ap, ◌∙◌}
use Rattle.std.proofs.lemmas.{Bool.and_parts, Bool.Decides.nat_tests, List.take-append-drop, List.drop_more, Option.same_Some}
use Rattle.std.proofs.{Math.ListN.drop_of_length-le, Math.Seq.get_or-append_seam, Math.Seq.take-append_seam}
use Rattle.script.specs.Names.{is_name}
use Rattle.taskscript.specs.{Parsing.inside, Parsing.quoted_in, Says.quote}

-- a quoted field of that many bytes, by its parts
quoted_field : (n : List ℕ) (k : ℕ) → k ≡ length n → is_name n ≡ true → let f : List ℕ = 34 ∷ (n ++ 34 ∷ []) in
    cond (nat_le 2 (k + 2) && ((slice_index f 0 == 34) && (slice_index f (suc k) == 34))) (cond (is_name (take k (drop 1 f))) (Some (take k (drop 1 f))) None) None ≡ Some n
quoted_field n k same h =
    let first : nat_le 2 (k + 2) ≡ true = grind (arith, nat_tests) in
    let last : (slice_index (n ++ 34 ∷ []) k == 34) ≡ true = rw same (ap (λ (b : ℕ). b == 34) (get_or-append_seam n 34 [] 0)) in
    let front : take k (n ++ 34 ∷ []) ≡ n = rw same (take-append_seam n (34 ∷ [])) in
    rw (first, last, front, h)

pub quoted_from : (n : List ℕ) → is_name n ≡ true → quoted_in (quote ++ n ++ quote) ≡ Some n
quoted_from n h =
    let count : length (34 ∷ (n ++ 34 ∷ [])) ≡ length n + 2 = ap suc (length-append n (34 ∷ [])) ∙ omega arith in
    let last : length n + 2 - 1 ≡ suc (length n) = omega arith in
    let less : length n + 2 - 2 ≡ length n = omega arith in
    rw (count, last, less) (quoted_field n (length n) refl h)

one_quote : (b : ℕ) → (b == 34) ≡ true → b ≡ 34
one_quote b h = grind (arith, nat_tests)

when_true : (b : Bool) (o : Option (List ℕ)) (n : List ℕ) → cond b o None ≡ Some n → (b ≡ true) × (o ≡ Some n)
when_true true o n h = (refl, h)
when_true false o n h = absurd cc

named_back : (x : List ℕ) (b : Bool) (n : List ℕ) → is_name x ≡ b → cond b (Some x) None ≡ Some n → (x ≡ n) × (is_name n ≡ true)
named_back x true n e h = (same_Some _ _ h, ap is_name (sym (same_Some _ _ h)) ∙ e)
named_back x false n e h = absurd cc

-- what is before the last byte, and that byte
cut_last : (g : List ℕ) (k : ℕ) → length g ≡ k + 1 → (slice_index g k == 34) ≡ true → g ≡ take k g ++ quote
cut_last g k count last =
    let place : k < length g = omega arith in
    let none : length g ≤ k + 1 = omega arith in
    let tail : drop k g ≡ quote = drop_more g k 0 place ∙ ap (λ (b : ℕ). b ∷ drop (k + 1) g) (one_quote _ last) ∙ ap (λ (bs : List ℕ). 34 ∷ bs) (drop_of_length-le g none) in
    sym (take-append-drop k g) ∙ ap (λ (bs : List ℕ). take k g ++ bs) tail

-- a field, by its first and its last byte and what is between them
field_back : (b : ℕ) (g : List ℕ) → nat_le 2 (suc (length g)) ≡ true → (b == 34) ≡ true → (slice_index (b ∷ g) (suc (length g) - 1) == 34) ≡ true → b ∷ g ≡ quote ++ take (suc (length g) - 2) g ++ quote
field_back b g long first last =
    let some : 1 ≤ length g = grind (arith, nat_tests) in
    let k : ℕ = suc (length g) - 2 in
    let count : length g ≡ suc (length g) - 2 + 1 = omega arith in
    let at : suc (length g) - 1 ≡ suc (suc (length g) - 2) = omega arith in
    let byte : (slice_index g (suc (length g) - 2) == 34) ≡ true = ap (λ (i : ℕ). slice_index (b ∷ g) i == 34) (sym at) ∙ last in
    ap (λ (c : ℕ). c ∷ g) (one_quote b first) ∙ ap (λ (h : List ℕ). 34 ∷ h) (cut_last g (suc (length g) - 2) count byte)

pub quoted_back : (f n : List ℕ) → quoted_in f ≡ Some n → (f ≡ quote ++ n ++ quote) × (is_name n ≡ true)
quoted_back [] n h = absurd cc
quoted_back (b ∷ g) n h =
    let tests = when_true (nat_le 2 (suc (length g)) && ((b == 34) && (slice_index (b ∷ g) (suc (length g) - 1) == 34))) (cond (is_name (inside (b ∷ g))) (Some (inside (b ∷ g))) None) n h in
    let ends = and_parts (nat_le 2 (suc (length g))) ((b == 34) && (slice_index (b ∷ g) (suc (length g) - 1) == 34)) tests.0 in
    let bytes = and_parts (b == 34) (slice_index (b ∷ g) (suc (length g) - 1) == 34) ends.1 in
    let back = named_back (inside (b ∷ g)) (is_name (inside (b ∷ g))) n refl tests.1 in
    (field_back b g ends.0 bytes.0 bytes.1 ∙ ap (λ (x : List ℕ). quote ++ x ++ quote) back.0, back.1)
