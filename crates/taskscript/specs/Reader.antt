-- A line is one label or one command, and not both.
use Rattle.std.specs.Prelude.{◌≡◌, ℕ, ◌+◌, ◌-◌, ◌<◌, ◌≤◌, Bool, true, false, ◌&&◌, cond, nat_le, ◌==◌, codes, List, [], ◌∷◌, ◌++◌, length, take, drop, get_or, ◌⊎◌, Option, Some, None, option_map, refl, slice_index}
use Rattle.std.proofs.Common.{arith, length-append, inl, inr, sym, ap, subst, ◌∙◌}
use Rattle.std.specs.Option.{option_or}
use Rattle.std.proofs.lemmas.{Bool.and_parts, Bool.Decides.nat_tests, List.take-append-drop, List.drop_more, Option.same_Some}
use Rattle.std.proofs.{Math.ListN.drop_of_length-le, Math.Seq.get_or-append_seam, Math.Seq.take-append_seam}
use Rattle.script.specs.{declared.word.Word.Word, Words.word_text, WordTable.word_is_capital}
use Rattle.taskscript.specs.{Identifiers.is_identifier, Identifiers.identifier_in, Lines.NamedCommandData, Lines.LineData, Lines.label_line, Lines.command_line, Parsing.command_of, Parsing.label_in, Parsing.label_of, Parsing.line_of, Says.IsLine, Says.IsLabel, Says.Says, Says.IsMeaning, Says.Meaning, OneCommand.line_has_command, Sound.command_is_line}

-- ---- labels

-- the field of a label, by its parts
named_field : (n : List ℕ) (k : ℕ) → k ≡ length n → is_identifier n ≡ true
    → cond (nat_le 1 (k + 1) && (slice_index (n ++ 58 ∷ []) k == 58)) (identifier_in (take k (n ++ 58 ∷ []))) None ≡ Some n
named_field n k same h =
    let first : nat_le 1 (k + 1) ≡ true = grind (arith, nat_tests) in
    let last : (slice_index (n ++ 58 ∷ []) k == 58) ≡ true = rw same (ap (λ (b : ℕ). b == 58) (get_or-append_seam n 58 [] 0)) in
    let front : take k (n ++ 58 ∷ []) ≡ n = rw same (take-append_seam n (58 ∷ [])) in
    rw (first, last, front, h)

label_from : (n : List ℕ) → is_identifier n ≡ true → label_in (n ++ codes ":") ≡ Some n
label_from n h =
    let count : length (n ++ 58 ∷ []) ≡ length n + 1 = length-append n (58 ∷ []) in
    let less : length n + 1 - 1 ≡ length n = omega arith in
    rw (count, less) (named_field n (length n) refl h)

one_byte : (b : ℕ) → (b == 58) ≡ true → b ≡ 58
one_byte b h = grind (arith, nat_tests)

named_back : (x : List ℕ) (b : Bool) (n : List ℕ) → is_identifier x ≡ b → cond b (Some x) None ≡ Some n → (x ≡ n) × (is_identifier n ≡ true)
named_back x true n e h = (same_Some _ _ h, ap is_identifier (sym (same_Some _ _ h)) ∙ e)
named_back x false n e h = absurd cc

-- a field, by its last byte and what is before it
field_back : (f : List ℕ) → 1 ≤ length f → (slice_index f (length f - 1) == 58) ≡ true → f ≡ take (length f - 1) f ++ codes ":"
field_back f long last =
    let place : length f - 1 < length f = omega arith in
    let after : length f - 1 + 1 ≡ length f = omega arith in
    let none : length f ≤ length f - 1 + 1 = omega arith in
    let tail : drop (length f - 1) f ≡ codes ":" =
    drop_more f (length f - 1) 0 place ∙ ap (λ (b : ℕ). b ∷ drop (length f - 1 + 1) f) (one_byte _ last) ∙ ap (λ (bs : List ℕ). 58 ∷ bs) (drop_of_length-le f none) in
    sym (take-append-drop (length f - 1) f) ∙ ap (λ (bs : List ℕ). take (length f - 1) f ++ bs) tail

when_true : (b : Bool) (o : Option (List ℕ)) (n : List ℕ) → cond b o None ≡ Some n → (b ≡ true) × (o ≡ Some n)
when_true true o n h = (refl, h)
when_true false o n h = absurd cc

not_empty : (f : List ℕ) → nat_le 1 (length f) ≡ true → 1 ≤ length f
not_empty f h = grind (arith, nat_tests)

label_is : (f n : List ℕ) → label_in f ≡ Some n → IsLabel (f ∷ []) n
label_is f n h =
    let tests = when_true (nat_le 1 (length f) && (slice_index f (length f - 1) == 58)) (identifier_in (take (length f - 1) f)) n h in
    let ends = and_parts (nat_le 1 (length f)) (slice_index f (length f - 1) == 58) tests.0 in
    let back = named_back (take (length f - 1) f) (is_identifier (take (length f - 1) f)) n refl tests.1 in
    record {
      one = ap (λ (x : List ℕ). x ∷ []) (field_back f (not_empty f ends.0) ends.1 ∙ ap (λ (x : List ℕ). x ++ codes ":") back.0);
      named = back.1;
    }

label_of_is : (fs : List (List ℕ)) (n : List ℕ) → label_of fs ≡ Some n → IsLabel fs n
label_of_is [] n h = absurd cc
label_of_is (f ∷ []) n h = label_is f n h
label_of_is (f ∷ g ∷ fs) n h = absurd cc

label_is_read : (fs : List (List ℕ)) (n : List ℕ) → IsLabel fs n → label_of fs ≡ Some n
label_is_read fs n l = ap label_of l.one ∙ label_from n l.named

-- ---- no label is a command

small : (n : List ℕ) → is_identifier n ≡ true → nat_le 97 (slice_index (n ++ codes ":") 0) ≡ true
small [] h = absurd cc
small (b ∷ bs) h =
    let front = (and_parts _ _ h).0 in
    (and_parts (nat_le 97 b) (nat_le b 122) (and_parts _ _ front).1).0

no_word : (w : Word) (n : List ℕ) → is_identifier n ≡ true → ¬ (n ++ codes ":" ≡ word_text w)
no_word w n h same =
    let yes = small n h in
    let is_not = word_is_capital w in
    let both : nat_le 97 (slice_index (n ++ codes ":") 0) ≡ nat_le 97 (slice_index (word_text w) 0) = ap (λ (t : List ℕ). nat_le 97 (slice_index t 0)) same in
    cc

alone : (x : List ℕ) (w : Word) (before after : List (List ℕ)) → x ∷ [] ≡ before ++ word_text w ∷ after → (before ≡ []) × (x ≡ word_text w)
alone x w [] after h = (refl, ap (λ (fs : List (List ℕ)). get_or fs 0 []) h)
alone x w (f ∷ before) after h =
    let count : 1 ≡ length ((f ∷ before) ++ word_text w ∷ after) = ap length h in
    absurd (omega (arith, length-append before (word_text w ∷ after), count))

pub label_is_no_command : (fs : List (List ℕ)) (n : List ℕ) (c : NamedCommandData) → IsLabel fs n → ¬ IsLine fs c
label_is_no_command fs n c l k = no_word c.word n l.named (alone (n ++ codes ":") c.word k.before k.after (sym l.one ∙ k.parts)).1

-- ---- lines

option_cases : {A : Type 0} (o : Option A) → (o ≡ None) ⊎ ((x : A) × (o ≡ Some x))
option_cases None = inl refl
option_cases (Some x) = inr (x, refl)

pub said_line_is_read : (fs : List (List ℕ)) (x : LineData) → Says fs x → line_of fs ≡ Some x
said_line_is_read fs (label_line n) l = rw (label_is_read fs n l)
said_line_is_read fs (command_line c) l =
    elim (option_cases (label_of fs)) [
      | inl none ↦ rw (none, line_has_command fs c l)
      | inr some ↦ absurd (label_is_no_command fs some.0 c (label_of_is fs some.0 some.1) l)
    ]

read_cases : (fs : List (List ℕ)) (x : LineData) (l : Option (List ℕ)) (c : Option NamedCommandData) → label_of fs ≡ l → command_of fs ≡ c → option_or (option_map label_line l) (option_map command_line c) ≡ Some x → Says fs x
read_cases fs x (Some n) c e g h = subst (λ (y : LineData). Says fs y) (same_Some _ _ h) (label_of_is fs n e)
read_cases fs x None (Some c) e g h = subst (λ (y : LineData). Says fs y) (same_Some _ _ h) (command_is_line fs c g)
read_cases fs x None None e g h = absurd cc

pub read_line_is_said : (fs : List (List ℕ)) (x : LineData) → line_of fs ≡ Some x → Says fs x
read_line_is_said fs x h = read_cases fs x (label_of fs) (command_of fs) refl refl h

pub one_meaning : (fs : List (List ℕ)) (x y : LineData) → Says fs x → Says fs y → x ≡ y
one_meaning fs x y p q = same_Some _ _ (sym (said_line_is_read fs x p) ∙ said_line_is_read fs y q)

pub refused_line_says_nothing : (fs : List (List ℕ)) (x : LineData) → line_of fs ≡ None → ¬ Says fs x
refused_line_says_nothing fs x none l = let some = said_line_is_read fs x l in cc

-- ---- the function that the relation determines

meaning_of : (fs : List (List ℕ)) (o : Option LineData) → line_of fs ≡ o → IsMeaning fs o
meaning_of fs (Some x) is = read_line_is_said fs x is
meaning_of fs None is = λ x. refused_line_says_nothing fs x is

-- the function that reads the fields of a line; in the original, with the proof that it is right
pub reader : Meaning
reader = record { answer = line_of; right = λ fs. meaning_of fs (line_of fs) refl }

-- what a meaning answers, by the relation alone
said_answer : (fs : List (List ℕ)) (o : Option LineData) → IsMeaning fs o → o ≡ line_of fs
said_answer fs (Some x) said = sym (said_line_is_read fs x said)
said_answer fs None none = none_read fs (line_of fs) refl none
  where
    none_read : (gs : List (List ℕ)) (o : Option LineData) → line_of gs ≡ o → ((x : LineData) → ¬ Says gs x) → None ≡ o
    none_read gs None is never = refl
    none_read gs (Some x) is never = absurd (never x (read_line_is_said gs x is))

-- any function that the relation determines is what the code reads
pub answer_is_read : (m : Meaning) (fs : List (List ℕ)) → m.answer fs ≡ line_of fs
answer_is_read m fs = said_answer fs (m.answer fs) (m.right fs)
