-- No text of a word is longer than a name may be.
use Rattle.std.proofs.Common.{◌≡◌, ◌≤◌, lit≤, Bool, true, false, cond, List, [], ◌∷◌, Option, Some, refl, subst, length, nat_le, find, IfSome, bytes_eq, leb-true}
use Rattle.std.specs.List.{list_all}
use Rattle.std.proofs.lemmas.Bool.{and_parts}
use Rattle.script.specs.{declared.word.Word.Word, Words.all_words, Words.word_text, WordTable.word_known}
use Rattle.script.specs.declared.alert.Alert.{Alert}
use Rattle.script.specs.declared.alert.Alert.TheVariants as an_alert
use Rattle.script.specs.Alerts.{alert_text}

-- one that is found among those that all pass a test passes it too
found_passes : {A : Type 0} (found passes : A → Bool) (xs : List A) → list_all passes xs ≡ true → IfSome (find found xs) (λ x. passes x ≡ true)
found_passes found passes [] all = tt
found_passes {A} found passes (x ∷ xs) all =
    let parts = and_parts (passes x) _ all in
    by_case (found x) parts.0 (found_passes found passes xs parts.1) where
      by_case : (is : Bool) → passes x ≡ true → IfSome (find found xs) (λ y. passes y ≡ true)
          → IfSome (cond is (Some x) (find found xs)) (λ y. passes y ≡ true)
      by_case true here there = here
      by_case false here there = there

abbrev is_short : Word → Bool
is_short word = nat_le (length (word_text word)) 31

pub word_short : (w : Word) → length (word_text w) ≤ 31
word_short w =
    leb-true (length (word_text w)) 31
    (subst (λ (o : Option Word). IfSome o (λ word. is_short word ≡ true)) (word_known w)
    (found_passes (λ word. bytes_eq (word_text word) (word_text w)) is_short all_words refl))

-- the text of every alert is short
pub code_short : (code : Alert) → length (alert_text code) ≤ 31
code_short an_alert.Handle = lit≤ tt
code_short an_alert.Io = lit≤ tt
code_short an_alert.Lib = lit≤ tt
code_short an_alert.Link = lit≤ tt
code_short an_alert.Mask = lit≤ tt
code_short an_alert.Mem = lit≤ tt
code_short an_alert.Nest = lit≤ tt
code_short an_alert.Port = lit≤ tt
code_short an_alert.Sem = lit≤ tt
code_short an_alert.Value = lit≤ tt
