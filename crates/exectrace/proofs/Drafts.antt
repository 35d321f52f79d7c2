-- A text that is written in two moves: by its first bytes, and by its last ones.
use Rattle.std.proofs.Common.{◌≡◌, ℕ, ◌+◌, ◌-◌, ◌≤◌, List, ◌++◌, length, take, drop, sym, ap, ◌∙◌, append_assoc, length-drop, arith, take-append-drop, take-take, length-take-le}
use Rattle.std.proofs.lemmas.List.{take_rest}
use Rattle.std.proofs.Math.Seq.{take-append-add}

-- the two moves together write the text, though the last bytes may be written over some of the first
pub both_ends : (before between after text : List ℕ) (at width rest : ℕ) → at ≤ length before → width ≤ length text → length text ≤ width + width
    → rest ≡ length text - width → take (at + length (take width text)) between ≡ take at before ++ take width text
    → take (at + rest + length (take (length text - rest) (drop rest text))) after ≡ take (at + rest) between ++ take (length text - rest) (drop rest text)
    → take (at + length text) after ≡ take at before ++ text
both_ends before between after text at width rest inside wide narrow is first last =
    let few : rest ≤ width = omega (arith, is, narrow) in
    let below : at + rest ≤ at + width = omega (arith, few) in
    let first' : take (at + width) between ≡ take at before ++ take width text = rw (length-take-le width text wide) at first in
    let last' : take (at + rest + length (drop rest text)) after ≡ take (at + rest) between ++ drop rest text = rw take_rest at last in
    let front : take (at + rest) (take at before ++ take width text) ≡ take at before ++ take rest (take width text) =
    ap (λ n. take (n + rest) (take at before ++ take width text)) (sym (length-take-le at before inside)) ∙ take-append-add (take at before) (take width text) rest in
    let middle : take (at + rest) between ≡ take at before ++ take rest text =
    sym (take-take (at + rest) (at + width) between below) ∙ ap (take (at + rest)) first' ∙ front ∙ ap (λ l. take at before ++ l) (take-take rest width text few) in
    let whole : at + length text ≡ at + rest + length (drop rest text) = omega (arith, is, wide, length-drop rest text) in
    ap (λ n. take n after) whole ∙ last' ∙ ap (λ l. l ++ drop rest text) middle ∙ append_assoc (take at before) (take rest text) (drop rest text)
    ∙ ap (λ l. take at before ++ l) (take-append-drop rest text)
