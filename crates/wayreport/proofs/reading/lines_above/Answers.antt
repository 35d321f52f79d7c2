-- The proof of `lines_above`: the last line is that of the lines above it.
use Rattle.std.proofs.Common.{◌≡◌, ◌∙◌, ℕ, true, false, List, ◌++◌, codes, ap, sym, refl}
use Rattle.std.proofs.lemmas.Result.{err_from_is_err_and}
use Rattle.hex.specs.Hex.{encode_lower}
use Rattle.sha2.specs.Sha256.{sha256}
use Rattle.wayreport.specs.{Reports.closing_line, Written.lacks}
use Rattle.wayreport.proofs.{Cutting.lacks-append, Wording.lacks-hex}
use Rattle.wayreport.proofs.reading.lines_above.Goals as goal

-- no byte after the front of the last line is an l
lack : (body : List ℕ) → lacks 108 (encode_lower (sha256 body) ++ codes "\n") ≡ true
lack body = lacks-append 108 (encode_lower (sha256 body)) (codes "\n") (lacks-hex (sha256 body)) refl

pub returns-in_err-above : goal.returns-in_err-above
returns-in_err-above c = λ body is.
    let p = err_from_is_err_and c.from_residual.result c.from_residual.ensures.1 in
    rw (p.1, p.2) (c.in_err-above.ensures body (encode_lower (sha256 body) ++ codes "\n") (lack body) is)

pub returns-then-ends_with_sum : goal.returns-then-ends_with_sum
returns-then-ends_with_sum c = λ body is. (c.in_ok-above.ensures body (encode_lower (sha256 body) ++ codes "\n") (lack body) is).0

pub returns : goal.returns
returns c = λ body is.
    let parts = c.in_ok-above.ensures body (encode_lower (sha256 body) ++ codes "\n") (lack body) is in
    let closing = c.as_str.ensures.value ∙ (c.in_ok-closing.ensures ∙ ap closing_line (c.as_bytes.ensures.value ∙ parts.0)) in
    let so = c.ends_with_sum.ensures (closing ∙ sym (ap (λ t. codes "lines above: SHA-256 " ++ t) parts.1)) in
    let no : true ≡ false = sym so ∙ c.if-ends_with_sum.false in
    absurd cc
