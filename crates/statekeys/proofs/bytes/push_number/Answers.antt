-- One byte more, or the last one.
use Rattle.std.proofs.Common.{rules, arith, ◌≡◌, ◌∙◌, ◌+◌, ◌-◌, ◌/◌, ◌%◌, ◌++◌, ◌∷◌, [], ℕ, List, sym, ap, append_assoc}
use Rattle.statekeys.specs.Keys.{bytes_in}
use Rattle.statekeys.proofs.ByteLemmas.{short, longer, tenth}
use Rattle.statekeys.proofs.bytes.push_number.Goals as goal

pub returns-then-left-lt128 : goal.returns-then-left-lt128
returns-then-left-lt128 c =
    c.in_ok-push.ensures.items
    ∙ (ap (λ (b : List ℕ). c.loop-round.out.items ++ b) (sym (short c.loop-round.round c.loop-round.left (omega arith) (omega arith))) ∙ c.loop-round.invariant)

pub loop-round-preserved : goal.loop-round-preserved
loop-round-preserved c =
    ap (λ (b : List ℕ). b ++ bytes_in (9 - (c.loop-round.round + 1)) (c.loop-round.left / 128)) c.in_ok-push-2.ensures.items
    ∙ (append_assoc c.loop-round.out.items ((128 + c.loop-round.left % 128) ∷ []) (bytes_in (9 - (c.loop-round.round + 1)) (c.loop-round.left / 128))
    ∙ (ap (λ (b : List ℕ). c.loop-round.out.items ++ b) (sym (longer c.loop-round.round c.loop-round.left (omega arith) (omega arith))) ∙ c.loop-round.invariant))

pub returns-in_ok-push-in-Ok : goal.returns-in_ok-push-in-Ok
returns-in_ok-push-in-Ok c =
    let same : c.in-Ok.last ≡ c.loop-round.left = search rules in
    c.in_ok-push-in-Ok.ensures.items
    ∙ (ap (λ (b : List ℕ). c.loop-round.out.items ++ b)
    (ap (λ (n : ℕ). n ∷ []) same ∙ sym (tenth c.loop-round.round c.loop-round.left (omega arith))) ∙ c.loop-round.invariant)
