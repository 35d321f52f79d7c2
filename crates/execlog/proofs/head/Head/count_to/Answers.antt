-- The last digit is another one.
use Rattle.std.proofs.Common.{◌≡◌, ◌+◌, ◌-◌, ◌/◌, ◌∷◌, ◌++◌, ℕ, take, drop, ap, ◌∙◌, arith}
use Rattle.execlog.proofs.Laying.{head_counted}
use Rattle.execlog.specs.Rows.{digit}
use Rattle.execlog.proofs.head.Head.count_to.Goals as goal

pub invariant_of-self : goal.invariant_of-self
invariant_of-self c =
    let h = c.args.self.now in
    let n : ℕ = c.args.number in
    let same : n / 10 ≡ h.tens = omega (arith, h.based, c.requires.least, c.requires.most) in
    let last : 48 + (n - h.base) ≡ digit n = omega (arith, h.based, c.requires.least, c.requires.most) in
    record {
      is_head = head_counted n c.replace.new.room h.is_head same c.ranges.number.fits
          (c.replace.ensures ∙ ap (λ (b : ℕ). take h.last h.room ++ b ∷ drop (h.last + 1) h.room) last);
      based = h.based;
    }
