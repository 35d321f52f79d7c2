-- The last two digits are others.
use Rattle.std.proofs.Common.{◌+◌, ◌-◌, ◌/◌, ◌∷◌, ◌++◌, ℕ, take, drop, refl, ap, ◌∙◌}
use Rattle.execlog.proofs.Laying.{head_counted_by_tens}
use Rattle.execlog.proofs.head.Head.count_by_tens.Goals as goal

pub invariant_of-self : goal.invariant_of-self
invariant_of-self c =
    let h = c.args.self.now in
    record {
      is_head = head_counted_by_tens c.args.number c.replace.new.room c.replace-2.new.room h.is_head c.requires.same c.requires.before c.requires.after c.ranges.number.fits
          (c.replace.ensures ∙ ap (λ (b : ℕ). take (h.last - 1) h.room ++ b ∷ drop (h.last - 1 + 1) h.room) c.digit.ensures)
          (c.replace-2.ensures ∙ ap (λ (b : ℕ). take h.last c.replace.new.room ++ b ∷ drop (h.last + 1) c.replace.new.room) c.digit-2.ensures);
      based = refl;
    }
