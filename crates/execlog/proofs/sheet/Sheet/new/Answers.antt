-- The cells have what was written.
use Rattle.std.proofs.Common.{◌≡◌, ◌+◌, ◌++◌, List, ℕ, length, take, refl, ap, ◌∙◌, arith}
use Rattle.execlog.proofs.sheet.Sheet.new.Goals as goal

pub returns : goal.returns
returns c =
    let same : length c.args.before.now ≡ 0 + length c.args.before.now = omega arith in (
      refl,
      record {
        at_is = refl;
        len_is = refl;
        cells_are = c.write_over-2.ensures.before
            ∙ ap (λ (l : List ℕ). l ++ c.args.after.now) (ap (λ (k : ℕ). take k c.write_over.new.room) same ∙ c.write_over.ensures.before);
      },
    )
