-- The columns were put one after the other.
use Rattle.std.proofs.Common.{◌≡◌, ◌++◌, ℕ, List, length, refl, ap, ◌∙◌}
use Rattle.std.proofs.lemmas.List.{drop-replicate, length-replicate}
use Rattle.execlog.proofs.Laying.{head_made}
use Rattle.execlog.specs.Rows.{millis}
use Rattle.execlog.proofs.head.Head.of.Goals as goal

pub invariant_of-result : goal.invariant_of-result
invariant_of-result c =
    let many : length c.put_millis-from_time.new.room ≡ 192 = c.put_millis-from_time.ensures.room ∙ length-replicate {A = ℕ} 192 32 in
    record {
      is_head = head_made c.args.number c.args.clock c.put_millis-from_time.result c.put_column-start.result c.put_millis-from_time.new.room c.put_column-start.new.room
          c.ranges.number.fits many (c.put_column-start.ensures.room ∙ many)
          (c.put_millis-from_time.ensures.put ∙ ap (λ (l : List ℕ). millis c.args.clock ++ l) (drop-replicate 64 192 32))
          c.put_column-start.ensures.put;
      based = refl;
    }
