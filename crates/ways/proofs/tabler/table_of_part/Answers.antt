-- The proof of `table_of_part`: notes what is seen of each way of a part: of the ways with at most `sizes.most` extras
-- of these kinds among the actions those that the part names by their numbers.
use Rattle.std.proofs.Common.{◌∙◌, ap}
use Rattle.std.proofs.lemmas.Result.{on_ok_weaker}
use Rattle.ways.specs.{Ways.ways as ways_of, Ways.part_of, Tabled.Tabled}
use Rattle.ways.proofs.Folding.{after_all}
use Rattle.ways.proofs.tabler.table_of_part.Goals as goal

pub returns : goal.returns
returns g c =
    let ws = part_of c.args.part.skip c.args.part.left (ways_of c.args.kinds.now c.args.sizes.now.most c.args.actions.now) in
    record {
      table = on_ok_weaker c.visit_part.result
          (λ e. ap (λ (x : Tabled _). x.table) (e ∙ after_all g.S.Show.seen g.S.Show.alerted c.args.tabler.now ws)) c.visit_part.ensures;
      alerts = on_ok_weaker c.visit_part.result
          (λ e. ap (λ (x : Tabled _). x.alerts) (e ∙ after_all g.S.Show.seen g.S.Show.alerted c.args.tabler.now ws)) c.visit_part.ensures;
    }
