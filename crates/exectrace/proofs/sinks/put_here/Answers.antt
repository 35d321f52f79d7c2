-- The proof of `put_here`: writes all the bytes to a good sink, and nothing to one that is not good.
use Rattle.std.proofs.Common.{sym, ◌∙◌}
use Rattle.exectrace.proofs.Pieces.{puts_rest}
use Rattle.exectrace.proofs.sinks.put_here.Goals as goal

pub returns-then-count-bytes : goal.returns-then-count-bytes
returns-then-count-bytes g c =
    let taken = c.in-Ok.ensures in
    puts_rest _ (g.W.Sink.tape c.write.new.self) _ _ _ _ (sym c.state.ensures ∙ c.in-Good.is) taken.1 c.write_rest.ensures
