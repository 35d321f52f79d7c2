-- The proof of `read_open`: the bytes of an open report, up to the limit.
use Rattle.execexplore.proofs.SumLemmas.{front_of}
use Rattle.execexplore.proofs.summing.read_open.Goals as goal

pub returns : goal.returns
returns g c = front_of (g.R.Read.remaining c.args.text) c.take.result.limit _ _ c.take.ensures.limit c.new-bytes.ensures.items
    (rw c.take.ensures.inner at c.in_ok-read_to_end.ensures.bytes)
