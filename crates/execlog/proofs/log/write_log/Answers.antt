-- All was put, and the sink says whether it took all of it.
use Rattle.std.proofs.Common.{◌≡◌, ℕ, List, true, false, ◌∙◌, ap, subst, sym, is_ok}
use Rattle.exectrace.specs.Sink.{Puts}
use Rattle.execlog.proofs.Logging.{page_ends, wrote_all, wrote_part}
use Rattle.execlog.proofs.log.write_log.Goals as goal

pub returns-in-Ok-written : goal.returns-in-Ok-written
returns-in-Ok-written g c = λ m h.
    let rest : Puts (g.W.Sink.tape c.log_all.new.out) (g.W.Sink.tape c.put.new.out) c.log_all.new.log.page =
    subst (λ (b : List ℕ). Puts (g.W.Sink.tape c.log_all.new.out) (g.W.Sink.tape c.put.new.out) b) c.as_slice.ensures c.put.ensures in
    wrote_all (page_ends c.new-3.ensures (c.in-Ok.ensures m h) rest) c.requires.good (c.written.ensures.0 (ap is_ok c.in-Ok-written.is))

pub returns : goal.returns
returns g c = λ m h.
    let rest : Puts (g.W.Sink.tape c.log_all.new.out) (g.W.Sink.tape c.put.new.out) c.log_all.new.log.page =
    subst (λ (b : List ℕ). Puts (g.W.Sink.tape c.log_all.new.out) (g.W.Sink.tape c.put.new.out) b) c.as_slice.ensures c.put.ensures in
    wrote_part (page_ends c.new-3.ensures (c.in-Ok.ensures m h) rest) c.requires.good
    (λ good. let bad : false ≡ true = ap is_ok (sym c.in-Err-written.is) ∙ c.written.ensures.1 good in cc)
