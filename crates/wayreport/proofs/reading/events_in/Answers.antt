-- The proof of `events_in`: only a line without events says that it has none.
use Rattle.std.proofs.Common.{◌∙◌, sym}
use Rattle.wayreport.proofs.Asking.{all_left, none_only}
use Rattle.wayreport.proofs.reading.events_in.Goals as goal

pub returns-then-eq : goal.returns-then-eq
returns-then-eq c = λ events each few is. c.new.ensures.items ∙ none_only events c.args.text.now is (sym c.eq.ensures ∙ c.if-eq.true)

pub returns-else-eq : goal.returns-else-eq
returns-else-eq c = λ events each few is. c.some_events_in.ensures events (all_left events c.args.text.now each few is (sym c.eq.ensures ∙ c.if-eq.false))
