-- The proof of `some_events_in`: event after event.
use Rattle.std.proofs.Common.{◌∙◌, List, refl, sym, subst, rules}
use Rattle.std.proofs.lemmas.Result.{err_from_is_err_and}
use Rattle.script.specs.declared.event.Event.{Event}
use Rattle.wayreport.specs.Written.{AreLeft}
use Rattle.wayreport.proofs.Asking.{before_comma, no_more}
use Rattle.wayreport.proofs.reading.some_events_in.Goals as goal

pub returns-in_err-left : goal.returns-in_err-left
returns-in_err-left c = λ events all.
    let p = err_from_is_err_and c.from_residual.result c.from_residual.ensures.1 in
    let l = c.loop-first.invariant.1 events all in
    let b = before_comma c.loop-first.events.items events c.loop-first.rest.now c.loop-first.left (c.in-Some.first, c.in-Some.later) l l.more refl c.in-Some.ensures.cases in
    rw (p.1, p.2) (c.in_err-left.ensures b.event b.asked b.room b.text)

pub loop-first-preserved : goal.loop-first-preserved
loop-first-preserved c = (
  search rules,
  λ events all.
      let l = c.loop-first.invariant.1 events all in
      let b = before_comma c.loop-first.events.items events c.loop-first.rest.now c.loop-first.left (c.in-Some.first, c.in-Some.later) l l.more refl c.in-Some.ensures.cases in
      let pushed = c.in_ok-left.ensures b.event b.asked b.room b.text in
      subst (λ (es : List Event). AreLeft es c.in-Some.later.now c.in_ok-left.left events) (sym pushed.1) (b.rest c.in_ok-left.left pushed.0),
)

pub returns-in_err-push_event : goal.returns-in_err-push_event
returns-in_err-push_event c = λ events all.
    let p = err_from_is_err_and c.from_residual-in_err-push_event.result c.from_residual-in_err-push_event.ensures.1 in
    let l = c.loop-first.invariant.1 events all in
    let last = no_more c.loop-first.events.items events c.loop-first.rest.now c.loop-first.left l l.more refl c.in_default.ensures.cases in
    rw (p.1, p.2) (c.in_err-push_event.ensures last.event last.asked last.room last.text)

pub returns : goal.returns
returns c = λ events all.
    let l = c.loop-first.invariant.1 events all in
    let last = no_more c.loop-first.events.items events c.loop-first.rest.now c.loop-first.left l l.more refl c.in_default.ensures.cases in
    let pushed = c.in_ok-push_event.ensures last.event last.asked last.room last.text in
    pushed.1 ∙ last.is
