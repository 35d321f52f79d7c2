-- Of those that wait for system time the request that is shown to finish next is ended.
use Rattle.std.proofs.Common.{◌≡◌, Some, ap, sym, ◌∙◌}
use Rattle.execlist.specs.Pool.{slot}
use Rattle.timerdev.specs.Timing.{until_next}
use Rattle.execmodel.specs.State.{Memory}
use Rattle.execheap.specs.declared.tag.Kind.TheVariants as variant
use Rattle.execheap.specs.{Listing.ended_if, Listing.finishing, Numbered.Numbered, Numbered.places, Numbered.shown_memory, Table.Tabled, Table.slots_of}
use Rattle.execheap.proofs.RequestAnswers.{finishing_none, finishing_some, next_ended_shown, table_ended, until_is_next}
use Rattle.execheap.proofs.heap.Heap.finish_until.Goals as goal

pub returns-in_err-r-clause-answer : goal.returns-in_err-r-clause-answer
returns-in_err-r-clause-answer g c =
    let f = c.facts.ensures in
    c.from_residual.ensures
    ∙ finishing_none f.sound f.ports f.memory until_next (until_is_next c.self.inside.objects) c.in_err-r.ensures.answer
    ∙ ap (λ (m : Memory). finishing m.heap (until_next m.timer)) c.self.view_is

pub returns-in_err-r-clause-next : goal.returns-in_err-r-clause-next
returns-in_err-r-clause-next g c =
    let f = c.facts.ensures in
    ap shown_memory c.finish_until.ensures.next ∙ next_ended_shown f.sound f.ports f.memory until_next (until_is_next c.self.inside.objects)
    ∙ ap (λ (m : Memory). ended_if (until_next m.timer) m) c.self.view_is

pub returns-clause-answer : goal.returns-clause-answer
returns-clause-answer g c =
    let f = c.facts.ensures in
    let s = c.self.inside.objects in
    let at : slot (places variant.Request s) c.in_ok-r.r ≡ Some c.address_of.result =
    ap (λ (t : Tabled). slot (slots_of variant.Request t) c.in_ok-r.r) (sym (table_ended (until_next s.timing.timer) s))
    ∙ ap (λ (x : Numbered). slot (places variant.Request x) c.in_ok-r.r) (sym c.finish_until.ensures.next) ∙ c.address_of.ensures in
    finishing_some f.sound f.ports f.memory until_next (until_is_next s) c.in_ok-r.r c.address_of.result c.in_ok-r.action
    c.in_ok-r.ensures.answer at
    ∙ ap (λ (m : Memory). finishing m.heap (until_next m.timer)) c.self.view_is

pub returns-clause-next : goal.returns-clause-next
returns-clause-next g c =
    let f = c.facts.ensures in
    ap shown_memory c.finish_until.ensures.next ∙ next_ended_shown f.sound f.ports f.memory until_next (until_is_next c.self.inside.objects)
    ∙ ap (λ (m : Memory). ended_if (until_next m.timer) m) c.self.view_is
