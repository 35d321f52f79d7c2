-- The proof of `better`: what is chosen once the header at a place is looked at too.
use Rattle.std.proofs.Common.{◌≡◌, drop, sym, subst, ◌∙◌, Option, Some, IsSomeAnd}
use Rattle.memlist.specs.{Areas.Area, Areas.area_gaps, Choice.IsLowest, Choice.chosen_of}
use Rattle.memlist.proofs.Choices.{area_at, drop_area, offer_outranked, offer_chosen, offers_by}
use Rattle.memlist.proofs.memory.better.Goals as goal

pub returns-then-is_outranked : goal.returns-then-is_outranked
returns-then-is_outranked c =
    let at = area_at c.args.headers.now c.args.place c.index-headers-place.result c.requires.place c.index-headers-place.is in
    offer_outranked c.args.headers.now c.args.size c.args.reqs c.args.place c.index-headers-place.result _ _ c.args.later (drop_area c.args.headers.now c.args.place _ at) at
    (sym c.is_outranked.ensures ∙ c.if-is_outranked.true) c.requires.later

pub returns-in-Some : goal.returns-in-Some
returns-in-Some c =
    let area = c.index-headers-place.result in
    let at = area_at c.args.headers.now c.args.place area c.requires.place c.index-headers-place.is in
    let offers = offers_by c.args.size c.args.reqs area c.in-Some.before (sym c.is_suitable.ensures ∙ c.if-not-is_suitable.false) c.in-Some.ensures in
    let choice = offer_chosen c.args.headers.now c.args.size c.args.reqs c.args.place area _ _ c.args.later (drop_area c.args.headers.now c.args.place area at) at (sym c.is_outranked.ensures ∙ c.if-is_outranked.false) offers c.requires.later in
    subst (λ (o : Option Area). IsSomeAnd o (λ area. (chosen_of c.args.size c.args.reqs (drop c.args.place c.args.headers.now) ≡ Some area.region) × IsLowest c.args.size (area_gaps area) (Some c.in-Some.before)))
    (sym at) (choice, c.in-Some.ensures)
