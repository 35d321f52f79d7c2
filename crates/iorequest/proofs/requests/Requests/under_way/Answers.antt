-- One number of the pool after another.
use Rattle.std.proofs.Common.{◌<◌, length, refl, sym, ap, ◌∙◌, arith, None}
use Rattle.std.specs.List.{list_any}
use Rattle.iorequest.specs.{Requests.is_under_way_at, declared.request.Request.Request}
use Rattle.std.proofs.lemmas.Grind.{get_or_default_zero}
use Rattle.execlist.specs.Pool.{Pooled}
use Rattle.iorequest.proofs.{Counted.none_counted, Under.none_here, Under.none_behind}
use Rattle.iorequest.proofs.requests.Requests.under_way.Goals as goal

pub loop-r-init : goal.loop-r-init
loop-r-init c = refl

pub loop-r-preserved : goal.loop-r-preserved
loop-r-preserved c =
    let slots = c.self.inside.requests.slots in
    let there : c.loop-r.r < length slots = omega (arith, c.loop-r-test.true, c.self.invariant.0) in
    c.loop-r.invariant
    ∙ none_here (is_under_way_at c.args.port) slots c.loop-r.r None there
    (ap (is_under_way_at c.args.port) (sym c.get.ensures) ∙ sym c.is_under_way_at.ensures ∙ c.if-is_under_way_at.false)

pub returns : goal.returns
returns c =
    let slots = c.self.inside.requests.slots in
    sym (ap (λ m. list_any (is_under_way_at c.args.port) m.slots) (sym c.self.view_is) ∙ c.loop-r.invariant
    ∙ none_behind (is_under_way_at c.args.port) slots c.loop-r.r (omega (arith, c.loop-r-test.false, c.self.invariant.0)))

pub returns-then-index-eq0 : goal.returns-then-index-eq0
returns-then-index-eq0 c =
    let counts = c.self.inside.counts in
    let keys = c.len.ensures ∙ counts.ok.0 in
    let within = rw keys at c.key_of.ensures.within in
    let zero = sym (c.index.ensures ∙ get_or_default_zero counts.items c.key_of.result c.index.result.now within) ∙ c.if-index-eq0.true in
    sym (ap (λ (m : Pooled Request). list_any (is_under_way_at c.args.port) m.slots) (sym c.self.view_is)
    ∙ none_counted c.self.invariant.1 c.args.port c.key_of.result (rw keys at c.key_of.ensures.value) within zero)
