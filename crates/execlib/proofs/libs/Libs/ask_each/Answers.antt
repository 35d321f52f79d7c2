-- As long as the block fits nowhere the next library is asked for memory, and once it fits no other is asked.
use Rattle.std.proofs.Common.{◌≡◌, ◌<◌, ◌+◌, ◌-◌, ap, sym, subst, ◌∙◌, arith, length}
use Rattle.std.specs.List.{range_with_len}
use Rattle.execlib.specs.Libraries.{Lent, asked_each, gives_way, lent}
use Rattle.execlib.proofs.Asking.{AreLent, fitting_asked, last_asked, lent_is, lies_giving, next_asked}
use Rattle.execlib.proofs.libs.Libs.ask_each.Goals as goal

pub loop-i-preserved : goal.loop-i-preserved
loop-i-preserved g c =
    let i = c.loop-i.i in
    let count = length c.args.self.now.known in
    let there : i < count = omega (arith, c.loop-i-test.true, c.how_many-i-end.ensures) in
    let before = lent c.loop-i.self c.loop-i.memory in
    let after = lent_is (gives_way i before) c.give_way.new.self c.give_way.new.memory c.give_way.ensures.libraries c.give_way.ensures.memory in
    record {
      lies = subst AreLent (sym after) (lies_giving i before c.loop-i.invariant.lies);
      rest = ap (asked_each c.args.size c.args.reqs (range_with_len (i + 1) (count - (i + 1)))) after
          ∙ sym (next_asked c.args.size c.args.reqs i count before there (sym c.fits.ensures ∙ c.if-fits.false))
          ∙ c.loop-i.invariant.rest;
    }

pub returns-then-fits : goal.returns-then-fits
returns-then-fits g c =
    let i = c.loop-i.i in
    let count = length c.args.self.now.known in
    let before = lent c.loop-i.self c.loop-i.memory in
    let same = sym (fitting_asked c.args.size c.args.reqs (range_with_len i (count - i)) before (sym c.fits.ensures ∙ c.if-fits.true)) ∙ c.loop-i.invariant.rest in
    record { libraries = ap (λ (l : Lent). l.libraries) same; memory = ap (λ (l : Lent). l.memory) same }

pub returns : goal.returns
returns g c =
    let i = c.loop-i.i in
    let count = length c.args.self.now.known in
    let end : count ≡ i = omega (arith, c.loop-i-test.false, c.loop-i.auto.i-end, c.how_many-i-end.ensures) in
    let same = sym (last_asked c.args.size c.args.reqs i count (lent c.loop-i.self c.loop-i.memory) end) ∙ c.loop-i.invariant.rest in
    record { libraries = ap (λ (l : Lent). l.libraries) same; memory = ap (λ (l : Lent). l.memory) same }
