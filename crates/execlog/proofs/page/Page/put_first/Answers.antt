-- What was first is put, and the others are kept.
use Rattle.std.proofs.Common.{◌≤◌, ◌-◌, ℕ, List, [], take, subst, sym, arith}
use Rattle.exectrace.specs.Sink.{Adds, Puts}
use Rattle.execlog.proofs.{Sheets.first_put, page.Page.put_first.Goals.else-self-len, page.Page.put_first.Goals.then-self-len}
use Rattle.execlog.proofs.page.Page.put_first.Goals as goal

pub returns : goal.returns
returns g c =
    let len : ℕ = c.self.inside.len in
    let cells : List ℕ = c.self.inside.cells.items in
    let first : ℕ = c.if-self-len.first in
    let few : first ≤ len = elim c.if-self-len.branch [ then-self-len w ↦ omega (arith, w.first-is, w.if-self-len.true) | else-self-len w ↦ omega (arith, w.first-is) ] in
    let handed : Puts (g.W.Sink.tape c.args.out.now) (g.W.Sink.tape c.put.new.out) (take first cells) =
    subst (λ (l : List ℕ). Puts (g.W.Sink.tape c.args.out.now) (g.W.Sink.tape c.put.new.out) (take first l)) c.deref.ensures.value c.put.ensures in
    subst (λ (old : List ℕ). Adds (g.W.Sink.tape c.args.out.now) (g.W.Sink.tape c.put.new.out) old (take (len - first) c.copy_within.new.self.items) [])
    c.self.view_is
    (subst (λ (new : List ℕ). Adds (g.W.Sink.tape c.args.out.now) (g.W.Sink.tape c.put.new.out) (take len cells) (take (len - first) new) [])
    (sym c.copy_within.ensures.items) (first_put cells first len few c.self.invariant handed))
