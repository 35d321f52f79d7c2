-- A port is in use if it is by number.
use Rattle.std.proofs.Common.{Bool, true, false, ◌≡◌, ◌||◌, is_some, ap, sym, ◌∙◌}
use Rattle.std.specs.List.{list_any}
use Rattle.execlist.specs.Pool.{Pooled}
use Rattle.iorequest.specs.{declared.request.Request.Request, Requests.is_under_way_at}
use Rattle.msgport.specs.Ports.{has_messages, is_public}
use Rattle.execheap.specs.Numbered.{shown_memory}
use Rattle.execheap.proofs.objects.Objects.port_to_delete.Goals.{Joined-is_public, then-is_public, else-is_public}
use Rattle.execheap.proofs.{Public.delete_found, Public.delete_refused, Passed.passed_on}
use Rattle.execheap.proofs.objects.Objects.port_to_delete.Goals as goal

-- it has no message: whether it is public or awaited
used : (g : _) (c : Joined-is_public g)
    → (has_messages c.in_ok-p.p c.args.self.now.ports || (is_public c.in_ok-p.p c.args.self.now.ports || list_any (is_under_way_at c.args.port) c.args.self.now.requests.slots))
    ≡ c.if-is_public.value
used g c =
    let s = c.args.self.now in
    let has : has_messages c.in_ok-p.p s.ports ≡ false =
    ap (has_messages c.in_ok-p.p) (sym c.ports.ensures) ∙ ap is_some (sym c.in-None.ensures.value) in
    let awaited : Bool = list_any (is_under_way_at c.args.port) s.requests.slots in
    let public : is_public c.in_ok-p.p s.ports ≡ c.is_public.result = ap (is_public c.in_ok-p.p) (sym c.ports-in-None.ensures) ∙ sym c.is_public.ensures in
    ap (λ b. b || (is_public c.in_ok-p.p s.ports || awaited)) has ∙ ap (λ b. b || awaited) public
    ∙ elim c.if-is_public.branch [
      | then-is_public w ↦ ap (λ b. b || awaited) w.if-is_public.true ∙ sym w.if-is_public.true ∙ sym w.value-is
      | else-is_public w ↦ ap (λ b. b || awaited) w.if-is_public.false
          ∙ ap (λ (m : Pooled Request). list_any (is_under_way_at c.args.port) m.slots) (sym w.requests.ensures) ∙ sym w.under_way.ensures ∙ sym w.value-is
    ]

pub returns-in_err-p-clause-alert : goal.returns-in_err-p-clause-alert
returns-in_err-p-clause-alert g c =
    passed_on c.from_residual.result c.in_err-p.field-0.0 c.from_residual.ensures.1
    ∙ sym (delete_refused c.args.port (shown_memory c.args.self.now) (sym c.in_err-p.ensures.alert))

pub returns-in-Some-clause-alert : goal.returns-in-Some-clause-alert
returns-in-Some-clause-alert g c =
    let f = c.in_ok-p.ensures.known in
    let has : has_messages c.in_ok-p.p c.args.self.now.ports ≡ true =
    ap (has_messages c.in_ok-p.p) (sym c.ports.ensures) ∙ ap is_some (sym c.in-Some.ensures.value) in
    sym (delete_found f.sound f.ports c.in_ok-p.p c.args.port c.in_ok-p.ensures.found (sym c.in_ok-p.ensures.alert)
    (ap (λ b. b || (is_public c.in_ok-p.p c.args.self.now.ports || list_any (is_under_way_at c.args.port) c.args.self.now.requests.slots)) has))

pub returns-then-under_way-clause-alert : goal.returns-then-under_way-clause-alert
returns-then-under_way-clause-alert g c =
    sym (delete_found c.in_ok-p.ensures.known.sound c.in_ok-p.ensures.known.ports c.in_ok-p.p c.args.port c.in_ok-p.ensures.found (sym c.in_ok-p.ensures.alert)
    (used g (goal.at.returns-then-under_way-clause-alert g c).Joined-is_public ∙ c.if-under_way.true))

pub returns-else-under_way-clause-alert : goal.returns-else-under_way-clause-alert
returns-else-under_way-clause-alert g c =
    sym (delete_found c.in_ok-p.ensures.known.sound c.in_ok-p.ensures.known.ports c.in_ok-p.p c.args.port c.in_ok-p.ensures.found (sym c.in_ok-p.ensures.alert)
    (used g (goal.at.returns-else-under_way-clause-alert g c).Joined-is_public ∙ c.if-under_way.false))
