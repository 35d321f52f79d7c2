-- The proof of `argument_in`.
use Rattle.std.proofs.Common.{◌≡◌, ℕ, ◌∙◌, Some, None, refl, sym, ap, Option, ◌&&◌, true, is_some, unwrap_or}
use Rattle.script.specs.Commands.{place}
use Rattle.taskscript.specs.{Labels.place_in, Labels.marks_view}
use Rattle.taskscript.proofs.LabelPlaces.{place_looked_up}
use Rattle.taskscript.proofs.resolving.argument_in.Goals as goal

pub returns-in-None : goal.returns-in-None
returns-in-None c =
    let lacks : place_in (marks_view c.args.labels.now.entries) c.in-Label.name.bytes ≡ None = sym (c.in-None.ensures ∙ c.get.ensures.value ∙ place_looked_up c.in-Label.name.bytes c.args.labels.now.entries) in
    rw c.in-Label.is (refl, ap (λ (o : Option ℕ). is_some o && true) lacks)

pub returns-in-Some : goal.returns-in-Some
returns-in-Some c =
    let there : place_in (marks_view c.args.labels.now.entries) c.in-Label.name.bytes ≡ Some c.in-Some.place = sym (c.in-Some.ensures ∙ c.get.ensures.value ∙ place_looked_up c.in-Label.name.bytes c.args.labels.now.entries) in
    rw c.in-Label.is (ap (λ (o : Option ℕ). is_some o && true) there, λ _ _. ap (λ (o : Option ℕ). place (unwrap_or o 0)) (sym there))
