-- The proof of `add_label`.
use Rattle.std.proofs.Common.{◌≡◌, ℕ, ◌∙◌, arith, List, ◌++◌, ◌∷◌, [], map, length, Some, None, sym, ap, Option, Bool, not, is_some}
use Rattle.std.proofs.lemmas.List.{length-map}
use Rattle.taskscript.specs.declared.fault.FileFault.TheVariants.{NotInInterrupt, BadLabel}
use Rattle.taskscript.specs.{Bodies.Reading, Faults.check, Labels.Mark, Labels.place_in, Labels.marks_view, Lines.NamedCommandData, Lines.named_command_view, Numbering.Names, Numbering.names_view}
use Rattle.execlist.specs.Order.{first}
use Rattle.taskscript.proofs.{Firsts.first_none, LabelPlaces.place_looked_up, LabelPlaces.marks_grown}
use Rattle.taskscript.proofs.code.add_label.Goals as goal

abbrev reading : List NamedCommandData → Names → List Mark → Reading
reading cs names marks = record { commands = cs; names = names; marks = marks }

pub returns-in-None-clause-judged : goal.returns-in-None-clause-judged
returns-in-None-clause-judged c =
    let lacks : place_in (marks_view c.args.body.now.labels.entries) c.args.name.bytes ≡ None = sym (place_looked_up c.args.name.bytes c.args.body.now.labels.entries) ∙ sym c.in_ok-insert.ensures.old ∙ c.in-None.is in
    let allowed = ap (λ (b : Bool). first (check (not b) NotInInterrupt)) c.if-setting.false in
    let count : c.len-place.result ≡ length (map named_command_view c.args.body.now.commands.items) = omega (arith, length-map c.args.body.now.commands.items named_command_view) in
    let old = marks_view c.args.body.now.labels.entries in
    let grown : marks_view c.insert.new.self.entries ≡ old ++ record { name = c.args.name.bytes; place = length (map named_command_view c.args.body.now.commands.items) } ∷ [] =
    ap marks_view c.in_ok-insert.ensures.entries ∙ marks_grown c.args.name c.len-place.result c.args.body.now.labels.entries lacks ∙ ap (λ (k : ℕ). old ++ record { name = c.args.name.bytes; place = k } ∷ []) count in
    (first_none (check (not c.args.setting.of_interrupt) NotInInterrupt) _ allowed ∙ ap (λ (o : Option ℕ). first (check (not (is_some o)) BadLabel)) lacks, ap (λ (ms : List Mark). reading (map named_command_view c.args.body.now.commands.items) (names_view c.args.body.now.private.keys c.args.shared.now.keys) ms) grown)

pub returns-in-Some-clause-judged : goal.returns-in-Some-clause-judged
returns-in-Some-clause-judged c =
    let there : place_in (marks_view c.args.body.now.labels.entries) c.args.name.bytes ≡ Some c.in-Some.field-0 = sym (place_looked_up c.args.name.bytes c.args.body.now.labels.entries) ∙ sym c.in_ok-insert.ensures.old ∙ c.in-Some.is in
    let allowed = ap (λ (b : Bool). first (check (not b) NotInInterrupt)) c.if-setting.false in
    λ _. first_none (check (not c.args.setting.of_interrupt) NotInInterrupt) _ allowed ∙ ap (λ (o : Option ℕ). first (check (not (is_some o)) BadLabel)) there
