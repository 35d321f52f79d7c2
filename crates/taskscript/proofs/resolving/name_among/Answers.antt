-- The proof of `name_among`.
use Rattle.std.proofs.Common.{◌∙◌, ap, sym, map}
use Rattle.std.proofs.lemmas.List.{drop_all}
use Rattle.script.specs.Commands.{first_name}
use Rattle.taskscript.specs.{Lines.named_argument_view, Numbering.argument_in}
use Rattle.taskscript.proofs.{Resolved.name_first, Resolved.name_left, Turns.left_split}
use Rattle.taskscript.proofs.resolving.name_among.Goals as goal

pub returns-in-Quoted : goal.returns-in-Quoted
returns-in-Quoted c = λ names places.
    let is = left_split c.args.named.now c.loop-argument.argument-index c.argument-item.result c.loop-argument-test.true c.argument-item.is in
    name_first names places c.argument-item.result c.in-Quoted.name _ _ is c.in-Quoted.is ∙ c.loop-argument.invariant.first names places

pub loop-argument-preserved : goal.loop-argument-preserved
loop-argument-preserved c = record {
  first = λ names places.
      let is = left_split c.args.named.now c.loop-argument.argument-index c.argument-item.result c.loop-argument-test.true c.argument-item.is in
      name_left names places c.argument-item.result _ _ is c.in_default.not-Quoted ∙ c.loop-argument.invariant.first names places;
}

pub returns : goal.returns
returns c = λ names places.
    c.new.ensures ∙ ap (λ left. first_name (map (argument_in names places) (map named_argument_view left))) (sym (drop_all c.loop-argument.argument-index c.args.named.now c.loop-argument-test.false))
    ∙ c.loop-argument.invariant.first names places
