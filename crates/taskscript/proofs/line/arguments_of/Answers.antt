-- The proof of `arguments_of`.
use Rattle.std.proofs.Common.{arith, ◌+◌, [], ◌∷◌, map, refl, sym, ap, ◌∙◌, length-append}
use Rattle.std.proofs.lemmas.List.{length-map, map_push}
use Rattle.taskscript.specs.Lines.{named_argument_view}
use Rattle.taskscript.proofs.Arguments.{args_uneven, turn_goes_on, turn_stops, turns_end}
use Rattle.taskscript.proofs.line.arguments_of.Goals as goal

pub returns-then-kinds-fields-clause-read : goal.returns-then-kinds-fields-clause-read
returns-then-kinds-fields-clause-read c = λ _. (refl, args_uneven c.args.kinds.now _ (λ e. c.if-kinds-fields.true (e ∙ length-map c.args.fields.now (λ f. f.now))))

pub returns-in-None-clause-read : goal.returns-in-None-clause-read
returns-in-None-clause-read c = λ _. (refl, sym c.loop-i.invariant.found ∙ turn_stops (map named_argument_view c.loop-i.arguments.items) c.args.kinds.now c.args.fields.now c.loop-i.i c.loop-i-test.true (omega arith) c.in-None.ensures)

pub loop-i-preserved : goal.loop-i-preserved
loop-i-preserved c = record {
  counted = rw c.in_ok-push-in-Some.ensures.items (length-append c.loop-i.arguments.items (c.in-Some.argument ∷ []) ∙ ap (λ n. n + 1) c.loop-i.invariant.counted);
  found = rw (c.in_ok-push-in-Some.ensures.items, map_push)
      (sym (turn_goes_on (map named_argument_view c.loop-i.arguments.items) (named_argument_view c.in-Some.argument) c.args.kinds.now c.args.fields.now c.loop-i.i c.loop-i-test.true (omega arith) c.in-Some.ensures) ∙ c.loop-i.invariant.found);
}

pub returns-clause-read : goal.returns-clause-read
returns-clause-read c = sym c.loop-i.invariant.found ∙ turns_end (map named_argument_view c.loop-i.arguments.items) c.args.kinds.now c.args.fields.now c.loop-i.i c.loop-i-test.false c.if-kinds-fields.false
