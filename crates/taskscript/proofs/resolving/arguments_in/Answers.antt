-- The proof of `arguments_in`.
use Rattle.std.proofs.Common.{◌≡◌, ◌∙◌, ◌+◌, ◌∷◌, drop, map, take, true, sym, arith, length-set}
use Rattle.script.specs.{Commands.argument_view, Commands.ArgumentFits, Commands.IsNamed}
use Rattle.taskscript.specs.{Labels.marks_view, Labels.place_at, Lines.named_argument_view, Numbering.names_view, Numbering.argument_in}
use Rattle.taskscript.proofs.{Naming.holds_at, Resolved.marked_more, Resolved.front_grown, Resolved.made_more, Resolved.arguments_resolved, Turns.left_split}
use Rattle.taskscript.proofs.resolving.arguments_in.Goals as goal

pub argument_in-requires : goal.argument_in-requires
argument_in-requires c =
    holds_at ArgumentFits (argument_in (names_view c.args.private.now.keys c.args.shared.now.keys) (place_at (marks_view c.args.labels.now.entries))) named_argument_view
    c.args.named.now c.loop-i.i c.index-named-i.result c.loop-i-test.true c.index-named-i.is c.requires.fit

pub loop-i-preserved : goal.loop-i-preserved
loop-i-preserved c =
    let marks = marks_view c.args.labels.now.entries in
    let numbered = argument_in (names_view c.args.private.now.keys c.args.shared.now.keys) (place_at marks) in
    let a = named_argument_view c.index-named-i.result in
    let left = map named_argument_view (drop c.loop-i.i c.args.named.now) in
    let others = map named_argument_view (drop (c.loop-i.i + 1) c.args.named.now) in
    let is : left ≡ a ∷ others = left_split c.args.named.now c.loop-i.i c.index-named-i.result c.loop-i-test.true c.index-named-i.is in
    record {
      four = simp length-set c.loop-i.invariant.four;
      known = sym (marked_more marks a left others true is c.in_ok-arguments.ensures.0) ∙ c.loop-i.invariant.known;
      found = λ name all.
          let here = c.in_ok-arguments.ensures.1 name (holds_at (IsNamed name) numbered named_argument_view c.args.named.now c.loop-i.i c.index-named-i.result c.loop-i-test.true c.index-named-i.is all) in
          made_more numbered (map (argument_view name) (take c.loop-i.i c.loop-i.arguments)) _ (argument_view name c.in_ok-arguments.field-0) a left others is here
          (front_grown name c.loop-i.arguments c.loop-i.i c.in_ok-arguments.field-0 (omega arith)) ∙ c.loop-i.invariant.found name all;
    }

pub returns : goal.returns
returns c =
    let marks = marks_view c.args.labels.now.entries in
    let numbered = argument_in (names_view c.args.private.now.keys c.args.shared.now.keys) (place_at marks) in
    arguments_resolved marks numbered c.args.named.now c.loop-i.arguments c.loop-i.i c.loop-i.auto.i-end c.loop-i-test.false c.loop-i.invariant.known c.loop-i.invariant.found
