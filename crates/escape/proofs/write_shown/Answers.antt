-- The proof of `write_shown`: the characters that were yielded are those of the text.
use Rattle.std.proofs.Common.{◌≡◌, ◌∙◌, ◌++◌, ◌∷◌, [], ap, flat_map, map-id, sym, arith, rules}
use Rattle.std.proofs.lemmas.Iterator.{YieldsList-from_chars}
use Rattle.std.proofs.lemmas.Iterator.Consumers.{YieldsList-end}
use Rattle.std.proofs.lemmas.Grind.{common_steps}
use Rattle.std.proofs.Output.{has_written_append, has_written_of_eq}
use Rattle.escape.specs.Shown.{shown_character}
use Rattle.escape.proofs.write_shown.Goals as goal

pub loop-c-preserved : goal.loop-c-preserved
loop-c-preserved g c = λ p.
    let more : flat_map shown_character c.loop-c.yielded ++ shown_character c.in-Some.c ≡ flat_map shown_character (c.loop-c.yielded ++ c.in-Some.c ∷ []) = grind (arith, common_steps) in
    has_written_of_eq _ _ _ _ _ more (has_written_append _ _ _ _ _ _ (c.loop-c.invariant p) (search rules))

pub returns : goal.returns
returns g c = λ p is_ok.
    let end = YieldsList-end (YieldsList-from_chars c.args.text.now c.utf8.text cc) c.loop-c.yielded _ c.loop-c.yielded_by _ _ c.in-None.is c.next.ensures.steps in
    has_written_of_eq _ _ _ _ _ (ap (flat_map shown_character) (sym (map-id c.loop-c.yielded) ∙ end.0)) (c.loop-c.invariant p)
