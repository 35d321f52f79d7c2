-- The proof of `body_of`.
use Rattle.std.proofs.Common.{◌≡◌, ◌∙◌, sym, arith}
use Rattle.toml.specs.View.{view}
use Rattle.taskscript.specs.{Bodies.reading_view, Bodies.reading_with, Code.line_in, Meaning.line_meaning, Records.setting_view}
use Rattle.taskscript.proofs.{BodyReading.next_line, BodyReading.line_stops, BodyReading.line_goes_on, BodyReading.line_read, Listings.lines_go_on}
use Rattle.taskscript.proofs.code.body_of.Goals as goal

pub returns-in-Err-clause-judged : goal.returns-in-Err-clause-judged
returns-in-Err-clause-judged c =
    let text : c.line_in.result.now ≡ line_in (view c.index-lines-i.result) = c.line_in.ensures in
    let is = next_line c.args.lines.now c.loop-i.i c.index-lines-i.result c.line_in.result.now c.loop-i-test.true c.index-lines-i.is text in
    rw c.at_line.ensures (λ ne. line_stops c.args.owner c.args.number c.loop-i.i (setting_view c.args.setting) (reading_view c.loop-i.body c.loop-i.shared.keys) c.line_in.result.now _ _ c.in-Err.fault _ is (c.in-Err.ensures.judged ne) c.loop-i.invariant.judged)

pub loop-i-preserved : goal.loop-i-preserved
loop-i-preserved c =
    let s = setting_view c.args.setting in
    let before = reading_view c.loop-i.body c.loop-i.shared.keys in
    let after = reading_view c.add_line.new.body c.add_line.new.shared.keys in
    let line = c.line_in.result.now in
    let text : line ≡ line_in (view c.index-lines-i.result) = c.line_in.ensures in
    let is = next_line c.args.lines.now c.loop-i.i c.index-lines-i.result line c.loop-i-test.true c.index-lines-i.is text in
    let more : after ≡ reading_with before (line_meaning line) = c.in-Ok.ensures.judged.1 in
    record {
      few = omega (arith, c.in-Ok.ensures.commands, c.loop-i.invariant.few);
      judged = sym (line_goes_on c.args.owner c.args.number c.loop-i.i s before after line _ _ is c.in-Ok.ensures.judged.0 more) ∙ c.loop-i.invariant.judged;
      numbers = sym (lines_go_on c.loop-i.i c.loop-i.body.lines.items c.add_line.new.body.lines.items line _ _ is c.in-Ok.ensures.lines) ∙ c.loop-i.invariant.numbers;
      read = sym (line_read before after line _ _ is more) ∙ c.loop-i.invariant.read;
    }
