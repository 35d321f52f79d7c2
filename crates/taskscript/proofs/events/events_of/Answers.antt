-- The proof of `events_of`.
use Rattle.std.proofs.Common.{◌≡◌, sym, ◌∙◌, arith, true, false, ◌++◌, ◌∷◌, [], ◌+◌, length, map, take}
use Rattle.std.proofs.lemmas.{List.length_push, List.Sums.sum_by_push}
use Rattle.script.specs.Events.{keeps_event_limits, event_steps, event_ticks}
use Rattle.taskscript.specs.Events.{is_skipped}
use Rattle.taskscript.proofs.EventTurns.{text_at, skip_found, skip_judged, bad_line, more_found, counted, too_many, goes_on, limits, all_within}
use Rattle.taskscript.proofs.events.events_of.Goals as goal

pub loop-i-preserved-then-is_skipped : goal.loop-i-preserved-then-is_skipped
loop-i-preserved-then-is_skipped c =
    let skipped : is_skipped (text_at c.args.lines.now c.loop-i.i) ≡ true = sym c.is_skipped.ensures ∙ c.if-is_skipped.true in
    record {
      found = c.loop-i.invariant.found ∙ skip_found c.args.lines.now c.loop-i.i c.loop-i-test.true skipped;
      steps_sum = c.loop-i.invariant.steps_sum;
      ticks_sum = c.loop-i.invariant.ticks_sum;
      steps_limit = c.loop-i.invariant.steps_limit;
      ticks_limit = c.loop-i.invariant.ticks_limit;
      count_limit = c.loop-i.invariant.count_limit;
      judged = sym (skip_judged c.args.lines.now c.loop-i.i c.loop-i-test.true skipped) ∙ c.loop-i.invariant.judged;
    }

pub returns-in-None : goal.returns-in-None
returns-in-None c = λ _. sym c.loop-i.invariant.judged ∙ bad_line c.args.lines.now c.loop-i.i c.loop-i-test.true (sym c.is_skipped.ensures ∙ c.if-is_skipped.false) c.in-None.ensures

pub returns-then-not-are_within : goal.returns-then-not-are_within
returns-then-not-are_within c = λ _.
    let es = c.loop-i.events.items in
    let e = c.in-Some.event in
    let fs : c.from-steps.result ≡ event_steps e = cc in
    let ft : c.from-ticks.result ≡ event_ticks e = cc in
    let ln : c.len.result ≡ length es = omega arith in
    let sums = counted es e c.loop-i.steps c.loop-i.ticks c.loop-i.invariant.steps_sum c.loop-i.invariant.ticks_sum in
    let within : keeps_event_limits (es ++ e ∷ []) ≡ false = sym (c.if-not-are_within.ensures ∙ rw (fs, ft, ln) sums) in
    sym c.loop-i.invariant.judged ∙ too_many c.args.lines.now c.loop-i.i c.in-Some.event c.loop-i.events.items c.loop-i-test.true (sym c.is_skipped.ensures ∙ c.if-is_skipped.false) c.in-Some.ensures c.loop-i.invariant.found within

pub loop-i-preserved : goal.loop-i-preserved
loop-i-preserved c =
    let es = c.loop-i.events.items in
    let e = c.in-Some.event in
    let fs : c.from-steps.result ≡ event_steps e = cc in
    let ft : c.from-ticks.result ≡ event_ticks e = cc in
    let ln : c.len.result ≡ length es = omega arith in
    let sums = counted es e c.loop-i.steps c.loop-i.ticks c.loop-i.invariant.steps_sum c.loop-i.invariant.ticks_sum in
    let within : keeps_event_limits (es ++ e ∷ []) ≡ true = sym (c.if-not-are_within.ensures ∙ rw (fs, ft, ln) sums) in
    let small = limits (c.loop-i.steps + c.from-steps.result) (c.loop-i.ticks + c.from-ticks.result) (c.len.result + 1) (sym c.if-not-are_within.ensures) in
    let fine = sym c.is_skipped.ensures ∙ c.if-is_skipped.false in
    rw c.in_ok-push.ensures.items (record {
      found = more_found c.args.lines.now c.loop-i.i c.in-Some.event c.loop-i.events.items c.loop-i-test.true fine c.in-Some.ensures c.loop-i.invariant.found;
      steps_sum = omega (arith, sum_by_push event_steps es e, fs);
      ticks_sum = omega (arith, sum_by_push event_ticks es e, ft);
      steps_limit = small.0;
      ticks_limit = small.1;
      count_limit = omega (arith, length_push es e, ln, small.2);
      judged = sym (goes_on c.args.lines.now c.loop-i.i c.in-Some.event c.loop-i.events.items c.loop-i-test.true fine c.in-Some.ensures c.loop-i.invariant.found within) ∙ c.loop-i.invariant.judged;
    })

pub new-requires : goal.new-requires
new-requires c = all_within c.loop-i.events.items (take c.loop-i.i (map (λ l. l.now) c.args.lines.now)) c.loop-i.steps c.loop-i.ticks c.loop-i.invariant.found c.loop-i.invariant.steps_sum c.loop-i.invariant.ticks_sum c.loop-i.invariant.steps_limit c.loop-i.invariant.ticks_limit c.loop-i.invariant.count_limit
