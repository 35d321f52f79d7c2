-- Calls that do events, feed lines and add tasks, one after another.
use Rattle.std.proofs.Common.{◌≡◌, ◌∙◌, ℕ, List, [], ◌∷◌, ◌++◌, map, Option, Some, refl, ap, sym, subst, append-nil, ap₂}
use Rattle.std.specs.Io.KnownBytes.{Appends}
use Rattle.std.proofs.lemmas.List.Concat.{flat_map-append}
use Rattle.exectrace.specs.{Trace.TraceLine, Trace.printed, Trace.printed_line}
use Rattle.exectrace.specs.Putting.{Appends-then}
use Rattle.script.specs.{File.MachineData, declared.event.Event.Event}
use Rattle.execmodel.specs.{State.Mark, State.Outcome, State.State, State.andthen, State.booted, State.quiet, Step.event, Step.events, Step.run, Step.starts}
use Rattle.execmodel.specs.Feeding.{Comes, Input, does_input, events_among, inputs, whole}
use Rattle.execmodel.proofs.{FedRuns.fed_machines_run_as_whole, Moments.joined, Moments.next_same}
use Rattle.execsim.specs.Agreement.{Agrees, Seen}
use Rattle.execsim_c.specs.{Stepping.Does, Whole.CallsDoInputs, Whole.CallsFollow, Whole.GrownMachinesAreWhole}

quietly : (o : Outcome) → record { state = o.state; lines = o.lines ++ []; marks = o.marks ++ [] } ≡ o
quietly o = ap₂ (λ (l : List TraceLine) (m : List Mark). record { state = o.state; lines = l; marks = m }) (append-nil o.lines) (append-nil o.marks)

one_input : (input : Input) (s : State) → does_input input s ≡ inputs (input ∷ []) s
unfolding inputs andthen
one_input input s = sym (quietly (does_input input s))

events_come : (list : List Event) (s : State) → events list s ≡ inputs (map Comes list) s
unfolding events inputs
events_come [] s = refl
events_come (e ∷ list) s = next_same (event e) (events list) (inputs (map Comes list)) s (events_come list)

nothing_first : (next : State → Outcome) (s : State) → andthen quiet next s ≡ next s
unfolding andthen
nothing_first next s = refl

inputs_more : (some more : List Input) (s : State) → inputs (some ++ more) s ≡ andthen (inputs some) (inputs more) s
unfolding inputs
inputs_more [] more s = sym (nothing_first (inputs more) s)
inputs_more (one ∷ some) more s =
    next_same (does_input one) (inputs (some ++ more)) (andthen (inputs some) (inputs more)) s (inputs_more some more)
    ∙ sym (joined (does_input one) (inputs some) (inputs more) s)

module _ {old new : Seen} {before after : Option (List ℕ)} where
  -- what is done is the same
  does_same : (one other : State → Outcome) → ((s : State) → one s ≡ other s) → Does one old new before after → Does other old new before after
  does_same one other same does = record {
    agrees = λ s there. subst (λ (o : Outcome). Agrees new o.state) (same s) (does.agrees s there);
    prints = λ s there. subst (λ (o : Outcome). Appends before after (printed o.lines)) (same s) (does.prints s there);
  }

pub calls_do_inputs : CallsDoInputs
calls_do_inputs = record {
  one = λ input old new before after. does_same (does_input input) (inputs (input ∷ [])) (one_input input);
  events = λ list old new before after. does_same (events list) (inputs (map Comes list)) (events_come list);
}

does_then : (one other : State → Outcome) (old mid new : Seen) (before between after : Option (List ℕ)) → Does one old mid before between
    → Does other mid new between after → Does (andthen one other) old new before after
unfolding andthen
does_then one other old mid new before between after first second = record {
  agrees = λ s there. second.agrees (one s).state (first.agrees s there);
  prints = λ s there.
      let t = (one s).state in
      subst (Appends before after) (sym (flat_map-append printed_line (one s).lines (other t).lines))
      (Appends-then before between after (printed (one s).lines) (printed (other t).lines) (first.prints s there) (second.prints t (first.agrees s there)));
}

pub calls_follow : CallsFollow
calls_follow some more old mid new before between after first second =
    does_same (andthen (inputs some) (inputs more)) (inputs (some ++ more)) (λ s. sym (inputs_more some more s))
    (does_then (inputs some) (inputs more) old mid new before between after first second)

pub grown_machines_are_whole : GrownMachinesAreWhole
unfolding andthen
grown_machines_are_whole machine list is in_time old new before after start does =
    let first = starts (booted machine) in
    let same = fed_machines_run_as_whole machine list is in_time in
    record {
      agrees = subst (λ (o : Outcome). Agrees new o.state) same (does.agrees first.state start.agrees);
      prints = does.prints first.state start.agrees
          ∙ ap (λ xs. xs ++ printed (inputs list first.state).lines) start.prints
          ∙ sym (flat_map-append printed_line first.lines (inputs list first.state).lines)
          ∙ ap (λ (o : Outcome). printed o.lines) same;
    }
