-- No word says the line of a switch, nor does a task that ends, a software interrupt, or what is served.
use Rattle.std.proofs.Common.{◌≡◌, ℕ, false, List, [], ◌∷◌, refl, All}
use Rattle.std.proofs.lemmas.List.Elements.{All-head, All-tail}
use Rattle.exectrace.specs.Trace.{TraceLine}
use Rattle.execmodel.specs.{State.Call, State.State, State.Outcome, State.andthen, Calls.ByTask, Interrupts.runs_softint, Interrupts.interrupts, Requests.does_requests, Requests.finishes_set, Step.does, Step.ends, Laws.OnlySwitchesSaySo, Laws.says_switch}
use Rattle.script.specs.declared.word.Word.{Word}
use Rattle.execmodel.proofs.{BodyActions.softint_bodily, BodyActions.set_told, WithoutFinishing.word_itself, WithoutFinishing.followed, WithoutFinishing.word_tells, Servings.none_switched, Servings.switched_more, Servings.all_served, LinesOf.IsOwn, LinesOf.own, LinesOf.refusing, LinesOf.speaker}

-- an outcome without the line of a switch
abbrev Silent : Outcome → Type 0
Silent o = says_switch o.lines ≡ false

-- neither a call's own line nor its alert is the line of a switch
one_silent : (name : List ℕ) (call : Call) (line : TraceLine) (lines : List TraceLine) → IsOwn name call line → says_switch lines ≡ false
    → says_switch (line ∷ lines) ≡ false
one_silent name call _ lines (own outcome) rest = rest
one_silent name call _ lines (refusing code) rest = rest

all_silent : (name : List ℕ) (call : Call) (lines : List TraceLine) → All (IsOwn name call) lines → says_switch lines ≡ false
all_silent name call [] are = refl
all_silent name call (line ∷ lines) are =
    one_silent name call line lines (All-head (IsOwn name call) line lines are)
    (all_silent name call lines (All-tail (IsOwn name call) line lines are))

word_silent : (word : Word) (t : ℕ) (call : Call) (s : State) → Silent (word_itself word t call s)
word_silent word t call s =
    let o = word_itself word t call s in
    all_silent (speaker (ByTask t) o.state) call o.lines (word_tells word t call s).lines

-- nor does what follows a word that set system time
silent_set : (first : State → Outcome) (s : State) → Silent (first s) → Silent (andthen first finishes_set s)
unfolding andthen
silent_set first s one =
    switched_more (first s).lines (finishes_set (first s).state).lines one
    (none_switched (finishes_set (first s).state).lines (set_told (first s).state))

call_silent : (t : ℕ) (call : Call) (s : State) → says_switch (does t call s).lines ≡ false
unfolding does
call_silent t call s =
    followed Silent t call s (λ word first. silent_set (does_requests word t call) s first) call.word (word_silent call.word t call s)

end_silent : (t : ℕ) (s : State) → says_switch (ends t s).lines ≡ false
unfolding ends
end_silent t s = refl

softint_silent : (i : ℕ) (s : State) → says_switch (runs_softint i s).lines ≡ false
softint_silent i s = none_switched (runs_softint i s).lines (softint_bodily i s).told

servings_silent : (s : State) → says_switch (interrupts s).lines ≡ false
unfolding interrupts
servings_silent s = (all_served 3 s).silent

pub only_switches_say_so : OnlySwitchesSaySo
only_switches_say_so = record { of_calls = call_silent; of_ends = end_silent; of_softints = softint_silent; of_interrupts = servings_silent }
