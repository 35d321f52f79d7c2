-- One turn of the loop over the lines of an event text: what it finds, and what it judges.
use Rattle.std.proofs.Common.{◌≡◌, ℕ, ◌+◌, ◌≤◌, ◌<◌, Bool, true, false, if◌then◌else◌, List, [], ◌∷◌, ◌++◌, length, get_or, take, drop, map, sum_by, Some, None, Result, Ok, Err, sym, ap, ◌∙◌, arith, append_assoc, Bor, MatchResult, append-nil, length-take-le}
use Rattle.std.proofs.lemmas.{List.drop_more, List.take_more, List.length-map, List.length_push, List.Sums.sum_by_push, Bool.Decides.nat_tests}
use Rattle.std.proofs.Math.ListN.{get_or-map as default_map}
use Rattle.taskscript.specs.declared.fault.EventFault.TheVariants.{BadLine, TooMany, OutOfMemory}
use Rattle.script.specs.Events.{event_steps, event_ticks, are_within, keeps_event_limits, AreWithin}
use Rattle.taskscript.specs.Events.{event_of, is_skipped, events_on, events_of, event_line_faults, event_faults, text_lines, script_of, JudgesLines}
use Rattle.script.specs.declared.event.Event.{Event}
use Rattle.taskscript.specs.declared.fault.EventFault.{EventFault}
use Rattle.execlist.specs.Order.{first}
use Rattle.taskscript.proofs.EventSizes.{events_some}

abbrev pub nowhere : Bor (List ℕ)
nowhere = record { ref_ptr = (0, 0); now = [] }

abbrev pub texts : List (Bor (List ℕ)) → List (List ℕ)
texts ls = map (λ l. l.now) ls

abbrev pub text_at : List (Bor (List ℕ)) → ℕ → List ℕ
text_at ls i = (get_or ls i nowhere).now

text_is : (ls : List (Bor (List ℕ))) (i : ℕ) → get_or (texts ls) i [] ≡ text_at ls i
text_is ls i = default_map (λ (l : Bor (List ℕ)). l.now) ls i nowhere

next_drop : (ls : List (Bor (List ℕ))) (i : ℕ) → i < length ls → drop i (texts ls) ≡ text_at ls i ∷ drop (i + 1) (texts ls)
next_drop ls i lt = drop_more (texts ls) i [] (rw length-map lt) ∙ ap (λ (t : List ℕ). t ∷ drop (i + 1) (texts ls)) (text_is ls i)

next_take : (ls : List (Bor (List ℕ))) (i : ℕ) → i < length ls → take (i + 1) (texts ls) ≡ take i (texts ls) ++ text_at ls i ∷ []
next_take ls i lt = take_more (texts ls) i [] (rw length-map lt) ∙ ap (λ (t : List ℕ). take i (texts ls) ++ t ∷ []) (text_is ls i)

pub events_push : (ts : List (List ℕ)) (t : List ℕ) → events_of (ts ++ t ∷ []) ≡ events_of ts ++ events_on t
events_push [] t = append-nil (events_on t)
events_push (x ∷ ts) t = ap (λ (es : List Event). events_on x ++ es) (events_push ts t) ∙ sym (append_assoc (events_on x) (events_of ts) (events_on t))

first_none : (a b : List EventFault) → a ≡ [] → first (a ++ b) ≡ first b
first_none a b h = rw h

here : (ls : List (Bor (List ℕ))) (i : ℕ) → i < length ls → event_faults (take i (texts ls)) (drop i (texts ls)) ≡ event_line_faults (take i (texts ls)) (text_at ls i) ++ event_faults (take (i + 1) (texts ls)) (drop (i + 1) (texts ls))
here ls i lt = ap (event_faults (take i (texts ls))) (next_drop ls i lt) ∙ ap (λ (before : List (List ℕ)). event_line_faults (take i (texts ls)) (text_at ls i) ++ event_faults before (drop (i + 1) (texts ls))) (sym (next_take ls i lt))

-- a line that is skipped
skips : (before : List (List ℕ)) (t : List ℕ) → is_skipped t ≡ true → event_line_faults before t ≡ []
skips before t h = rw h

pub skip_found : (ls : List (Bor (List ℕ))) (i : ℕ) → i < length ls → is_skipped (text_at ls i) ≡ true → events_of (take i (texts ls)) ≡ events_of (take (i + 1) (texts ls))
skip_found ls i lt h = sym (ap events_of (next_take ls i lt) ∙ events_push (take i (texts ls)) (text_at ls i) ∙ rw h (append-nil (events_of (take i (texts ls)))))

pub skip_judged : (ls : List (Bor (List ℕ))) (i : ℕ) → i < length ls → is_skipped (text_at ls i) ≡ true → first (event_faults (take i (texts ls)) (drop i (texts ls))) ≡ first (event_faults (take (i + 1) (texts ls)) (drop (i + 1) (texts ls)))
skip_judged ls i lt h = ap first (here ls i lt) ∙ first_none _ _ (skips (take i (texts ls)) (text_at ls i) h)

-- a line with no event
pub bad_line : (ls : List (Bor (List ℕ))) (i : ℕ) → i < length ls → is_skipped (text_at ls i) ≡ false → None ≡ event_of (text_at ls i) → first (event_faults (take i (texts ls)) (drop i (texts ls))) ≡ Some (BadLine (i + 1))
bad_line ls i lt h none =
    let len : length (take i (texts ls)) ≡ i = length-take-le i (texts ls) (rw length-map (omega arith)) in
    ap first (here ls i lt) ∙ rw (h, ← none, len)

-- a line with an event
event_found : (ls : List (Bor (List ℕ))) (i : ℕ) (e : Event) → i < length ls → is_skipped (text_at ls i) ≡ false → Some e ≡ event_of (text_at ls i) → events_of (take i (texts ls) ++ text_at ls i ∷ []) ≡ events_of (take i (texts ls)) ++ e ∷ []
event_found ls i e lt h some = events_push (take i (texts ls)) (text_at ls i) ∙ rw (h, ← some)

pub more_found : (ls : List (Bor (List ℕ))) (i : ℕ) (e : Event) (es : List Event) → i < length ls → is_skipped (text_at ls i) ≡ false → Some e ≡ event_of (text_at ls i) → es ≡ events_of (take i (texts ls)) → es ++ e ∷ [] ≡ events_of (take (i + 1) (texts ls))
more_found ls i e es lt h some so_far = ap (λ (xs : List Event). xs ++ e ∷ []) so_far ∙ sym (event_found ls i e lt h some) ∙ sym (ap events_of (next_take ls i lt))

-- the counters are the sums
pub counted : (es : List Event) (e : Event) (s t : ℕ) → s ≡ sum_by event_steps es → t ≡ sum_by event_ticks es → are_within (s + event_steps e) (t + event_ticks e) (length es + 1) ≡ keeps_event_limits (es ++ e ∷ [])
counted es e s t p q = rw (sum_by_push event_steps es e, sum_by_push event_ticks es e, length_push es e, ← p, ← q)

judged_here : (ls : List (Bor (List ℕ))) (i : ℕ) (e : Event) (es : List Event) (b : Bool) → i < length ls → is_skipped (text_at ls i) ≡ false → Some e ≡ event_of (text_at ls i) → es ≡ events_of (take i (texts ls)) → keeps_event_limits (es ++ e ∷ []) ≡ b
    → event_line_faults (take i (texts ls)) (text_at ls i) ≡ (if b then [] else TooMany ∷ [])
judged_here ls i e es b lt h some so_far within =
    rw (h, ← some, event_found ls i e lt h some, ← so_far, within)

pub too_many : (ls : List (Bor (List ℕ))) (i : ℕ) (e : Event) (es : List Event) → i < length ls → is_skipped (text_at ls i) ≡ false → Some e ≡ event_of (text_at ls i) → es ≡ events_of (take i (texts ls)) → keeps_event_limits (es ++ e ∷ []) ≡ false
    → first (event_faults (take i (texts ls)) (drop i (texts ls))) ≡ Some TooMany
too_many ls i e es lt h some so_far within = ap first (here ls i lt) ∙ rw (judged_here ls i e es false lt h some so_far within)

pub goes_on : (ls : List (Bor (List ℕ))) (i : ℕ) (e : Event) (es : List Event) → i < length ls → is_skipped (text_at ls i) ≡ false → Some e ≡ event_of (text_at ls i) → es ≡ events_of (take i (texts ls)) → keeps_event_limits (es ++ e ∷ []) ≡ true
    → first (event_faults (take i (texts ls)) (drop i (texts ls))) ≡ first (event_faults (take (i + 1) (texts ls)) (drop (i + 1) (texts ls)))
goes_on ls i e es lt h some so_far within = ap first (here ls i lt) ∙ first_none _ _ (judged_here ls i e es true lt h some so_far within)

pub limits : (s t n : ℕ) → are_within s t n ≡ true → (s ≤ 1000000) × (t ≤ 1000000) × (n ≤ 100000)
limits s t n h = (grind (arith, nat_tests), grind (arith, nat_tests), grind (arith, nat_tests))

-- the events are within the limits if the counters are
pub all_within : (es : List Event) (lines : List (List ℕ)) (s t : ℕ) → es ≡ events_of lines → s ≡ sum_by event_steps es → t ≡ sum_by event_ticks es → s ≤ 1000000 → t ≤ 1000000 → length es ≤ 100000 → AreWithin es
all_within es lines s t found p q few short count = record { some = rw found (events_some lines); steps = omega arith; ticks = omega arith; count = count }

pub decided : (text : List ℕ) (ls : List (List ℕ)) (r : Result (List Event) EventFault) → ls ≡ text_lines text → JudgesLines r (event_faults [] ls) (λ v. v ≡ events_of ls)
    → MatchResult r (λ v. script_of text ≡ Ok v) (λ f. ¬ (f ≡ OutOfMemory) → script_of text ≡ Err f)
unfolding script_of
decided text ls (Ok v) same h = rw (← same, h.0) (ap Ok (sym h.1))
decided text ls (Err f) same h = λ ne. rw (← same, h ne)
