-- The events of a line are read as they are written.
use Rattle.std.proofs.Common.{◌≡◌, ◌∙◌, ℕ, ◌+◌, ◌<◌, ◌≤◌, ◌^◌, ◌==◌, ◌||◌, ◌&&◌, not, nat_le, nat_lt, Bool, true, false, cond, if◌then◌else◌, List, [], ◌∷◌, ◌++◌, length, drop, codes, decimal, flat_map, slice_index, Option, Some, None, Result, Ok, Err, option_map, option_and_then, ap, sym, refl, arith, append_assoc, append-nil, subst, bytes_eq, MatchOption}
use Rattle.std.specs.{List.AllByRecursion, List.list_all, List.onto_first, Int.IsInRange, Str.Parse.AllDigits}
use Rattle.std.proofs.lemmas.{Bool.Decides.nat_tests, Fmt.decimal_is_IsNumeral, Fmt.first_decimal, Str.Parse.digit_from_value}
use Rattle.softint.specs.Sources.{source_text}
use Rattle.softint.specs.declared.source.Source.TheVariants.{Ports, Vertb, Exter}
use Rattle.softint.specs.declared.source.Source.{Source}
use Rattle.script.specs.{Events.keeps_event_limits, Events.turns, declared.event.Event.Event}
use Rattle.script.specs.declared.event.Event.TheVariants.{Run, Tick, Irq}
use Rattle.taskscript.specs.Events.{event_of, is_skipped, script_of, text_lines, turns_of}
use Rattle.taskscript.specs.Numbers.{decimal_of, is_digit}
use Rattle.taskscript.specs.declared.fault.EventFault.{EventFault}
use Rattle.taskscript.specs.declared.fault.EventFault.TheVariants.{BadLine, OutOfMemory, TooMany}
use Rattle.wayreport.specs.Events.{event_text, listed, marked_event}
use Rattle.wayreport.specs.Written.{AreLeft, IsAsked, lacks, turns_in}
use Rattle.std.specs.Str.Pattern.{FindsText, SplitsAroundMatch}
use denote.Ref.{Bor}
use Rattle.wayreport.proofs.{Cutting.cut_text, Cutting.nowhere, Wording.comma_other, Wording.feed_other, Wording.lacks-decimal}

-- ---- numbers

all-digits : (ds : List ℕ) → AllDigits 10 ds → list_all is_digit ds ≡ true
all-digits [] h = refl
all-digits (d ∷ ds) h =
    let digit : IsInRange 48 57 d = digit_from_value d h.0 in
    let here : is_digit d ≡ true = grind (arith, nat_tests, digit.0, digit.1) in
    ap (λ b. b && list_all is_digit ds) here ∙ all-digits ds h.1

chosen : (few digits zero_first many small : Bool) (n : ℕ) → few ≡ false → digits ≡ true → zero_first ≡ false → small ≡ true
    → (if few || not digits then None else (if many && zero_first then None else (if small then Some n else None))) ≡ Some n
chosen few digits zero_first many small n f d z s =
    ap (λ x. if x || not digits then None else (if many && zero_first then None else (if small then Some n else None))) f
    ∙ (ap (λ x. if not x then None else (if many && zero_first then None else (if small then Some n else None))) d
    ∙ (ap (λ x. if many && x then None else (if small then Some n else None)) z
    ∙ (elim many as (λ m. (if m && false then None else (if small then Some n else None)) ≡ (if small then Some n else None)) [ true ↦ refl | false ↦ refl ]
    ∙ ap (λ x. if x then Some n else None) s)))

decimal-read : (n : ℕ) → 1 ≤ n → n ≤ 1000000 → decimal_of (decimal n) ≡ Some n
decimal-read n some few =
    let small : n < 2 ^ 64 = omega (arith, few) in
    let numeral = decimal_is_IsNumeral n small in
    let front = first_decimal n (omega (arith, some)) small in
    let f : nat_lt (length (decimal n)) 1 ≡ false = grind (arith, nat_tests, numeral.0.0) in
    let z : (slice_index (decimal n) 0 == 48) ≡ false = grind (arith, nat_tests, front) in
    let s : nat_lt n 4294967296 ≡ true = grind (arith, nat_tests, few) in
    ap (λ v. if nat_lt (length (decimal n)) 1 || not (list_all is_digit (decimal n)) then None
    else (if nat_lt 1 (length (decimal n)) && (slice_index (decimal n) 0 == 48) then None else (if nat_lt v 4294967296 then Some v else None))) numeral.1
    ∙ chosen (nat_lt (length (decimal n)) 1) (list_all is_digit (decimal n)) (slice_index (decimal n) 0 == 48) (nat_lt 1 (length (decimal n))) (nat_lt n 4294967296) n f (all-digits (decimal n) numeral.0.1) z s

turns-read : (n : ℕ) → 1 ≤ n → n ≤ 1000000 → turns_of (decimal n) ≡ Some n
turns-read n some few =
    let a : nat_le 1 n ≡ true = grind (arith, nat_tests, some) in
    let b : nat_le n 1000000 ≡ true = grind (arith, nat_tests, few) in
    ap (option_and_then (λ m. if nat_le 1 m && nat_le m 1000000 then Some m else None)) (decimal-read n some few)
    ∙ (ap (λ x. if x && nat_le n 1000000 then Some n else None) a ∙ ap (λ x. if x then Some n else None) b)

-- ---- an event

event-read : (e : Event) → IsAsked e → event_of (event_text e) ≡ Some e
unfolding event_of
event-read (Run n) h = ap (option_map Run) (turns-read n h.0 h.1)
event-read (Tick n) h = ap (option_map Tick) (turns-read n h.0 h.1)
event-read (Irq source) h = ap (option_map Irq) h

no-feed : (s : Source) → lacks 10 (codes "irq " ++ source_text s) ≡ true
no-feed Ports = refl
no-feed Vertb = refl
no-feed Exter = refl

no-comma : (s : Source) → lacks 44 (codes "irq " ++ source_text s) ≡ true
no-comma Ports = refl
no-comma Vertb = refl
no-comma Exter = refl

event-feed : (e : Event) → IsAsked e → lacks 10 (event_text e) ≡ true
event-feed (Run n) h = lacks-decimal 10 feed_other n (omega (arith, h.1))
event-feed (Tick n) h = lacks-decimal 10 feed_other n (omega (arith, h.1))
event-feed (Irq source) h = no-feed source

pub event-comma : (e : Event) → IsAsked e → lacks 44 (event_text e) ≡ true
event-comma (Run n) h = lacks-decimal 44 comma_other n (omega (arith, h.1))
event-comma (Tick n) h = lacks-decimal 44 comma_other n (omega (arith, h.1))
event-comma (Irq source) h = no-comma source

one-line : (xs : List ℕ) → lacks 10 xs ≡ true → text_lines xs ≡ xs ∷ []
one-line [] h = refl
one-line (x ∷ xs) h =
    (elim (x == 10) as (λ b. (if b then false else lacks 10 xs) ≡ true → cond b ([] ∷ text_lines xs) (onto_first x (text_lines xs)) ≡ (x ∷ xs) ∷ [])
    [ true ↦ λ e. absurd cc | false ↦ λ e. ap (onto_first x) (one-line xs e) ]) h

within : (e : Event) → IsAsked e → keeps_event_limits (e ∷ []) ≡ true
within (Run n) h = grind (arith, nat_tests, h.1)
within (Tick n) h = grind (arith, nat_tests, h.1)
within (Irq source) h = refl

skips-none : (e : Event) → is_skipped (event_text e) ≡ false
skips-none (Run n) = refl
skips-none (Tick n) = refl
skips-none (Irq source) = refl

-- the events of a line that states one
stated : (e : Event) (line : List ℕ) → text_lines line ≡ line ∷ [] → is_skipped line ≡ false → event_of line ≡ Some e → keeps_event_limits (e ∷ []) ≡ true → script_of line ≡ Ok (e ∷ [])
unfolding script_of
stated e line one counts is fits = rw (one, counts, is, fits) refl

-- what is read is not refused, but for memory
pub judged : (fault : EventFault) (read : Result (List Event) EventFault) (events : List Event) → read ≡ Ok events → (¬ (fault ≡ OutOfMemory) → read ≡ Err fault) → fault ≡ OutOfMemory
judged OutOfMemory read events is other = refl
judged TooMany read events is other = let no : Err TooMany ≡ Ok events = sym (other (λ e. absurd cc)) ∙ is in absurd cc
judged (BadLine number) read events is other = let no : Err (BadLine number) ≡ Ok events = sym (other (λ e. absurd cc)) ∙ is in absurd cc

pub one-read : (e : Event) → IsAsked e → script_of (event_text e) ≡ Ok (e ∷ [])
one-read e h = stated e (event_text e) (one-line (event_text e) (event-feed e h)) (skips-none e) (event-read e h) (within e h)

-- ---- the events of a line

-- a comma, and what is after it
abbrev pub later_text : List Event → List ℕ
later_text [] = []
later_text (e ∷ es) = event_text e ++ flat_map marked_event es

pub comma_apart : (e f : Event) (es : List Event) → event_text e ++ flat_map marked_event (f ∷ es) ≡ event_text e ++ (codes ", " ++ later_text (f ∷ es))
comma_apart e f es = ap (λ t. event_text e ++ t) (append_assoc (codes ", ") (event_text f) (flat_map marked_event es))

-- all events of a line are left at first
pub all_left : (events : List Event) (text : List ℕ) → AllByRecursion IsAsked events → turns_in events ≤ 2100008 → text ≡ listed events → bytes_eq text (codes "no event") ≡ false
    → AreLeft [] text 2100008 events
all_left [] text each few is other = let no : true ≡ false = sym (ap (λ t. bytes_eq t (codes "no event")) is) ∙ other in absurd cc
all_left (e ∷ es) text each few is other = record { event = e; more = es; is = refl; text = is; asked = each.0; each = each.1; room = few }

not_none : (e : Event) (rest : List ℕ) → bytes_eq (event_text e ++ rest) (codes "no event") ≡ false
not_none (Run n) rest = refl
not_none (Tick n) rest = refl
not_none (Irq source) rest = refl

-- a line without events is the one text of it
pub none_only : (events : List Event) (text : List ℕ) → text ≡ listed events → bytes_eq text (codes "no event") ≡ true → [] ≡ events
none_only [] text is same = refl
none_only (e ∷ es) text is same =
    let no : false ≡ true = sym (not_none e (flat_map marked_event es)) ∙ (sym (ap (λ t. bytes_eq t (codes "no event")) is) ∙ same) in absurd cc

abbrev Parts : Type 0
Parts = Option (Bor (List ℕ) × Bor (List ℕ))

abbrev Cuts : List ℕ → Parts → Type 0
Cuts s r = MatchOption r (FindsText (codes ", ") s None) (λ x. SplitsAroundMatch (FindsText (codes ", ")) s x.0.now x.1.now)

-- an event before a comma
pub record Before (done : List Event) (left : ℕ) (events : List Event) (first later : List ℕ) : Type 0 where
  pub event : Event
  pub asked : IsAsked event
  pub room : turns event ≤ left
  pub text : first ≡ event_text event
  pub rest : (less : ℕ) → less + turns event ≡ left → AreLeft (done ++ event ∷ []) later less events

no_comma : (e : Event) (es : List Event) (s : List ℕ) (x : Bor (List ℕ) × Bor (List ℕ)) → IsAsked e → es ≡ [] → s ≡ event_text e ++ flat_map marked_event es → Cuts s (Some x) → ⊥
no_comma e [] s x asked none is h =
    let whole : s ≡ event_text e = is ∙ append-nil (event_text e) in
    nowhere 44 (event_text e) (codes " " ++ drop h.1 s) h.0 (event-comma e asked) (ap (drop h.0) (sym whole) ∙ h.2.1.split)
no_comma e (f ∷ fs) s x asked none is h = absurd cc

pub before_comma : (done events : List Event) (s : List ℕ) (left : ℕ) (x : Bor (List ℕ) × Bor (List ℕ)) (l : AreLeft done s left events) (more : List Event) → more ≡ l.more → Cuts s (Some x)
    → Before done left events x.0.now x.1.now
before_comma done events s left x l [] is h = absurd (no_comma l.event l.more s x l.asked (sym is) l.text h)
before_comma done events s left x l (f ∷ fs) is h =
    let parts = cut_text (codes ", ") (event_text l.event) (later_text (f ∷ fs)) s (Some x) h (event-comma l.event l.asked)
    (l.text ∙ (ap (λ es. event_text l.event ++ flat_map marked_event es) (sym is) ∙ comma_apart l.event f fs)) in
    let each = subst (λ es. AllByRecursion IsAsked es) (sym is) l.each in
    let room : turns l.event + (turns f + turns_in fs) ≤ left = subst (λ es. turns l.event + turns_in es ≤ left) (sym is) l.room in
    record {
      event = l.event;
      asked = l.asked;
      room = omega (arith, l.room);
      text = parts.0;
      rest = λ less is_left. record {
        event = f;
        more = fs;
        is = append_assoc done (l.event ∷ []) (f ∷ fs) ∙ (ap (λ es. done ++ l.event ∷ es) is ∙ l.is);
        text = parts.1;
        asked = each.0;
        each = each.1;
        room = omega (arith, is_left, room);
      };
    }

-- the last event
pub record Last (done : List Event) (left : ℕ) (events : List Event) (s : List ℕ) : Type 0 where
  pub event : Event
  pub asked : IsAsked event
  pub room : turns event ≤ left
  pub text : s ≡ event_text event
  pub is : done ++ event ∷ [] ≡ events

pub no_more : (done events : List Event) (s : List ℕ) (left : ℕ) (l : AreLeft done s left events) (more : List Event) → more ≡ l.more → Cuts s None → Last done left events s
no_more done events s left l [] is h = record {
  event = l.event;
  asked = l.asked;
  room = omega (arith, l.room);
  text = l.text ∙ (ap (λ es. event_text l.event ++ flat_map marked_event es) (sym is) ∙ append-nil (event_text l.event));
  is = ap (λ es. done ++ l.event ∷ es) is ∙ l.is;
}
no_more done events s left l (f ∷ fs) is h =
    absurd (cut_text (codes ", ") (event_text l.event) (later_text (f ∷ fs)) s None h (event-comma l.event l.asked)
    (l.text ∙ (ap (λ es. event_text l.event ++ flat_map marked_event es) (sym is) ∙ comma_apart l.event f fs)))
