-- How the entries of some events follow one another in a log, and the bytes that show them.
use Rattle.std.proofs.Common.{◌≡◌, ◌≢◌, ℕ, zero, suc, ◌+◌, ◌*◌, ◌^◌, ◌<◌, Bool, List, [], ◌∷◌, ◌++◌, length, take, drop, get_or, replicate, refl, ap, sym, ◌∙◌, subst, append-nil, append_assoc, arith, Option, None, Some, Result, Ok, Err, OnOk, is_ok, is_some, ◌||◌, if◌then◌else◌, sum_by, flat_map, length-append, suc-mul}
use Rattle.std.proofs.lemmas.{Grind.flat_map-append, List.length-replicate, List.take_more, List.Sums.sum_by-cons, List.Sums.sum_by-drop_more, List.Sums.sum_by_more, List.Sums.sum_by_more_le}
use Rattle.exectrace.specs.{Sink.Tape, Sink.Adds, Sink.Breaks, Sink.Puts, Sink.TakesAll, declared.sinks.SinkState.SinkState, declared.sinks.SinkState.TheVariants.Good, Trace.printed, Trace.printed_line}
use Rattle.exectrace.proofs.Pieces.{adds_all, adds_fitting, adds_none, adds_then, put_all, put_part}
use Rattle.script.specs.declared.event.Event.TheVariants.{Run, Tick, Irq}
use Rattle.script.specs.{Events.event_ticks, File.MachineData, declared.event.Event.Event}
use Rattle.scheduler.specs.Schedule.{Schedule}
use Rattle.execmodel.specs.{State.Memory, State.Timer, State.Scripts, State.State, State.Outcome, State.andthen, State.booted, Pending.next_softint, Step.starts, Step.event, Step.events, Step.run, Step.steps}
use Rattle.execmodel.proofs.Moments.{events_more}
use Rattle.execsim.specs.{Actions.softint_seen, Advancing.Advances, Advancing.IsSilent, Agreement.Seen, Agreement.Agrees, Headline.Acts, Headline.Shown, declared.machine.Flow.Flow, Time.HasTimeFor}
use Rattle.execsim.proofs.{Clock.time_for_fewer, Serving.softint_same}
use Rattle.execlog.specs.{declared.moment.Actor.Actor, declared.moment.Moment.Moment, Log.Entry, Log.Gains, Log.LogsTellTheTrace, Log.ShowsLog, Log.actor_at, Log.actor_of, Log.acts_next, Log.entries_after, Log.entry_after, Log.log_of, Log.turns, Log.unit_of, Log.units, Runs.Extends, Runs.Logs, Runs.Output, Runs.Wrote, Runs.actor_now}
use Rattle.execlog.proofs.UnitRuns.{steps_same, units_same}

-- ---- the texts of a log

texts_after : (n : ℕ) (list : List Event) (s : State) → flat_map (λ (e : Entry). e.text) (entries_after n list s) ≡ printed (events list s).lines
unfolding events andthen
texts_after n [] s = refl
texts_after n (e ∷ rest) s =
    let o = event e s in
    ap (λ (x : List ℕ). printed o.lines ++ x) (texts_after (suc n) rest o.state)
    ∙ sym (flat_map-append printed_line o.lines (events rest o.state).lines)

pub logs_tell_the_trace : LogsTellTheTrace
unfolding run andthen
logs_tell_the_trace machine list =
    let o = starts (booted machine) in
    ap (λ (x : List ℕ). printed o.lines ++ x)
    (texts_after 1 (units list) o.state ∙ ap (λ (p : Outcome). printed p.lines) (units_same list o.state))
    ∙ sym (flat_map-append printed_line o.lines (events list o.state).lines)

-- ---- some events, and then others

more_state : (some more : List Event) (s : State) → (events (some ++ more) s).state ≡ (events more (events some s).state).state
unfolding andthen
more_state some more s = ap (λ (o : Outcome). o.state) (events_more some more s)

more_entries : (n : ℕ) (some more : List Event) (s : State)
    → entries_after n (some ++ more) s ≡ entries_after n some s ++ entries_after (n + length some) more (events some s).state
unfolding events andthen
more_entries n [] more s = let same : n ≡ n + 0 = omega arith in ap (λ (k : ℕ). entries_after k more s) same
more_entries n (e ∷ some) more s =
    let at : suc n + length some ≡ n + suc (length some) = omega arith in
    ap (λ (x : List Entry). entry_after n (actor_of e s) (event e s) ∷ x)
    (more_entries (suc n) some more (event e s).state
    ∙ ap (λ (k : ℕ). entries_after (suc n) some (event e s).state ++ entries_after k more (events some (event e s).state).state) at)

-- bytes that show some entries, and bytes that show others
shows_both : (shows : Entry → List ℕ → Type 0) (some more : List Entry) (x y : List ℕ) → ShowsLog shows some x → ShowsLog shows more y
    → ShowsLog shows (some ++ more) (x ++ y)
shows_both shows [] more x y first second = subst (λ (z : List ℕ). ShowsLog shows more (z ++ y)) (sym first) second
shows_both shows (e ∷ some) more x y first second = record {
  first = first.first;
  rest = first.rest ++ y;
  whole = ap (λ (z : List ℕ). z ++ y) first.whole ∙ append_assoc first.first first.rest y;
  shows = first.shows;
  rests = shows_both shows some more first.rest y first.rests second;
}

-- what was put in one way and then in another
wrote_both : {First Second All : List ℕ → Type 0} {a b c : Output} → ((x y : List ℕ) → First x → Second y → All (x ++ y))
    → Wrote (Extends a b) First → Wrote (Extends b c) Second → Wrote (Extends a c) All
wrote_both {First} {Second} {All} {a} {b} {c} both first second = record {
  bytes = first.bytes ++ second.bytes;
  shows = both first.bytes second.bytes first.shows second.shows;
  goes = adds_then _ first.goes second.goes refl;
}

module _ (shows : Entry → List ℕ → Type 0) where
  -- no event
  pub logs_none : (n : ℕ) (m : Seen) (a : Output) → Logs shows [] n m m a a
  unfolding events
  logs_none n m a = record { agrees = λ s e. e; puts = λ s e. record { bytes = []; shows = refl; goes = adds_none a.tape a.page } }

  pub logs_more : {m n o : Seen} {a b c : Output} (k : ℕ) (some more : List Event)
      → Logs shows some k m n a b → Logs shows more (k + length some) n o b c → Logs shows (some ++ more) k m o a c
  logs_more {m} {n} {o} {a} {b} {c} k some more first second = record {
    agrees = λ s e. subst (λ (t : State). Agrees o t) (sym (more_state some more s)) (second.agrees (events some s).state (first.agrees s e));
    puts = λ s e. subst (λ (l : List Entry). Wrote (Extends a c) (ShowsLog shows l)) (sym (more_entries k some more s))
        (wrote_both (shows_both shows (entries_after k some s) (entries_after (k + length some) more (events some s).state))
        (first.puts s e) (second.puts (events some s).state (first.agrees s e)));
  }

-- ---- whose command a step is

actor_same : {m : Seen} (e : Event) (s : State) → Agrees m s → actor_now e m ≡ actor_of e s
actor_same {m} (Run n) s a =
    ap (λ (b : Bool). actor_at (if b || is_some (softint_seen m) then None else m.schedule.running) m.scripts) a.stopped
    ∙ ap (λ (o : Option ℕ). actor_at (if s.stopped || is_some o then None else m.schedule.running) m.scripts) (sym (softint_same s a))
    ∙ ap (λ (y : Schedule). actor_at (if s.stopped || is_some (next_softint s) then None else y.running) m.scripts) a.schedule
    ∙ ap (λ (y : Scripts). actor_at (acts_next s) y) a.scripts
actor_same (Tick n) s a = refl
actor_same (Irq source) s a = refl

-- ---- one event

-- the clock of a state that is agreed with
clock_same : {m : Seen} (s : State) → Agrees m s → m.memory.timer.clock ≡ s.memory.timer.clock
clock_same s a = ap (λ (memory : Memory). memory.timer.clock) a.memory

-- bytes that show one entry
pub shows_one : (shows : Entry → List ℕ → Type 0) (e : Entry) (x : List ℕ) → shows e x → ShowsLog shows (e ∷ []) x
shows_one shows e x h = record { first = x; rest = []; whole = sym (append-nil x); shows = h; rests = refl }

-- what shows one thing, if it shows another
pub wrote_as : {Goes First Other : List ℕ → Type 0} → ((x : List ℕ) → First x → Other x) → Wrote Goes First → Wrote Goes Other
wrote_as other wrote = record { bytes = wrote.bytes; shows = other wrote.bytes wrote.shows; goes = wrote.goes }

module _ (shows : Entry → List ℕ → Type 0) {old new : Shown} {x b : List ℕ} {p q : SinkState} {flow : Flow} {a c : Output} where
  -- the bytes that show what an event has printed
  pub entered : (n clock : ℕ) (e : Event) (actor : Option Actor)
      → Acts (event e) old new (record { taken = Some x; state = p }) (record { taken = Some b; state = q }) (Ok flow)
      → x ≡ [] → actor ≡ actor_now e old.seen → clock ≡ new.seen.memory.timer.clock
      → Wrote (Extends a c) (shows (record { moment = record { number = n; clock = clock; actor = actor }; text = b }))
      → Logs shows (e ∷ []) n old.seen new.seen a c
  unfolding events andthen
  entered n clock e actor acts blank acting timed wrote = record {
    agrees = λ s h. acts.agrees s h refl;
    puts = λ s h.
        let o = event e s in
        let prints : b ≡ printed o.lines = (acts.writes s h).took ∙ ap (λ (y : List ℕ). y ++ printed o.lines) blank in
        let same : record { moment = record { number = n; clock = clock; actor = actor }; text = b } ≡ entry_after n (actor_of e s) o =
        ap (λ (x : Option Actor). record { moment = record { number = n; clock = clock; actor = x }; text = b }) (acting ∙ actor_same e s h)
        ∙ ap (λ (k : ℕ). record { moment = record { number = n; clock = k; actor = actor_of e s }; text = b }) (timed ∙ clock_same o.state (acts.agrees s h refl))
        ∙ ap (λ (x : List ℕ). record { moment = record { number = n; clock = o.state.memory.timer.clock; actor = actor_of e s }; text = x }) prints in
        wrote_as (λ y h. shows_one shows (entry_after n (actor_of e s) o) y (subst (λ (z : Entry). shows z y) same h)) wrote;
  }

  -- the bytes that show what the start has printed
  pub began : (n clock : ℕ) → Acts starts old new (record { taken = Some x; state = p }) (record { taken = Some b; state = q }) (Ok flow)
      → n ≡ 0 → x ≡ [] → clock ≡ new.seen.memory.timer.clock
      → Wrote (Extends a c) (shows (record { moment = record { number = n; clock = clock; actor = None }; text = b }))
      → (m : MachineData) → Agrees old.seen (booted m) → Wrote (Extends a c) (shows (entry_after 0 None (starts (booted m))))
  began n clock acts begins blank timed wrote m h =
      let o = starts (booted m) in
      let prints : b ≡ printed o.lines = (acts.writes (booted m) h).took ∙ ap (λ (y : List ℕ). y ++ printed o.lines) blank in
      let same : record { moment = record { number = n; clock = clock; actor = None }; text = b } ≡ entry_after 0 None o =
      ap (λ (k : ℕ). record { moment = record { number = k; clock = clock; actor = None }; text = b }) begins
      ∙ ap (λ (k : ℕ). record { moment = record { number = 0; clock = k; actor = None }; text = b }) (timed ∙ clock_same o.state (acts.agrees (booted m) h refl))
      ∙ ap (λ (x : List ℕ). record { moment = record { number = 0; clock = o.state.memory.timer.clock; actor = None }; text = x }) prints in
      subst (λ (e : Entry). Wrote (Extends a c) (shows e)) same wrote

-- ---- a step, and those after it that print nothing

-- no byte shows entries that printed nothing
silent_entries : (shows : Entry → List ℕ → Type 0) → ((m : Moment) → shows (record { moment = m; text = [] }) []) → (k n : ℕ) (s : State) → IsSilent k s
    → ShowsLog shows (entries_after n (replicate k (Run 1)) s) []
silent_entries shows hides zero n s silent = refl
silent_entries shows hides (suc k) n s silent =
    let e = entry_after n (actor_of (Run 1) s) (event (Run 1) s) in
    record {
      first = [];
      rest = [];
      whole = refl;
      shows = subst (λ (t : List ℕ). shows (record { moment = e.moment; text = t }) []) (sym silent.0) (hides e.moment);
      rests = silent_entries shows hides k (suc n) (event (Run 1) s).state silent.1;
    }

-- there is none, or none is shown
quiet_entries : (shows : Entry → List ℕ → Type 0) (k : ℕ) → (0 < k → (m : Moment) → shows (record { moment = m; text = [] }) []) → (n : ℕ) (s : State)
    → IsSilent k s → ShowsLog shows (entries_after n (replicate k (Run 1)) s) []
quiet_entries shows zero hides n s silent = refl
quiet_entries shows (suc k) hides n s silent = let some : 0 < suc k = omega arith in silent_entries shows (hides some) (suc k) n s silent

-- bytes that show an entry, after which no byte shows the others
shows_first : (shows : Entry → List ℕ → Type 0) (e : Entry) (rest : List Entry) (x : List ℕ) → shows e x → ShowsLog shows rest [] → ShowsLog shows (e ∷ rest) x
shows_first shows e rest x h others = record { first = x; rest = []; whole = sym (append-nil x); shows = h; rests = others }

module _ (shows : Entry → List ℕ → Type 0) {old new : Shown} {x b : List ℕ} {p q : SinkState} {a c : Output} {more : ℕ} where
  pub advanced : (n clock k : ℕ) (actor : Option Actor)
      → Advances more old new (record { taken = Some x; state = p }) (record { taken = Some b; state = q }) (Ok k)
      → (0 < k → (m : Moment) → shows (record { moment = m; text = [] }) [])
      → x ≡ [] → actor ≡ actor_now (Run 1) old.seen → clock ≡ new.seen.memory.timer.clock
      → Wrote (Extends a c) (shows (record { moment = record { number = n; clock = clock; actor = actor }; text = b }))
      → Logs shows (replicate (k + 1) (Run 1)) n old.seen new.seen a c
  advanced n clock k actor does hides blank acting timed wrote =
      let more : k + 1 ≡ suc k = omega arith in
      record {
        agrees = λ s h. subst (λ (o : Outcome). Agrees new.seen o.state) (sym (steps_same (k + 1) s)) (does.agrees s h);
        puts = λ s h.
            let o = event (Run 1) s in
            let prints : b ≡ printed o.lines = (does.writes s h).took ∙ ap (λ (y : List ℕ). y ++ printed o.lines) blank in
            let clocks : clock ≡ o.state.memory.timer.clock = timed ∙ clock_same (steps (k + 1) s).state (does.agrees s h) ∙ ap (λ (t : Timer). t.clock) (does.timer s h) in
            let same : record { moment = record { number = n; clock = clock; actor = actor }; text = b } ≡ entry_after n (actor_of (Run 1) s) o =
            ap (λ (x : Option Actor). record { moment = record { number = n; clock = clock; actor = x }; text = b }) (acting ∙ actor_same (Run 1) s h)
            ∙ ap (λ (k : ℕ). record { moment = record { number = n; clock = k; actor = actor_of (Run 1) s }; text = b }) clocks
            ∙ ap (λ (x : List ℕ). record { moment = record { number = n; clock = o.state.memory.timer.clock; actor = actor_of (Run 1) s }; text = x }) prints in
            subst (λ (j : ℕ). Wrote (Extends a c) (ShowsLog shows (entries_after n (replicate j (Run 1)) s))) (sym more)
            (wrote_as (λ y w. shows_first shows (entry_after n (actor_of (Run 1) s) o) (entries_after (suc n) (replicate k (Run 1)) o.state) y
            (subst (λ (z : Entry). shows z y) same w) (quiet_entries shows k hides (suc n) o.state (does.silent s h))) wrote);
      }

-- ---- many events

replicate_both : {A : Type 0} (j k : ℕ) (x : A) → replicate j x ++ replicate k x ≡ replicate (j + k) x
replicate_both zero k x = let all : 0 + k ≡ k = omega arith in ap (λ (i : ℕ). replicate i x) (sym all)
replicate_both {A} (suc j) k x =
    let all : suc j + k ≡ suc (j + k) = omega arith in
    ap (λ (l : List A). x ∷ l) (replicate_both j k x) ∙ ap (λ (i : ℕ). replicate i x) (sym all)

replicate_more : {A : Type 0} (k : ℕ) (x : A) → replicate k x ++ x ∷ [] ≡ replicate (suc k) x
replicate_more zero x = refl
replicate_more (suc k) x = ap (λ l. x ∷ l) (replicate_more k x)

pub turns_of_all : (list : List Event) → length (units list) ≡ sum_by turns list
turns_of_all [] = refl
turns_of_all (e ∷ rest) = omega (arith, length-append (unit_of e) (units rest), turns_of_all rest, sum_by-cons turns e rest)

module _ (shows : Entry → List ℕ → Type 0) {m n o : Seen} {a b c : Output} (k : ℕ) where
  -- an event once more
  pub logs_again : (j : ℕ) (e : Event) → Logs shows (replicate j e) k m n a b → Logs shows (e ∷ []) (k + j) n o b c
      → Logs shows (replicate (j + 1) e) k m o a c
  logs_again j e before last =
      let many : k + j ≡ k + length (replicate j e) = ap (λ (x : ℕ). k + x) (sym (length-replicate j e)) in
      let more : suc j ≡ j + 1 = omega arith in
      subst (λ (l : List Event). Logs shows l k m o a c) (replicate_more j e ∙ ap (λ (x : ℕ). replicate x e) more)
      (logs_more shows k (replicate j e) (e ∷ []) before (subst (λ (x : ℕ). Logs shows (e ∷ []) x n o b c) many last))

  -- an event many times more
  pub logs_further : (j i : ℕ) (e : Event) → Logs shows (replicate j e) k m n a b → Logs shows (replicate i e) (k + j) n o b c
      → Logs shows (replicate (j + i) e) k m o a c
  logs_further j i e before last =
      let many : k + j ≡ k + length (replicate j e) = ap (λ (x : ℕ). k + x) (sym (length-replicate j e)) in
      subst (λ (l : List Event). Logs shows l k m o a c) (replicate_both j i e)
      (logs_more shows k (replicate j e) (replicate i e) before (subst (λ (x : ℕ). Logs shows (replicate i e) x n o b c) many last))

  -- one event more
  pub logs_turn : (list : List Event) (i : ℕ) (d : Event) → i < length list
      → Logs shows (units (take i list)) k m n a b → Logs shows (unit_of (get_or list i d)) (k + sum_by turns (take i list)) n o b c
      → Logs shows (units (take (i + 1) list)) k m o a c
  logs_turn list i d within before last =
      let one = get_or list i d in
      let whole : units (take (i + 1) list) ≡ units (take i list) ++ unit_of one = ap units (take_more list i d within)
      ∙ flat_map-append unit_of (take i list) (one ∷ []) ∙ ap (λ (x : List Event). units (take i list) ++ x) (append-nil (unit_of one)) in
      let many : k + sum_by turns (take i list) ≡ k + length (units (take i list)) = ap (λ (x : ℕ). k + x) (sym (turns_of_all (take i list))) in
      subst (λ (l : List Event). Logs shows l k m o a c) (sym whole)
      (logs_more shows k (units (take i list)) (unit_of one) before (subst (λ (x : ℕ). Logs shows (unit_of one) x n o b c) many last))

-- the entries of the next events, by the form with which the first ones began
pub logs_next : {F : Type 0} (shows : F → Entry → List ℕ → Type 0) {p q : F} {j k : ℕ} {list : List Event} {m n : Seen} {a b : Output}
    → p ≡ q → j ≡ k → Logs (shows p) list j m n a b → Logs (shows q) list k m n a b
logs_next shows {p} {q} {j} {k} {list} {m} {n} {a} {b} same number logs =
    subst (λ x. Logs (shows x) list k m n a b) same (subst (λ (x : ℕ). Logs (shows p) list x m n a b) number logs)

pub more_time : (j k t : ℕ) → (j + 1) * k + t ≡ j * k + (k + t)
more_time j k t =
    let more : j + 1 ≡ suc j = omega arith in
    let product : (j + 1) * k ≡ j * k + k = ap (λ (x : ℕ). x * k) more ∙ suc-mul j k in
    omega (arith, product)

-- ---- how many there are, and the time that is left

module _ (list : List Event) (i : ℕ) (d : Event) (within : i < length list) where
  pub few_turns : (k n : ℕ) → n ≡ k + sum_by turns (take i list) → k + sum_by turns list < 2 ^ 63 → n + turns (get_or list i d) < 2 ^ 63
  few_turns k n number few = omega (arith, number, few, sum_by_more_le turns list i d within)

  pub turns_more : (k n m : ℕ) → n ≡ k + sum_by turns (take i list) → m ≡ n + turns (get_or list i d) → m ≡ k + sum_by turns (take (i + 1) list)
  turns_more k n m number more = omega (arith, number, more, sum_by_more turns list i d within)

  pub time_for_one : (m : Seen) → HasTimeFor (sum_by event_ticks (drop i list)) m → HasTimeFor (event_ticks (get_or list i d)) m
  time_for_one m enough =
      let rest = sum_by-drop_more event_ticks list i d within in
      time_for_fewer (event_ticks (get_or list i d)) (sum_by event_ticks (drop i list)) m (omega (arith, rest)) enough

-- ---- the whole run

pub logged : (shows : Entry → List ℕ → Type 0) {mid new : Seen} {a b c : Output} (machine : MachineData) (list : List Event)
    → Wrote (Extends a b) (shows (entry_after 0 None (starts (booted machine)))) → Agrees mid (starts (booted machine)).state
    → Logs shows (units list) 1 mid new b c → Wrote (Extends a c) (ShowsLog shows (log_of machine list))
logged shows machine list first agrees rest =
    let e = entry_after 0 None (starts (booted machine)) in
    wrote_both (shows_both shows (e ∷ []) (entries_after 1 (units list) (starts (booted machine)).state))
    (wrote_as (λ x h. shows_one shows e x h) first) (rest.puts (starts (booted machine)).state agrees)

-- ---- rows that are kept

-- bytes after what is kept, of which all may be put then
pub page_gains : {Shows : List ℕ → Type 0} {a b : Tape} {before between after : List ℕ} → Gains Shows before between → Adds a b between after []
    → Wrote (Extends (record { tape = a; page = before }) (record { tape = b; page = after })) Shows
page_gains {Shows} {a} {b} {before} {between} {after} gains turned = record {
  bytes = gains.bytes;
  shows = gains.shows;
  goes = adds_then _ (adds_fitting a before between gains.bytes gains.added) turned (sym (append-nil gains.bytes));
}

-- at the end the rest of what is kept is put
pub page_ends : {Shows : List ℕ → Type 0} {a b c : Tape} {before after : List ℕ} → before ≡ []
    → Wrote (Extends (record { tape = a; page = before }) (record { tape = b; page = after })) Shows → Puts b c after → Wrote (Puts a c) Shows
page_ends empty wrote puts = record { bytes = wrote.bytes; shows = wrote.shows; goes = adds_all empty wrote.goes puts }

-- ---- whether all was taken

-- a sink that was good and is good took all
pub wrote_all : {Shows : List ℕ → Type 0} {a b : Tape} → Wrote (Puts a b) Shows → a.state ≡ Good → b.state ≡ Good → Wrote (TakesAll a b) Shows
wrote_all wrote good still = record { bytes = wrote.bytes; shows = wrote.shows; goes = put_all wrote.goes good still }

-- a sink that was good and is not good broke off
pub wrote_part : {Shows : List ℕ → Type 0} {a b : Tape} → Wrote (Puts a b) Shows → a.state ≡ Good → b.state ≢ Good → Wrote (Breaks a b) Shows
wrote_part wrote good bad = record { bytes = wrote.bytes; shows = wrote.shows; goes = put_part wrote.goes good bad }

-- ---- what follows if a call was made whole

pub whole_then : {T E P Q : Type 0} (r : Result T E) → (P → Q) → OnOk r P → OnOk r Q
whole_then (Ok x) f p = f p
whole_then (Err e) f p = p

-- what a call made that leaves all as it was if memory is refused
pub made_whole : {T E : Type 0} {new : List ℕ} (made old : List ℕ) (r : Result T E) → new ≡ (if is_ok r then made else old) → OnOk r (new ≡ made)
made_whole made old (Ok x) e = e
made_whole made old (Err x) e = tt
