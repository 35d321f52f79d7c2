-- Actions that follow one another, and the actions of one layer.
use Rattle.std.proofs.Common.{◌≡◌, ◌≢◌, ℕ, List, [], ◌∷◌, ◌++◌, append_assoc, ◌⊎◌, inl, inr, refl, Bool, true, false, ap, sym, ◌∙◌, subst, append-nil}
use Rattle.execlist.specs.Disciplines.{by_arrival, by_priority}
use Rattle.exectrace.specs.Trace.{TraceLine}
use Rattle.scheduler.specs.Schedule.{Schedule}
use Rattle.execmodel.specs.State.{State, Bodies, Scripts, Memory, Pending, Outcome, Mark, leaving, quiet, prints_line, andthen, unless_stopped, on_schedule, on_scripts, on_memory, on_pending}
use Rattle.execmodel.specs.Pending.{causes, caused_no_more, with_caused, with_latch_of}
use Rattle.softint.specs.declared.source.Source.{Source}
use Rattle.execsim.specs.Agreement.{Seen, Agrees, Follows, Quietly, FollowsWhileGood, Moves, in_order, queues_in_order, caused_in_order}
use Rattle.execsim.specs.Actions.{caused}
use Rattle.execsim.proofs.Ordering.{caused-in_order, taken_off-in_order}
use Rattle.exectrace.specs.Hearing.{Hearing}

-- What the state that is agreed with holds, by what the machine shows.

module _ {m : Seen} {X : Type 0} where
  -- a reading of the schedule that does not look at an order
  pub reads_schedule : (read : Schedule → X) {x : X} → ((y : Schedule) → read (in_order y) ≡ read y) → read m.schedule ≡ x
      → (s : State) → Agrees m s → read s.schedule ≡ x
  reads_schedule read blind is s a = sym (blind s.schedule) ∙ ap read (sym a.schedule) ∙ is

  pub reads_scripts : (read : Scripts → X) {x : X} → read m.scripts ≡ x → (s : State) → Agrees m s → read s.scripts ≡ x
  reads_scripts read is s a = ap read (sym a.scripts) ∙ is

  -- a reading of the memory that does not look at the order of its public ports
  pub reads_memory : (read : Memory → X) {x : X} → ((y : Memory) → read (queues_in_order y) ≡ read y) → read m.memory ≡ x
      → (s : State) → Agrees m s → read s.memory ≡ x
  reads_memory read blind is s a = sym (blind s.memory) ∙ ap read (sym a.memory) ∙ is

pub reads_bodies : {m : Seen} {X : Type 0} (read : Bodies → X) {x : X} → read m.bodies ≡ x → (s : State) → Agrees m s → read s.bodies ≡ x
reads_bodies read is s a = ap read (sym a.bodies) ∙ is

pub reads_stopped : {m : Seen} {b : Bool} → m.stopped ≡ b → (s : State) → Agrees m s → s.stopped ≡ b
reads_stopped is s a = sym a.stopped ∙ is

-- Changes of one layer.

-- a change that goes the same way in the schedule that is agreed with
pub moves_schedule_seen : {m n : Seen} (next seen : Schedule → Schedule) → ((y : Schedule) → m.schedule ≡ in_order y → seen (in_order y) ≡ in_order (next y))
    → n ≡ record m { schedule = seen m.schedule } → Moves (on_schedule next) m n
moves_schedule_seen next seen commutes is = record {
  agrees = λ s a. record {
    schedule = ap (λ (x : Seen). x.schedule) is ∙ ap seen a.schedule ∙ commutes s.schedule a.schedule;
    scripts = ap (λ (x : Seen). x.scripts) is ∙ a.scripts;
    memory = ap (λ (x : Seen). x.memory) is ∙ a.memory;
    bodies = ap (λ (x : Seen). x.bodies) is ∙ a.bodies;
    pending = ap (λ (x : Seen). x.pending) is ∙ a.pending;
    stopped = ap (λ (x : Seen). x.stopped) is ∙ a.stopped;
  };
}

-- a change that goes the same way in every schedule
pub moves_schedule : {m n : Seen} (next seen : Schedule → Schedule) → ((y : Schedule) → seen (in_order y) ≡ in_order (next y))
    → n ≡ record m { schedule = seen m.schedule } → Moves (on_schedule next) m n
moves_schedule next seen commutes is = moves_schedule_seen next seen (λ y e. commutes y) is

pub moves_scripts : {m n : Seen} (next : Scripts → Scripts) → n ≡ record m { scripts = next m.scripts } → Moves (on_scripts next) m n
moves_scripts next is = record {
  agrees = λ s a. record {
    schedule = ap (λ (x : Seen). x.schedule) is ∙ a.schedule;
    scripts = ap (λ (x : Seen). x.scripts) is ∙ ap next a.scripts;
    memory = ap (λ (x : Seen). x.memory) is ∙ a.memory;
    bodies = ap (λ (x : Seen). x.bodies) is ∙ a.bodies;
    pending = ap (λ (x : Seen). x.pending) is ∙ a.pending;
    stopped = ap (λ (x : Seen). x.stopped) is ∙ a.stopped;
  };
}

-- a change that goes the same way in every memory
pub moves_memory : {m n : Seen} (next seen : Memory → Memory) → ((y : Memory) → seen (queues_in_order y) ≡ queues_in_order (next y))
    → n ≡ record m { memory = seen m.memory } → Moves (on_memory next) m n
moves_memory next seen commutes is = record {
  agrees = λ s a. record {
    schedule = ap (λ (x : Seen). x.schedule) is ∙ a.schedule;
    scripts = ap (λ (x : Seen). x.scripts) is ∙ a.scripts;
    memory = ap (λ (x : Seen). x.memory) is ∙ ap seen a.memory ∙ commutes s.memory;
    bodies = ap (λ (x : Seen). x.bodies) is ∙ a.bodies;
    pending = ap (λ (x : Seen). x.pending) is ∙ a.pending;
    stopped = ap (λ (x : Seen). x.stopped) is ∙ a.stopped;
  };
}

pub moves_stopped : {m n : Seen} (stopped : Bool) → n ≡ record m { stopped = stopped } → Moves (λ s. record s { stopped = stopped }) m n
moves_stopped stopped is = record {
  agrees = λ s a. record {
    schedule = ap (λ (x : Seen). x.schedule) is ∙ a.schedule;
    scripts = ap (λ (x : Seen). x.scripts) is ∙ a.scripts;
    memory = ap (λ (x : Seen). x.memory) is ∙ a.memory;
    bodies = ap (λ (x : Seen). x.bodies) is ∙ a.bodies;
    pending = ap (λ (x : Seen). x.pending) is ∙ a.pending;
    stopped = ap (λ (x : Seen). x.stopped) is;
  };
}

-- a change of the pending interrupts that goes the same way for the software interrupts that the machine shows
pub moves_pending : {m n : Seen} (next : Bodies → Pending → Pending) (seen : Pending → Pending)
    → ((y : Pending) → seen (caused_in_order m.bodies.softints y) ≡ caused_in_order m.bodies.softints (next m.bodies y))
    → n ≡ record m { pending = seen m.pending } → Moves (λ s. on_pending (next s.bodies) s) m n
moves_pending {m} next seen commutes is = record {
  agrees = λ s a. record {
    schedule = ap (λ (x : Seen). x.schedule) is ∙ a.schedule;
    scripts = ap (λ (x : Seen). x.scripts) is ∙ a.scripts;
    memory = ap (λ (x : Seen). x.memory) is ∙ a.memory;
    bodies = ap (λ (x : Seen). x.bodies) is ∙ a.bodies;
    pending = ap (λ (x : Seen). x.pending) is ∙ ap seen (a.pending ∙ ap (λ (b : Bodies). caused_in_order b.softints s.pending) (sym a.bodies))
        ∙ commutes s.pending ∙ ap (λ (b : Bodies). caused_in_order b.softints (next b s.pending)) a.bodies;
    stopped = ap (λ (x : Seen). x.stopped) is ∙ a.stopped;
  };
}

pub moves_caused : {m n : Seen} (i : ℕ) → n ≡ caused i m → Moves (causes i) m n
unfolding causes
moves_caused {m} i is = moves_pending (λ b. with_caused by_arrival i b.softints) (with_caused by_priority i m.bodies.softints) (caused-in_order i m.bodies.softints) is

pub moves_taken_off : {m n : Seen} (i : ℕ) → n ≡ record m { pending = caused_no_more i m.pending } → Moves (on_pending (caused_no_more i)) m n
moves_taken_off {m} i is = moves_pending (λ b. caused_no_more i) (caused_no_more i) (taken_off-in_order i m.bodies.softints) is

pub moves_latch : {m n : Seen} (asks : Source) (set : Bool) → n ≡ record m { pending = with_latch_of asks set m.pending } → Moves (on_pending (with_latch_of asks set)) m n
moves_latch asks set is = moves_pending (λ b. with_latch_of asks set) (with_latch_of asks set) (λ y. refl) is

pub moves_nowhere : (m : Seen) → Moves (λ s. s) m m
moves_nowhere m = record { agrees = λ s a. a }

pub moves_then : {f g : State → State} {m n o : Seen} → Moves f m n → Moves g n o → Moves (λ s. g (f s)) m o
moves_then {f} p q = record { agrees = λ s a. q.agrees (f s) (p.agrees s a) }

-- Actions.

pub follows_as : {H : Hearing} {f g : State → Outcome} {m n : Seen} {a b : H.Told} → ((s : State) → Agrees m s → f s ≡ g s) → Follows H g m n a b → Follows H f m n a b
follows_as is follows = record {
  agrees = λ s e. rw (is s e) (follows.agrees s e);
  prints = λ s e. rw (is s e) (follows.prints s e);
}

-- what is agreed with may be looked at first
pub follows_known : {H : Hearing} {f : State → Outcome} {m n : Seen} {a b : H.Told} → ((s : State) → Agrees m s → Follows H f m n a b) → Follows H f m n a b
follows_known follows = record { agrees = λ s e. (follows s e).agrees s e; prints = λ s e. (follows s e).prints s e }

-- one that says nothing, whoever listens
pub follows_silence : {H : Hearing} {f : State → Outcome} {m n : Seen} (t : H.Told) → Quietly f m n → Follows H f m n t t
follows_silence {H} t quietly = record {
  agrees = quietly.agrees;
  prints = λ s e. subst (λ l. H.hears t t l) (sym (quietly.quiet s e)) (H.none t);
}

pub quietly_as : {f g : State → Outcome} {m n : Seen} → ((s : State) → Agrees m s → f s ≡ g s) → Quietly g m n → Quietly f m n
quietly_as is quietly = record {
  agrees = λ s e. rw (is s e) (quietly.agrees s e);
  quiet = λ s e. ap (λ (o : Outcome). o.lines) (is s e) ∙ quietly.quiet s e;
}

pub quietly_moves : {f : State → State} {m n : Seen} → Moves f m n → Quietly (λ s. quiet (f s)) m n
quietly_moves moves = record { agrees = moves.agrees; quiet = λ s e. refl }

pub follows_nothing : {H : Hearing} (m : Seen) (t : H.Told) → Follows H quiet m m t t
follows_nothing {H} m t = record { agrees = λ s e. e; prints = λ s e. H.none t }

-- one line is printed, which is the same in each state that is agreed with
pub follows_saying : {H : Hearing} {f : State → State} {line : State → TraceLine} {m n : Seen} {a b : H.Told} (said : TraceLine)
    → ((s : State) → Agrees m s → line s ≡ said) → H.hears a b (said ∷ []) → Moves f m n → Follows H (λ s. prints_line (line s) (f s)) m n a b
follows_saying {H} {a = a} {b = b} said same puts moves = record {
  agrees = moves.agrees;
  prints = λ s e. subst (λ l. H.hears a b (l ∷ [])) (sym (same s e)) puts;
}

-- one line is printed, and nothing else is done
pub follows_says : {H : Hearing} {m : Seen} {a b : H.Told} (line : TraceLine) → H.hears a b (line ∷ []) → Follows H (prints_line line) m m a b
follows_says {H} {m} line puts = follows_saying line (λ s e. refl) puts (moves_nowhere m)

-- a change of the state, and then an action
pub follows_change : {H : Hearing} {f : State → State} {g : State → Outcome} {m n o : Seen} {a b : H.Told} → Moves f m n → Follows H g n o a b → Follows H (λ s. g (f s)) m o a b
follows_change {H} {f} moves follows = record {
  agrees = λ s e. follows.agrees (f s) (moves.agrees s e);
  prints = λ s e. follows.prints (f s) (moves.agrees s e);
}

-- an action that leaves a mark, too
pub follows_leaving : {H : Hearing} {f : State → Outcome} (mark : State → Mark) {m n : Seen} {a b : H.Told} → Follows H f m n a b → Follows H (λ s. leaving (mark s) (f s)) m n a b
follows_leaving mark follows = record { agrees = follows.agrees; prints = follows.prints }

-- one action after another
pub follows_then : {H : Hearing} {f g : State → Outcome} {m n o : Seen} {a b c : H.Told} → Follows H f m n a b → Follows H g n o b c → Follows H (andthen f g) m o a c
unfolding andthen
follows_then {H} {f} {g} p q = record {
  agrees = λ s e. q.agrees (f s).state (p.agrees s e);
  prints = λ s e. H.both _ _ _ _ _ (p.prints s e) (q.prints (f s).state (p.agrees s e));
}

pub andthen-assoc : (f g h : State → Outcome) (s : State) → andthen f (andthen g h) s ≡ andthen (andthen f g) h s
unfolding andthen
andthen-assoc f g h s =
    ap (λ (lines : List TraceLine). record {
      state = (h (g (f s).state).state).state;
      lines = lines;
      marks = (f s).marks ++ ((g (f s).state).marks ++ (h (g (f s).state).state).marks);
    })
    (sym (append_assoc (f s).lines (g (f s).state).lines (h (g (f s).state).state).lines))
    ∙ ap (λ (marks : List Mark). record {
      state = (h (g (f s).state).state).state;
      lines = ((f s).lines ++ (g (f s).state).lines) ++ (h (g (f s).state).state).lines;
      marks = marks;
    })
    (sym (append_assoc (f s).marks (g (f s).state).marks (h (g (f s).state).state).marks))

pub andthen-second : (f g h : State → Outcome) (s : State) → ((t : State) → g t ≡ h t) → andthen f g s ≡ andthen f h s
unfolding andthen
andthen-second f g h s same =
    ap (λ (o : Outcome). record { state = o.state; lines = (f s).lines ++ o.lines; marks = (f s).marks ++ o.marks }) (same (f s).state)

pub andthen-quiet : (o : Outcome) → record { state = o.state; lines = o.lines ++ []; marks = o.marks ++ [] } ≡ o
andthen-quiet o =
    ap (λ (lines : List TraceLine). record { state = o.state; lines = lines; marks = o.marks ++ [] }) (append-nil o.lines)
    ∙ ap (λ (marks : List Mark). record { state = o.state; lines = o.lines; marks = marks }) (append-nil o.marks)

-- an action, unless an alert has stopped the machine
pub guarded_stopped : {H : Hearing} {m : Seen} {next : State → Outcome} (t : H.Told) → m.stopped ≡ true → Follows H (unless_stopped next) m m t t
guarded_stopped {H} {m} t stopped = follows_as {g = quiet}
    (λ s e. let same : s.stopped ≡ true = reads_stopped stopped s e in rw same refl) (follows_nothing m t)

pub guarded_going : {H : Hearing} {m n : Seen} {a b : H.Told} {next : State → Outcome} → m.stopped ≡ false → Follows H next m n a b → Follows H (unless_stopped next) m n a b
guarded_going {next = next} going follows = follows_as {g = next}
    (λ s e. let same : s.stopped ≡ false = reads_stopped going s e in rw same refl) follows

-- Actions while the sink is good.

both_ways : {b : Bool} → b ≡ false → b ≡ true → ⊥
both_ways bad good = let e : true ≡ false = sym good ∙ bad in cc

pub while_good : {H : Hearing} {f : State → Outcome} {m n : Seen} {a b : H.Told} → H.good a ≡ true → Follows H f m n a b → FollowsWhileGood H f m n a b
while_good good follows = record { agrees = λ s e end. follows.agrees s e; prints = follows.prints; afterwards = λ bad. absurd (both_ways bad good) }

-- a sink that is good has been so
pub good_before : {H : Hearing} {f : State → Outcome} {m n : Seen} {a b : H.Told} → FollowsWhileGood H f m n a b → H.good b ≡ true → H.good a ≡ true
good_before {H} {a = a} {b = b} follows good = by_state (H.good a) refl
  where
    by_state : (was : Bool) → H.good a ≡ was → H.good a ≡ true
    by_state true is = is
    by_state false bad = ap H.good (sym (follows.afterwards bad)) ∙ good

-- nothing is done any more
pub stays_behind : {H : Hearing} {f : State → Outcome} (m : Seen) {t : H.Told} → H.good t ≡ false → FollowsWhileGood H f m m t t
stays_behind {H} m bad = record { agrees = λ s e good. absurd (both_ways bad good); prints = λ s e. H.ignores _ _ bad; afterwards = λ b. refl }

pub follows_nothing_yet : {H : Hearing} (m : Seen) (t : H.Told) → FollowsWhileGood H quiet m m t t
follows_nothing_yet {H} m t = record { agrees = λ s e good. e; prints = λ s e. H.none t; afterwards = λ bad. refl }

pub while_good_as : {H : Hearing} {f g : State → Outcome} {m n : Seen} {a b : H.Told} → ((s : State) → Agrees m s → f s ≡ g s) → FollowsWhileGood H g m n a b → FollowsWhileGood H f m n a b
while_good_as is follows = record {
  agrees = λ s e good. rw (is s e) (follows.agrees s e good);
  prints = λ s e. rw (is s e) (follows.prints s e);
  afterwards = follows.afterwards;
}

module _ {H : Hearing} {f g : State → Outcome} {m n o : Seen} {a b c : H.Told} (p : FollowsWhileGood H f m n a b) (q : FollowsWhileGood H g n o b c) where
  untouched : H.good a ≡ false → c ≡ a
  untouched bad =
      let first : b ≡ a = p.afterwards bad in
      let still : H.good b ≡ false = ap H.good first ∙ bad in
      q.afterwards still ∙ first

  then_going : H.good b ≡ true → FollowsWhileGood H (andthen f g) m o a c
  unfolding andthen
  then_going good = record {
    agrees = λ s e end. q.agrees (f s).state (p.agrees s e good) end;
    prints = λ s e. H.both _ _ _ _ _ (p.prints s e) (q.prints (f s).state (p.agrees s e good));
    afterwards = untouched;
  }

  then_failed : H.good b ≡ false → FollowsWhileGood H (andthen f g) m o a c
  unfolding andthen
  then_failed bad =
      let same : c ≡ b = q.afterwards bad in
      record {
        agrees = λ s e end. absurd (both_ways bad (ap H.good (sym same) ∙ end));
        prints = λ s e.
            let lost = (g (f s).state).lines in
            H.both _ _ _ _ _ (p.prints s e) (subst (λ (t : H.Told). H.hears b t lost) (sym same) (H.ignores _ lost bad));
        afterwards = untouched;
      }

  pub while_good_then : FollowsWhileGood H (andthen f g) m o a c
  while_good_then = by_state (H.good b) refl where
    by_state : (was : Bool) → H.good b ≡ was → FollowsWhileGood H (andthen f g) m o a c
    by_state true good = then_going good
    by_state false bad = then_failed bad
