-- How the machine follows the causing, the requests and the serving of interrupts.
use Rattle.std.proofs.Common.{◌≡◌, ℕ, zero, suc, ◌+◌, ◌≤◌, Bool, true, false, cond, not, ◌&&◌, ◌||◌, ◌==◌, nat_lt, List, [], ◌∷◌, length, drop, Option, None, Some, refl, ap, sym, ◌∙◌, subst, arith, ℤ, if◌then◌else◌, is_some, slice_get, ne_eqb}
use Rattle.std.specs.List.{list_any}
use Rattle.exectrace.specs.{Trace.Serve}
use Rattle.execlist.specs.{Lists.times, Order.chosen, Order.enqueue, Order.first, Order.without_item, Disciplines.pri_at, Disciplines.by_priority}
use Rattle.execlist.proofs.OrderLaws.{first_of_order}
use Rattle.script.specs.File.{ServerData}
use Rattle.scheduler.specs.Schedule.{Schedule}
use Rattle.softint.specs.{declared.source.Source.Source, Sources.highest, Interrupts.Interrupts}
use Rattle.softint.specs.Interrupts as ints
use Rattle.softint.specs.Sources.{source_text}
use Rattle.execmodel.specs.Interrupts.{by_choice, chain_of, serving_counted, finishes_for, interrupts, runs_chain, runs_server, server_at, server_pri, servers_for, serves, servings}
use Rattle.execmodel.specs.{State.Bodies, State.Pending, State.Timer as Clock, State.State, State.Outcome, State.quiet, State.prints_line, State.andthen, State.unless_stopped, State.on_pending, State.on_schedule, Pending.allows_interrupts, Pending.is_caused, Pending.next_softint, Pending.next_source, Pending.softint_pri, Pending.with_caused, Pending.with_latch_of}
use Rattle.execsim.specs.{Actions.served, Actions.softint_seen, Actions.source_seen, Agreement.Seen, Agreement.Agrees, Agreement.Follows, Agreement.Moves, Views.IsFor}
use Rattle.execsim.proofs.Following.{follows_as, follows_change, follows_known, follows_nothing, follows_says, follows_then, guarded_going, guarded_stopped, moves_latch, moves_schedule}
use Rattle.execsim.proofs.{Keeping.finishing_keeps, Keeping.server_keeps, Ordering.allowed-in_order, Ordering.counted-in_order}
use Rattle.exectrace.specs.Hearing.{Hearing}

-- ---- causing

any_stands : (i : ℕ) (xs : List ℕ) → not (times i xs == 0) ≡ list_any (λ other. other == i) xs
any_stands i [] = refl
any_stands i (x ∷ xs) = by_case (x == i) (any_stands i xs) where
  by_case : (b : Bool) → not (times i xs == 0) ≡ list_any (λ other. other == i) xs
      → not (cond b (suc (times i xs)) (times i xs) == 0) ≡ (b || list_any (λ other. other == i) xs)
  by_case true ih = ap not (ne_eqb (suc (times i xs)) 0 (λ e. cc))
  by_case false ih = ih

-- what calls on interrupts see of those that are pending
abbrev pub pending_of : Interrupts → Pending
pending_of m = record { caused = m.caused; latches = m.latches }

pub causes_known : (i : ℕ) (m : Interrupts) (bodies : Bodies) → IsFor bodies m → nat_lt i (length bodies.softints) ≡ true
    → pending_of (ints.causes i m) ≡ with_caused by_priority i bodies.softints (pending_of m)
causes_known i m bodies of known =
    by_case (ints.is_caused i m)
    ∙ ap put (ap (λ (b : Bool). b && not (ints.is_caused i m)) (sym known) ∙ ap (λ (b : Bool). nat_lt i (length bodies.softints) && not b) (any_stands i m.caused))
  where
    put : Bool → Pending
    put b = cond b (record { caused = enqueue (softint_pri bodies.softints) m.caused i; latches = m.latches }) (pending_of m)

    by_case : (b : Bool) → pending_of (cond b m (record m { caused = enqueue (pri_at m.priorities) m.caused i })) ≡ put (true && not b)
    by_case true = refl
    by_case false = ap (λ pris. record { caused = enqueue (pri_at pris) m.caused i; latches = m.latches }) of.priorities

-- ---- which one is next

module _ {m : Seen} (s : State) (a : Agrees m s) where
  allowed_same : allows_interrupts m.schedule ≡ allows_interrupts s.schedule
  allowed_same = ap (λ (y : Schedule). allows_interrupts y) a.schedule ∙ allowed-in_order s.schedule.running s.schedule

  pub softint_same : next_softint s ≡ softint_seen m
  unfolding next_softint
  softint_same = sym (
      ap (λ (b : Bool). if b then first m.pending.caused else None) allowed_same
      ∙ ap (λ (p : Pending). if allows_interrupts s.schedule then first p.caused else None) a.pending
      ∙ ap (λ (c : Option ℕ). if allows_interrupts s.schedule then c else None) (first_of_order ℕ (softint_pri s.bodies.softints) s.pending.caused))

  pub source_same : next_source s ≡ source_seen m
  unfolding next_source
  source_same = sym (
      ap (λ (b : Bool). if b then highest m.pending.latches else None) allowed_same
      ∙ ap (λ (p : Pending). if allows_interrupts s.schedule then highest p.latches else None) a.pending)

-- ---- the servers of a source

-- after a server, by whether it claims the interrupt
abbrev unclaimed : Bool → List ℕ → State → Outcome
unclaimed last others = if last then quiet else runs_chain others

-- if a chain goes on: with the server at a place, or not at all
drop_none : (xs : List ℕ) (place : ℕ) → slice_get xs place ≡ None → drop place xs ≡ []
drop_none [] zero e = refl
drop_none [] (suc n) e = refl
drop_none (x ∷ xs) zero e = absurd cc
drop_none (x ∷ xs) (suc n) e = drop_none xs n e

drop_some : (xs : List ℕ) (place k : ℕ) → slice_get xs place ≡ Some k → drop place xs ≡ k ∷ drop (suc place) xs
drop_some [] place k e = absurd cc
drop_some (x ∷ xs) zero k e = let same : x ≡ k = cc in ap (λ y. y ∷ xs) same
drop_some (x ∷ xs) (suc n) k e = drop_some xs n k e

chain_within : (n : ℕ) (key : ℕ → ℤ) (left : List ℕ) → length (by_choice n key left) ≤ n
unfolding by_choice
chain_within zero key left = omega arith
chain_within (suc n) key left = by_case (λ k. chain_within n key (without_item k left)) (chosen key left) where
  by_case : ((k : ℕ) → length (by_choice n key (without_item k left)) ≤ n) → (k : Option ℕ)
      → length (elim k as (λ (x : Option ℕ). List ℕ) [ None ↦ [] | Some k ↦ k ∷ by_choice n key (without_item k left) ]) ≤ suc n
  by_case ih None = omega arith
  by_case ih (Some k) = let rest = ih k in omega (arith, rest)

drop_all : (xs : List ℕ) (n : ℕ) → length xs ≤ n → drop n xs ≡ []
drop_all [] zero e = refl
drop_all [] (suc n) e = refl
drop_all (x ∷ xs) zero e = absurd (omega (arith, e))
drop_all (x ∷ xs) (suc n) e = drop_all xs n (omega (arith, e))

pub chain_ends : (asks : Source) (servers : List ServerData) (n : ℕ) → length servers ≤ n → drop n (chain_of asks servers) ≡ []
unfolding chain_of
chain_ends asks servers n all =
    let within = chain_within (length servers) (server_pri servers) (servers_for asks servers) in
    drop_all (chain_of asks servers) n (omega (arith, all, within))

-- What the machine of a chain does from a place on.

-- the servers of a source from a place of their chain on, by what the machine shows
abbrev pub rest_of_chain : Source → ℕ → Seen → State → Outcome
rest_of_chain asks place m = runs_chain (drop place (chain_of asks m.bodies.servers))

pub chain_over : {H : Hearing} {m : Seen} (asks : Source) (place : ℕ) (t : H.Told) → None ≡ slice_get (chain_of asks m.bodies.servers) place
    → Follows H (rest_of_chain asks place m) m m t t
unfolding runs_chain
chain_over {H} {m} asks place t over = follows_as {g = quiet}
    (λ s e. ap (λ (l : List ℕ). runs_chain l s) (drop_none (chain_of asks m.bodies.servers) place (sym over))) (follows_nothing m t)

pub chain_at_end : {H : Hearing} {m : Seen} (asks : Source) (place : ℕ) (t : H.Told) → length m.bodies.servers ≤ place → Follows H (rest_of_chain asks place m) m m t t
unfolding runs_chain
chain_at_end {H} {m} asks place t all = follows_as {g = quiet}
    (λ s e. ap (λ (l : List ℕ). runs_chain l s) (chain_ends asks m.bodies.servers place all)) (follows_nothing m t)

-- a server of the chain runs, and what follows
chain_runs : {H : Hearing} {m n o : Seen} {a b c : H.Told} (asks : Source) (place k : ℕ) → Some k ≡ slice_get (chain_of asks m.bodies.servers) place
    → Follows H (runs_server k) m n a b
    → Follows H (unless_stopped (unclaimed (server_at k m.bodies).claim (drop (suc place) (chain_of asks m.bodies.servers)))) n o b c
    → Follows H (rest_of_chain asks place m) m o a c
unfolding runs_chain
chain_runs {H} {m} asks place k here runs rest =
    let chain = chain_of asks m.bodies.servers in
    let next = drop (suc place) chain in
    follows_as {g = andthen (runs_server k) (unless_stopped (unclaimed (server_at k m.bodies).claim next))}
    (λ s e. ap (λ (l : List ℕ). runs_chain l s) (drop_some chain place k (sym here))
    ∙ ap (λ (b : Bodies). andthen (runs_server k) (unless_stopped (unclaimed (server_at k b).claim next)) s) (sym e.bodies))
    (follows_then runs rest)

-- it was the last one: it claims the interrupt, or an alert has stopped the machine
chain_stops : {H : Hearing} {m n : Seen} {a b : H.Told} (asks : Source) (place k : ℕ) → Some k ≡ slice_get (chain_of asks m.bodies.servers) place
    → Follows H (runs_server k) m n a b → ((server_at k m.bodies).claim || n.stopped) ≡ true → Follows H (rest_of_chain asks place m) m n a b
chain_stops {H} {m} {n} {a} {b} asks place k here runs last =
    chain_runs asks place k here runs (by_stopped n.stopped refl (server_at k m.bodies).claim last)
  where
    next : List ℕ
    next = drop (suc place) (chain_of asks m.bodies.servers)

    by_stopped : (stopped : Bool) → n.stopped ≡ stopped → (claim : Bool) → (claim || stopped) ≡ true → Follows H (unless_stopped (unclaimed claim next)) n n b b
    by_stopped true is claim last = guarded_stopped b is
    by_stopped false is true last = guarded_going is (follows_nothing n b)
    by_stopped false is false last = absurd cc

module _ {H : Hearing} {m n : Seen} {a b : H.Told} (asks : Source) (place k : ℕ) (here : Some k ≡ slice_get (chain_of asks m.bodies.servers) place) (runs : Follows H (runs_server k) m n a b) where
  pub chain_claimed : (server_at k m.bodies).claim ≡ true → Follows H (rest_of_chain asks place m) m n a b
  chain_claimed claims = chain_stops asks place k here runs (ap (λ (claim : Bool). claim || n.stopped) claims)

  pub chain_alerted : n.stopped ≡ true → Follows H (rest_of_chain asks place m) m n a b
  chain_alerted stopped = chain_stops asks place k here runs (ap (λ (last : Bool). (server_at k m.bodies).claim || last) stopped ∙ or_true (server_at k m.bodies).claim) where
    or_true : (claim : Bool) → (claim || true) ≡ true
    or_true true = refl
    or_true false = refl

-- it was not the last one
pub chain_goes_on : {H : Hearing} {m n o : Seen} {a b c : H.Told} (asks : Source) (place k : ℕ) → Some k ≡ slice_get (chain_of asks m.bodies.servers) place
    → Follows H (runs_server k) m n a b → (server_at k m.bodies).claim ≡ false → n.stopped ≡ false
    → Follows H (rest_of_chain asks (place + 1) n) n o b c → Follows H (rest_of_chain asks place m) m o a c
chain_goes_on {H} {m} {n} {o} {b = b} {c = c} asks place k here runs unclaims going rest =
    follows_known (λ s e. chain_runs asks place k here runs (by_claim (server_at k m.bodies).claim unclaims (same_bodies s e)))
  where
    -- no server changes the bodies
    same_bodies : (s : State) → Agrees m s → n.bodies ≡ m.bodies
    same_bodies s e = (runs.agrees s e).bodies ∙ ap (λ (x : Bodies × Clock). x.0) (server_keeps k s) ∙ sym e.bodies

    by_claim : (claim : Bool) → claim ≡ false → n.bodies ≡ m.bodies
        → Follows H (unless_stopped (unclaimed claim (drop (suc place) (chain_of asks m.bodies.servers)))) n o b c
    by_claim true none same = absurd cc
    by_claim false none same =
        let next_place : suc place ≡ place + 1 = omega arith in
        guarded_going going (follows_as {g = rest_of_chain asks (place + 1) n}
        (λ s e. ap (λ (x : Bodies). runs_chain (drop (suc place) (chain_of asks x.servers)) s) (sym same)
        ∙ ap (λ (k : ℕ). runs_chain (drop k (chain_of asks n.bodies.servers)) s) next_place) rest)

-- From each state that is agreed with at first, there is one that is agreed with now, and the bodies are as they were.
abbrev pub IsKnownFrom : Seen → Seen → Type 0
IsKnownFrom m n = (s : State) → Agrees m s → (t : State) × (Agrees n t × (n.bodies ≡ m.bodies))

pub known_here : (m : Seen) → IsKnownFrom m m
known_here m s e = (s, (e, refl))

pub known_after : {H : Hearing} {m n o : Seen} {a b : H.Told} (k : ℕ) → IsKnownFrom m n → Follows H (runs_server k) n o a b → IsKnownFrom m o
known_after {H} {m} {n} {o} k known runs s e =
    let before = known s e in
    let t = before.0 in
    let agrees = runs.agrees t before.1.0 in
    ((runs_server k t).state, (agrees, agrees.bodies ∙ ap (λ (x : Bodies × Clock). x.0) (server_keeps k t) ∙ sym before.1.0.bodies ∙ before.1.1))

-- all places were looked at
pub chain_done : {H : Hearing} {next : State → Outcome} {m n : Seen} {a b : H.Told} (asks : Source) (place : ℕ) → length m.bodies.servers ≤ place → IsKnownFrom m n
    → ((o : Seen) (c : H.Told) → Follows H (rest_of_chain asks place n) n o b c → Follows H next m o a c) → Follows H next m n a b
chain_done {m = m} {n = n} {b = b} asks place all known rest = follows_known (λ s e.
    let same : m.bodies ≡ n.bodies = sym (known s e).1.1 in
    rest n b (chain_at_end asks place b (subst (λ (x : Bodies). length x.servers ≤ place) same all)))

-- ---- serving

pub serves_with : {H : Hearing} {m n o p : Seen} {a b c d : H.Told} (asks : Source) → n ≡ record m { schedule = serving_counted asks m.schedule }
    → H.hears a b ((Serve (source_text asks)) ∷ []) → Follows H (finishes_for asks) n o b c
    → Follows H (runs_chain (chain_of asks o.bodies.servers)) o p c d → Follows H (served asks) m p a d
serves_with {H} {m} {n} {o} {p} {a} {b} {c} {d} asks is puts finishes follows =
    follows_known (λ s e. follows_as
    {g = λ s. andthen (prints_line (Serve (source_text asks))) (andthen (finishes_for asks) (runs_chain (chain_of asks o.bodies.servers)))
    (on_schedule (serving_counted asks) s)}
    (λ s e. ap (λ (x : Bodies). andthen (prints_line (Serve (source_text asks))) (andthen (finishes_for asks) (runs_chain (chain_of asks x.servers)))
    (on_schedule (serving_counted asks) s)) (sym (same_bodies s e)))
    (follows_change counts (follows_then (follows_says _ puts) (follows_then finishes follows))))
  where
    counts : Moves (on_schedule (serving_counted asks)) m n
    counts = moves_schedule (serving_counted asks) (serving_counted asks) (counted-in_order asks) is

    -- no request that finishes changes the bodies
    same_bodies : (s : State) → Agrees m s → o.bodies ≡ s.bodies
    same_bodies s e =
        let t = on_schedule (serving_counted asks) s in
        (finishes.agrees t (counts.agrees s e)).bodies ∙ ap (λ (x : Bodies × Clock). x.0) (finishing_keeps asks t)

-- that many servings, by the source that is served next
abbrev serving_of : ℕ → Option Source → State → Outcome
serving_of left next s = elim next as (λ (x : Option Source). Outcome) [ None ↦ quiet s | Some asks ↦ andthen (serves asks) (unless_stopped (servings left)) s ]

suc_servings : (left : ℕ) (s : State) (next : Option Source) → next_source s ≡ next → servings (suc left) s ≡ serving_of left next s
unfolding servings
suc_servings left s next is = ap (λ (x : Option Source). serving_of left x s) is

pub all_served : {H : Hearing} {m n : Seen} {a b : H.Told} → Follows H (servings 3) m n a b → Follows H interrupts m n a b
unfolding interrupts
all_served follows = follows

pub no_serving_left : {H : Hearing} (m : Seen) (t : H.Told) → Follows H (servings 0) m m t t
unfolding servings
no_serving_left m t = follows_nothing m t

module _ {m n : Seen} (left : ℕ) where
  -- nothing may be served
  pub nothing_served : {H : Hearing} (t : H.Told) → None ≡ source_seen m → n ≡ record m { pending = m.pending } → Follows H (servings (suc left)) m n t t
  nothing_served t none is = rw is (follows_as {g = quiet}
      (λ s e. suc_servings left s None (source_same s e ∙ sym none)) (follows_nothing m t))

  -- a source is served, and then others
  pub source_served : {H : Hearing} {o p : Seen} {a b c : H.Told} (asks : Source) → Some asks ≡ source_seen m → n ≡ record m { pending = with_latch_of asks false m.pending }
      → Follows H (served asks) n o a b → Follows H (unless_stopped (servings left)) o p b c → Follows H (servings (suc left)) m p a c
  unfolding serves
  source_served asks is next serves others = follows_as {g = andthen (λ s. served asks (on_pending (with_latch_of asks false) s)) (unless_stopped (servings left))}
      (λ s e. suc_servings left s (Some asks) (source_same s e ∙ sym is))
      (follows_then (follows_change (moves_latch asks false next) serves) others)

-- nothing asks
unasked : (allowed : Bool) (asks : Option Source) → is_some asks ≡ false → None ≡ (if allowed then asks else None)
unasked true None e = refl
unasked true (Some a) e = absurd cc
unasked false asks e = refl

pub nothing_asks : {H : Hearing} (m : Seen) (t : H.Told) → is_some (highest m.pending.latches) ≡ false → Follows H interrupts m m t t
nothing_asks m t none = all_served (nothing_served 2 t (unasked (allows_interrupts m.schedule) (highest m.pending.latches) none) refl)
