-- How interrupts run (RKM Libraries, Exec Interrupts): one software interrupt in a step, and the servers of a source
-- when it is served.
use Rattle.std.specs.Prelude.{ℕ, ℤ, zero, suc, pos, false, if◌then◌else◌, List, [], ◌∷◌, Option, None, Some, length, map, filter, slice_index_or}
use Rattle.std.specs.List.{range_with_len}
use Rattle.softint.specs.Sources.{source_text}
use Rattle.exectrace.specs.Trace.{Serve, Server, Softint}
use Rattle.execlist.specs.{Order.chosen, Order.without_item, Disciplines.pri_at}
use Rattle.softint.specs.{Sources.is_source, declared.source.Source.Source}
use Rattle.softint.specs.declared.source.Source.TheVariants as source
use Rattle.script.specs.{File.SoftintData, File.ServerData}
use Rattle.scheduler.specs.Schedule.{Schedule, quantum_ticked}
use Rattle.execmodel.specs.{State.Bodies, State.State, State.Outcome, State.quiet, State.prints_line, State.andthen, State.unless_stopped, State.on_schedule, State.on_pending, Pending.caused_no_more, Pending.with_latch_of, Pending.next_source, Bodies.runs_body, Requests.finishes_all_due}

-- ---- software interrupts

-- what is read as a software interrupt at a number that the file does not have
abbrev pub no_softint : SoftintData
no_softint = record { name = []; pri = pos 0; code = [] }

-- software interrupt i of the file, counted from 0
abbrev pub softint_at : ℕ → Bodies → SoftintData
softint_at i bodies = slice_index_or bodies.softints i no_softint

-- software interrupt i runs: it is no longer caused, so that its body may cause it again; its line is printed, and then
-- its whole body runs (RKM Libraries, Exec Interrupts: software interrupts)
unfoldable pub runs_softint : ℕ → State → Outcome
runs_softint i s =
    let softint = softint_at i s.bodies in
    andthen (prints_line (Softint softint.name)) (runs_body softint.name softint.code) (on_pending (caused_no_more i) s)

-- ---- servers

-- what is read as a server at a number that the file does not have
abbrev pub no_server : ServerData
no_server = record { name = []; source = source.Ports; pri = pos 0; claim = false; code = [] }

-- server k of the file, counted from 0
abbrev pub server_at : ℕ → Bodies → ServerData
server_at k bodies = slice_index_or bodies.servers k no_server

-- the priority of server k of the file, counted from 0
abbrev pub server_pri : List ServerData → ℕ → ℤ
server_pri servers k = pri_at (map (λ (s : ServerData). s.pri) servers) k

-- the numbers of the servers of a source, in the order of the file
abbrev pub servers_for : Source → List ServerData → List ℕ
servers_for asks servers =
    filter (λ k. is_source (slice_index_or servers k no_server).source asks) (range_with_len 0 (length servers))

-- at most that many items, each chosen from those that are left: the earliest of greatest key
unfoldable pub by_choice : ℕ → (ℕ → ℤ) → List ℕ → List ℕ
by_choice zero key left = []
by_choice (suc n) key left =
    elim (chosen key left) as (λ (x : Option ℕ). List ℕ) [ None ↦ [] | Some k ↦ k ∷ by_choice n key (without_item k left) ]

-- the numbers of the servers of a source, in the order in which they run: by priority, and those of one priority in the
-- order of the file (autodoc exec.library/AddIntServer)
unfoldable pub chain_of : Source → List ServerData → List ℕ
chain_of asks servers = by_choice (length servers) (server_pri servers) (servers_for asks servers)

-- server k runs: its line is printed, and then its whole body runs (RKM Libraries, Exec Interrupts: server chains)
unfoldable pub runs_server : ℕ → State → Outcome
runs_server k s =
    let server = server_at k s.bodies in
    andthen (prints_line (Server server.name)) (runs_body server.name server.code) s

-- the servers run one after another, until one claims the interrupt, or an alert stops the machine
unfoldable pub runs_chain : List ℕ → State → Outcome
runs_chain [] s = quiet s
runs_chain (k ∷ others) s =
    andthen (runs_server k) (unless_stopped (if (server_at k s.bodies).claim then quiet else runs_chain others)) s

-- ---- serving

-- a serving of VERTB takes one from the quantum of the running task; that of another source takes none (project rule)
abbrev pub serving_counted : Source → Schedule → Schedule
serving_counted source.Ports schedule = schedule
serving_counted source.Vertb schedule = quantum_ticked schedule
serving_counted source.Exter schedule = schedule

-- at a serving of VERTB all requests finish whose time has come; at that of another source none does (project rule)
abbrev pub finishes_for : Source → State → Outcome
finishes_for source.Ports s = quiet s
finishes_for source.Vertb s = finishes_all_due s
finishes_for source.Exter s = quiet s

-- A source is served: its latch is cleared, and a serving of VERTB is taken from the quantum. Its line is printed, then
-- the requests finish that are due, and then its servers run. (RKM Libraries, Exec Interrupts)
unfoldable pub serves : Source → State → Outcome
serves asks s =
    andthen (prints_line (Serve (source_text asks))) (andthen (finishes_for asks) (runs_chain (chain_of asks s.bodies.servers)))
    (on_schedule (serving_counted asks) (on_pending (with_latch_of asks false) s))

-- at most that many servings: while interrupts are allowed and a source asks to be served, the one of highest level is
-- served (RKM Libraries, Exec Interrupts)
unfoldable pub servings : ℕ → State → Outcome
servings zero s = quiet s
servings (suc n) s =
    elim (next_source s) as (λ (x : Option Source). Outcome)
    [ None ↦ quiet s | Some asks ↦ andthen (serves asks) (unless_stopped (servings n)) s ]

-- All sources that ask are served, while interrupts are allowed. There are three sources, and no serving sets a latch,
-- so three servings leave none that may be served.
unfoldable pub interrupts : State → Outcome
interrupts s = servings 3 s
