-- A call by its word alone: what follows the word if it set system time is left out.
use Rattle.std.proofs.Common.{[], ◌≡◌, ℕ, false, List, refl, ap}
use Rattle.script.specs.{declared.word.Word.Word, declared.word.requests.RequestWord.RequestWord}
use Rattle.script.specs.declared.word.Word.TheVariants as group
use Rattle.execmodel.specs.{State.Call, State.Timer, State.Waiting, State.State, State.Outcome, State.andthen, Calls.ByTask, Keeping.Keeps, Keeping.no_scripts, Keeping.without_states, Keeping.without_priorities, Keeping.without_signals, Keeping.without_nestings, Keeping.without_caused, Keeping.clock_alone, Requests.does_requests, Requests.finishes_set, Step.does, Step.does_word}
use Rattle.execmodel.proofs.{BlocksAfter.Makes, StatesAfter.Shifted, LinesOf.Tells, RequestsAfter.Works, RequestsAfter.by_moves, Words.Facts, Words.plain_facts, Words.signals_facts, Words.nesting_facts, Words.tasks_facts, Words.lists_facts, Words.memory_facts, Words.ports_facts, Words.semaphores_facts, Words.interrupts_facts, Words.libraries_facts, Words.requests_facts}

abbrev pub word_itself : Word → ℕ → Call → State → Outcome
word_itself (group.Requests word) t call s = does_requests word t call s
word_itself word t call s = does_word word t call s

abbrev pub does_itself : ℕ → Call → State → Outcome
does_itself t call s = word_itself call.word t call s

-- what holds of a word itself, and then of what follows a word of requests, holds of the whole call
pub followed : (P : Outcome → Type 0) (t : ℕ) (call : Call) (s : State)
    → ((word : RequestWord) → P (does_requests word t call s) → P (andthen (does_requests word t call) finishes_set s))
    → (word : Word) → P (word_itself word t call s) → P (does_word word t call s)
followed P t call s sets (group.Requests word) holds = sets word holds
followed P t call s sets _ holds = holds

-- the same of the state that is left
pub ends_followed : (P : State → Type 0) → ((r : State) → P r → P (finishes_set r).state) → (t : ℕ) (call : Call) (s : State)
    → P (does_itself t call s).state → P (does t call s).state
unfolding does andthen
ends_followed P stays t call s holds =
    followed (λ o. P o.state) t call s (λ word mid. stays (does_requests word t call s).state mid) call.word holds

-- ---- what any word leaves as it is

-- the timer, or after a word on requests its clock alone
abbrev pub timer_left : Word → Timer → Timer
timer_left (group.Requests word) timer = clock_alone timer
timer_left _ timer = timer

-- a state in which all that some word may change is blanked out
abbrev pub beside_word : Word → State → State
beside_word word s = record s {
  scripts = no_scripts;
  schedule = without_nestings (without_priorities (without_signals (without_states s.schedule)));
  memory = record s.memory { heap = []; public = []; timer = timer_left word s.memory.timer };
  pending = without_caused s.pending;
  stopped = false;
}

-- what is known of any word
record WordFacts (word : Word) (t : ℕ) (call : Call) (s : State) (o : Outcome) : Type 0 where
  tells : Tells (ByTask t) call s o
  works : call.word ≡ word → Works t call s o
  tasks : call.word ≡ word → Shifted t call s o
  keeps : beside_word word o.state ≡ beside_word word s

-- of a word whose group leaves the timer as it is
with_timer : {rest : State → State} (word : Word) (t : ℕ) (call : Call) (s : State) (o : Outcome) → Facts (Makes t call s) rest word t call s o
    → beside_word word o.state ≡ beside_word word s → o.state.memory.timer.waiting ≡ s.memory.timer.waiting → WordFacts word t call s o
with_timer word t call s o facts keeps same =
    record { tells = facts.tells; works = λ is. by_moves (facts.blocks is) same; tasks = facts.tasks; keeps = keeps }

abbrev waiting_of : State → List Waiting
waiting_of s = s.memory.timer.waiting

word_facts : (word : Word) (t : ℕ) (call : Call) (s : State) → WordFacts word t call s (word_itself word t call s)
word_facts (group.Plain word) t call s =
    let facts = plain_facts word t call s in
    with_timer (group.Plain word) t call s _ facts (ap (beside_word (group.Plain word)) facts.keeps) (ap waiting_of facts.keeps)
word_facts (group.Signals word) t call s =
    let facts = signals_facts word t call s in
    with_timer (group.Signals word) t call s _ facts (ap (beside_word (group.Signals word)) facts.keeps) (ap waiting_of facts.keeps)
word_facts (group.Nesting word) t call s =
    let facts = nesting_facts word t call s in
    with_timer (group.Nesting word) t call s _ facts (ap (beside_word (group.Nesting word)) facts.keeps) (ap waiting_of facts.keeps)
word_facts (group.Tasks word) t call s =
    let facts = tasks_facts word t call s in
    with_timer (group.Tasks word) t call s _ facts (ap (beside_word (group.Tasks word)) facts.keeps) (ap waiting_of facts.keeps)
word_facts (group.Lists word) t call s =
    let facts = lists_facts word t call s in
    with_timer (group.Lists word) t call s _ facts (ap (beside_word (group.Lists word)) facts.keeps) (ap waiting_of facts.keeps)
word_facts (group.Memory word) t call s =
    let facts = memory_facts word t call s in
    with_timer (group.Memory word) t call s _ facts (ap (beside_word (group.Memory word)) facts.keeps) (ap waiting_of facts.keeps)
word_facts (group.Ports word) t call s =
    let facts = ports_facts word t call s in
    with_timer (group.Ports word) t call s _ facts (ap (beside_word (group.Ports word)) facts.keeps) (ap waiting_of facts.keeps)
word_facts (group.Semaphores word) t call s =
    let facts = semaphores_facts word t call s in
    with_timer (group.Semaphores word) t call s _ facts (ap (beside_word (group.Semaphores word)) facts.keeps) (ap waiting_of facts.keeps)
word_facts (group.Interrupts word) t call s =
    let facts = interrupts_facts word t call s in
    with_timer (group.Interrupts word) t call s _ facts (ap (beside_word (group.Interrupts word)) facts.keeps) (ap waiting_of facts.keeps)
word_facts (group.Libraries word) t call s =
    let facts = libraries_facts word t call s in
    with_timer (group.Libraries word) t call s _ facts (ap (beside_word (group.Libraries word)) facts.keeps) (ap waiting_of facts.keeps)
word_facts (group.Requests word) t call s =
    let facts = requests_facts word t call s in
    record { tells = facts.tells; works = λ is. (facts.blocks is).0; tasks = facts.tasks; keeps = ap (beside_word (group.Requests word)) facts.keeps }

pub word_keeps : (word : Word) (t : ℕ) (call : Call) → Keeps (beside_word word) (word_itself word t call)
word_keeps word t call s = (word_facts word t call s).keeps

pub word_tells : (word : Word) (t : ℕ) (call : Call) (s : State) → Tells (ByTask t) call s (word_itself word t call s)
word_tells word t call s = (word_facts word t call s).tells

pub call_works : (t : ℕ) (call : Call) (s : State) → Works t call s (does_itself t call s)
call_works t call s = (word_facts call.word t call s).works refl

pub call_shifts : (t : ℕ) (call : Call) (s : State) → Shifted t call s (does_itself t call s)
call_shifts t call s = (word_facts call.word t call s).tasks refl
