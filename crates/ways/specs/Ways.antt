-- The ways in which extra events can come among the actions of a frame, and in which order they are tried.
use Rattle.std.specs.Prelude.{ℕ, zero, suc, ◌+◌, ◌*◌, List, [], ◌∷◌, ◌++◌, map, replicate, take, drop, flat_map}
use Rattle.script.specs.declared.event.Event.TheVariants.{Run, Tick, Irq}
use Rattle.script.specs.declared.event.Event.{Event}

-- ---- actions

-- the single steps, ticks and requests that an event represents
abbrev pub actions_in : Event → List Event
actions_in (Run n) = replicate n (Run 1)
actions_in (Tick n) = replicate n (Tick 1)
actions_in (Irq source) = Irq source ∷ []

abbrev pub actions : List Event → List Event
actions events = flat_map actions_in events

-- ---- ways

-- each of these ways with e before it
abbrev pub with_before : {E : Type 0} → E → List (List E) → List (List E)
with_before e ways = map (λ way. e ∷ way) ways

-- each of these ways with each kind before it, by kinds
abbrev pub with_each : {E : Type 0} → List E → List (List E) → List (List E)
with_each kinds ways = flat_map (λ e. with_before e ways) kinds

-- exactly j extras among acts
abbrev pub exactly : {E : Type 0} → List E → ℕ → List E → List (List E)
exactly kinds zero acts = acts ∷ []
exactly kinds (suc j) [] = with_each kinds (exactly kinds j [])
exactly kinds (suc j) (a ∷ rest) = with_each kinds (exactly kinds j (a ∷ rest)) ++ with_before a (exactly kinds (suc j) rest)

-- at most k extras, fewest first
abbrev pub ways : {E : Type 0} → List E → ℕ → List E → List (List E)
ways kinds zero acts = exactly kinds zero acts
ways kinds (suc k) acts = ways kinds k acts ++ exactly kinds (suc k) acts

-- ---- how many

-- Pascal's triangle
abbrev pub choose : ℕ → ℕ → ℕ
choose n zero = 1
choose zero (suc k) = 0
choose (suc n) (suc k) = choose n k + choose n (suc k)

-- how many ways have exactly j extras of m kinds among n actions
abbrev pub count : ℕ → ℕ → ℕ → ℕ
count m zero n = 1
count m (suc j) zero = m * count m j zero
count m (suc j) (suc n) = m * count m j (suc n) + count m (suc j) n

-- how many have at most k
abbrev pub count_all : ℕ → ℕ → ℕ → ℕ
count_all m zero n = count m zero n
count_all m (suc k) n = count_all m k n + count m (suc k) n

-- ---- a part

-- from old ways on: that many are still to be skipped, that many are then to be visited, and what the visitor is by now
pub record Passing (S : Type 0) : Type 0 where
  pub skip : ℕ
  pub left : ℕ
  pub state : S

-- one more way passes: it is skipped, or it is past the part, or it is visited
abbrev pub pass : {S A : Type 0} → (S → A → S) → ℕ → ℕ → S → A → Passing S
pass f (suc skip) left s way = record { skip = skip; left = left; state = s }
pass f zero zero s way = record { skip = 0; left = 0; state = s }
pass f zero (suc left) s way = record { skip = 0; left = left; state = f s way }

abbrev pub passes : {S A : Type 0} → (S → A → S) → Passing S → A → Passing S
passes f p way = pass f p.skip p.left p.state way

-- the ways from number lo on, that many of them
abbrev pub part_of : {A : Type 0} → ℕ → ℕ → List A → List A
part_of lo many ways = take many (drop lo ways)
