-- The numbers of a state report it: two states of one machine with the same numbers are the same, but for the memory.
use Rattle.std.proofs.Common.{◌≡◌, ◌≢◌, ◌∙◌, ◌<◌, ◌+◌, ℕ, zero, suc, ℤ, pos, negsuc, Bool, true, false, List, [], ◌∷◌, ◌++◌, Option, None, Some, refl, sym, ap, ap₂, arith, append_assoc, IfSome, length, map, slice_index_or, below_more}
use Rattle.exectrace.specs.Trace.{Argument, Value, Quoted}
use Rattle.script.specs.declared.variable.Variable.{Variable}
use Rattle.script.specs.declared.variable.Variable.TheVariants.{Private, Shared}
use Rattle.taskq.specs.declared.TaskState.{TaskState}
use Rattle.taskq.specs.declared.TaskState.TheVariants.{Absent, Ready, Running, Waiting, Removed}
use Rattle.taskq.specs.declared.Why.{Why}
use Rattle.taskq.specs.declared.Why.TheVariants.{Signals, Sem}
use Rattle.signals.specs.Signals.{initial_sets}
use Rattle.forbid.specs.Nesting.{initial_nesting}
use Rattle.scheduler.specs.Schedule.{Schedule, status_of, priority_of, signals_of, nesting_of}
use Rattle.execmodel.specs.State.{Call, Pending, Program, Scripts, program_of, no_program}
use Rattle.statekeys.specs.Fits.{executed, IsWait, StaysSchedule, StaysScripts}
use Rattle.statekeys.specs.Numbers.{bool_number, int_number, option_number, list_numbers, why_number, state_number, mask_of, mask_number, target_numbers, argument_numbers, kept_numbers, task_numbers, tasks_numbers, numbers}

head_of : {x y : ℕ} {xs ys : List ℕ} → x ∷ xs ≡ y ∷ ys → x ≡ y
head_of {x} {y} {xs} {ys} e = cc

tail_of : {x y : ℕ} {xs ys : List ℕ} → x ∷ xs ≡ y ∷ ys → xs ≡ ys
tail_of {x} {y} {xs} {ys} e = cc

less_one : {x y : ℕ} → suc x ≡ suc y → x ≡ y
less_one {x} {y} e = omega (arith, e)

not_none : {A : Type 0} {x : ℕ} → suc x ≡ 0 → A
not_none {A} {x} e = let bad : 0 < 0 = omega (arith, e) in absurd (omega (arith, bad))

-- ---- parts

bools_same : (a b : Bool) → bool_number a ≡ bool_number b → a ≡ b
bools_same true true e = refl
bools_same false false e = refl
bools_same true false e = not_none e
bools_same false true e = not_none (sym e)

ints_same : (a b : ℤ) → int_number a ≡ int_number b → a ≡ b
ints_same (pos n) (pos k) e = let same : n ≡ k = omega (arith, e) in ap (λ x. pos x) same
ints_same (negsuc n) (negsuc k) e = let same : n ≡ k = omega (arith, e) in ap (λ x. negsuc x) same
ints_same (pos n) (negsuc k) e = let bad : 0 < 0 = omega (arith, e) in absurd (omega (arith, bad))
ints_same (negsuc n) (pos k) e = let bad : 0 < 0 = omega (arith, e) in absurd (omega (arith, bad))

options_same : (a b : Option ℕ) → option_number a ≡ option_number b → a ≡ b
options_same None None e = refl
options_same (Some n) (Some k) e = ap (λ x. Some x) (less_one e)
options_same None (Some k) e = not_none (sym e)
options_same (Some n) None e = not_none e

lists_same : (xs ys r q : List ℕ) → list_numbers xs ++ r ≡ list_numbers ys ++ q → (xs ≡ ys) × (r ≡ q)
lists_same [] [] r q e = (refl, tail_of e)
lists_same [] (y ∷ ys) r q e = not_none (sym (head_of e))
lists_same (x ∷ xs) [] r q e = not_none (head_of e)
lists_same (x ∷ xs) (y ∷ ys) r q e =
    let rest = lists_same xs ys r q (tail_of e) in
    (ap₂ (λ (n : ℕ) (l : List ℕ). n ∷ l) (less_one (head_of e)) rest.0, rest.1)

whys_same : (a b : Why) → why_number a ≡ why_number b → mask_of a ≡ mask_of b → a ≡ b
whys_same (Signals m) (Signals k) e same = ap (λ x. Signals x) same
whys_same Sem Sem e same = refl
whys_same (Signals m) Sem e same = let bad : 0 < 0 = omega (arith, e) in absurd (omega (arith, bad))
whys_same Sem (Signals k) e same = let bad : 0 < 0 = omega (arith, e) in absurd (omega (arith, bad))

-- the number of a reason to wait is that of no other state
apart : {A : Type 0} (why : Why) (n : ℕ) → n < 4 → n ≡ why_number why → A
apart (Signals m) n less e = let bad : 0 < 0 = omega (arith, less, e) in absurd (omega (arith, bad))
apart Sem n less e = let bad : 0 < 0 = omega (arith, less, e) in absurd (omega (arith, bad))

differ : {A : Type 0} (n k : ℕ) → n ≢ k → n ≡ k → A
differ n k not e = absurd (not e)

states_same : (a b : TaskState) → state_number a ≡ state_number b → mask_number a ≡ mask_number b → a ≡ b
states_same Absent Absent e same = refl
states_same Ready Ready e same = refl
states_same Running Running e same = refl
states_same Removed Removed e same = refl
states_same (Waiting a) (Waiting b) e same = ap (λ why. Waiting why) (whys_same a b e same)
states_same Absent Ready e same = differ 0 1 (omega arith) e
states_same Absent Running e same = differ 0 2 (omega arith) e
states_same Absent Removed e same = differ 0 3 (omega arith) e
states_same Absent (Waiting b) e same = apart b 0 (omega arith) e
states_same Ready Absent e same = differ 1 0 (omega arith) e
states_same Ready Running e same = differ 1 2 (omega arith) e
states_same Ready Removed e same = differ 1 3 (omega arith) e
states_same Ready (Waiting b) e same = apart b 1 (omega arith) e
states_same Running Absent e same = differ 2 0 (omega arith) e
states_same Running Ready e same = differ 2 1 (omega arith) e
states_same Running Removed e same = differ 2 3 (omega arith) e
states_same Running (Waiting b) e same = apart b 2 (omega arith) e
states_same Removed Absent e same = differ 3 0 (omega arith) e
states_same Removed Ready e same = differ 3 1 (omega arith) e
states_same Removed Running e same = differ 3 2 (omega arith) e
states_same Removed (Waiting b) e same = apart b 3 (omega arith) e
states_same (Waiting a) Absent e same = apart a 0 (omega arith) (sym e)
states_same (Waiting a) Ready e same = apart a 1 (omega arith) (sym e)
states_same (Waiting a) Running e same = apart a 2 (omega arith) (sym e)
states_same (Waiting a) Removed e same = apart a 3 (omega arith) (sym e)

-- ---- calls

targets_same : (a b : Option Variable) (r q : List ℕ) → target_numbers a ++ r ≡ target_numbers b ++ q → (a ≡ b) × (r ≡ q)
targets_same None None r q e = (refl, tail_of (tail_of e))
targets_same (Some (Private k)) (Some (Private j)) r q e = (ap (λ x. Some (Private x)) (head_of (tail_of e)), tail_of (tail_of e))
targets_same (Some (Shared k)) (Some (Shared j)) r q e = (ap (λ x. Some (Shared x)) (head_of (tail_of e)), tail_of (tail_of e))
targets_same None (Some (Private j)) r q e = differ 0 1 (omega arith) (head_of e)
targets_same None (Some (Shared j)) r q e = differ 0 2 (omega arith) (head_of e)
targets_same (Some (Private k)) None r q e = differ 1 0 (omega arith) (head_of e)
targets_same (Some (Private k)) (Some (Shared j)) r q e = differ 1 2 (omega arith) (head_of e)
targets_same (Some (Shared k)) None r q e = differ 2 0 (omega arith) (head_of e)
targets_same (Some (Shared k)) (Some (Private j)) r q e = differ 2 1 (omega arith) (head_of e)

arguments_same : (xs ys : List Argument) (r q : List ℕ) → argument_numbers xs ++ r ≡ argument_numbers ys ++ q → (xs ≡ ys) × (r ≡ q)
arguments_same [] [] r q e = (refl, tail_of e)
arguments_same (Value n ∷ xs) (Value k ∷ ys) r q e =
    let rest = arguments_same xs ys r q (tail_of (tail_of e)) in
    (ap₂ (λ (x : ℕ) (l : List Argument). Value x ∷ l) (head_of (tail_of e)) rest.0, rest.1)
arguments_same (Quoted name ∷ xs) (Quoted other ∷ ys) r q e =
    let said = lists_same name other (argument_numbers xs ++ r) (argument_numbers ys ++ q)
    (sym (append_assoc (list_numbers name) (argument_numbers xs) r) ∙ (tail_of e ∙ append_assoc (list_numbers other) (argument_numbers ys) q)) in
    let rest = arguments_same xs ys r q said.1 in
    (ap₂ (λ (x : List ℕ) (l : List Argument). Quoted x ∷ l) said.0 rest.0, rest.1)
arguments_same [] (Value k ∷ ys) r q e = differ 0 1 (omega arith) (head_of e)
arguments_same [] (Quoted other ∷ ys) r q e = differ 0 2 (omega arith) (head_of e)
arguments_same (Value n ∷ xs) [] r q e = differ 1 0 (omega arith) (head_of e)
arguments_same (Value n ∷ xs) (Quoted other ∷ ys) r q e = differ 1 2 (omega arith) (head_of e)
arguments_same (Quoted name ∷ xs) [] r q e = differ 2 0 (omega arith) (head_of e)
arguments_same (Quoted name ∷ xs) (Value k ∷ ys) r q e = differ 2 1 (omega arith) (head_of e)

calls_same : (a b : Call) → IsWait a → IsWait b → a.target ≡ b.target → a.next ≡ b.next → a.awaited ≡ b.awaited → a.arguments ≡ b.arguments → a ≡ b
calls_same a b one other target next awaited arguments =
    λ i. record { word = (one ∙ sym other) i; target = target i; arguments = arguments i; next = next i; awaited = awaited i }

kept_same : (a b : Option Call) (r q : List ℕ) → IfSome a IsWait → IfSome b IsWait → kept_numbers a ++ r ≡ kept_numbers b ++ q → (a ≡ b) × (r ≡ q)
kept_same None None r q one other e = (refl, tail_of e)
kept_same None (Some b) r q one other e = differ 0 1 (omega arith) (head_of e)
kept_same (Some a) None r q one other e = differ 1 0 (omega arith) (head_of e)
kept_same (Some a) (Some b) r q one other e =
    let rest : target_numbers a.target ++ (a.next ∷ a.awaited ∷ (argument_numbers a.arguments ++ r))
    ≡ target_numbers b.target ++ (b.next ∷ b.awaited ∷ (argument_numbers b.arguments ++ q))
    = sym (append_assoc (target_numbers a.target) (a.next ∷ a.awaited ∷ argument_numbers a.arguments) r)
    ∙ (tail_of e ∙ append_assoc (target_numbers b.target) (b.next ∷ b.awaited ∷ argument_numbers b.arguments) q) in
    let target = targets_same a.target b.target _ _ rest in
    let arguments = arguments_same a.arguments b.arguments r q (tail_of (tail_of target.1)) in
    (ap (λ x. Some x) (calls_same a b one other target.0 (head_of target.1) (head_of (tail_of target.1)) arguments.0), arguments.1)

-- ---- tasks

record SameTask (t : ℕ) (s r : Schedule) (p q : Scripts) : Type 0 where
  state : status_of s t ≡ status_of r t
  pri : priority_of s t ≡ priority_of r t
  signals : signals_of s t ≡ signals_of r t
  nesting : nesting_of s t ≡ nesting_of r t
  place : (program_of p t).place ≡ (program_of q t).place
  variables : (program_of p t).variables ≡ (program_of q t).variables
  kept : (program_of p t).kept ≡ (program_of q t).kept

module _ (s r : Schedule) (p q : Scripts) (waits : (t : ℕ) → IfSome (program_of p t).kept IsWait) (others : (t : ℕ) → IfSome (program_of q t).kept IsWait) where
  task_same : (t : ℕ) (x y : List ℕ) → task_numbers t s p ++ x ≡ task_numbers t r q ++ y → SameTask t s r p q × (x ≡ y)
  task_same t x y e =
      let e1 = tail_of e in
      let e2 = tail_of e1 in
      let e3 = tail_of e2 in
      let e4 = tail_of e3 in
      let e5 = tail_of e4 in
      let e6 = tail_of e5 in
      let e7 = tail_of e6 in
      let rest = sym (append_assoc (list_numbers (program_of p t).variables) (kept_numbers (program_of p t).kept) x)
      ∙ (tail_of e7 ∙ append_assoc (list_numbers (program_of q t).variables) (kept_numbers (program_of q t).kept) y) in
      let variables = lists_same (program_of p t).variables (program_of q t).variables _ _ rest in
      let kept = kept_same (program_of p t).kept (program_of q t).kept x y (waits t) (others t) variables.1 in
      let received = head_of e3 in
      let allocated = head_of e4 in
      let forbids = ints_same (nesting_of s t).forbids (nesting_of r t).forbids (head_of e5) in
      let disables = ints_same (nesting_of s t).disables (nesting_of r t).disables (head_of e6) in (
        record {
          state = states_same (status_of s t) (status_of r t) (head_of e) (head_of e1);
          pri = ints_same (priority_of s t) (priority_of r t) (head_of e2);
          signals = λ i. record { received = received i; allocated = allocated i };
          nesting = λ i. record { forbids = forbids i; disables = disables i };
          place = head_of e7;
          variables = variables.0;
          kept = kept.0;
        },
        kept.1,
      )

  tasks_same : (n : ℕ) (x y : List ℕ) → tasks_numbers n s p ++ x ≡ tasks_numbers n r q ++ y
      → ((t : ℕ) → t < n → SameTask t s r p q) × (x ≡ y)
  tasks_same zero x y e = (λ t less. absurd (omega (arith, less)), e)
  tasks_same (suc n) x y e =
      let before = tasks_same n (task_numbers n s p ++ x) (task_numbers n r q ++ y)
      (sym (append_assoc (tasks_numbers n s p) (task_numbers n s p) x) ∙ (e ∙ append_assoc (tasks_numbers n r q) (task_numbers n r q) y)) in
      let here = task_same n x y before.1 in
      (λ t less. let more : t < n + 1 = omega (arith, less) in below_more (λ k. SameTask k s r p q) n before.0 here.0 t more, here.1)

-- ---- lists by their places

lists_ext : {A : Type 0} (d : A) (xs ys : List A) → length xs ≡ length ys
    → ((k : ℕ) → k < length xs → slice_index_or xs k d ≡ slice_index_or ys k d) → xs ≡ ys
lists_ext d [] [] same each = refl
lists_ext d [] (y ∷ ys) same each = let bad : 0 < 0 = omega (arith, same) in absurd (omega (arith, bad))
lists_ext d (x ∷ xs) [] same each = let bad : 0 < 0 = omega (arith, same) in absurd (omega (arith, bad))
lists_ext {A} d (x ∷ xs) (y ∷ ys) same each =
    let first : x ≡ y = each 0 (omega arith) in
    let rest : xs ≡ ys = lists_ext d xs ys (omega (arith, same)) (λ k less. each (suc k) (omega (arith, less))) in
    ap₂ (λ (z : A) (zs : List A). z ∷ zs) first rest

programs_same : (xs ys : List Program) → map executed xs ≡ map executed ys
    → ((k : ℕ) → k < length xs → (slice_index_or xs k no_program).place ≡ (slice_index_or ys k no_program).place)
    → ((k : ℕ) → k < length xs → (slice_index_or xs k no_program).variables ≡ (slice_index_or ys k no_program).variables)
    → ((k : ℕ) → k < length xs → (slice_index_or xs k no_program).kept ≡ (slice_index_or ys k no_program).kept) → xs ≡ ys
programs_same [] [] same places variables kept = refl
programs_same [] (y ∷ ys) same places variables kept = absurd cc
programs_same (x ∷ xs) [] same places variables kept = absurd cc
programs_same (x ∷ xs) (y ∷ ys) same places variables kept =
    let first : executed x ≡ executed y = cc in
    let others : map executed xs ≡ map executed ys = cc in
    let place : x.place ≡ y.place = places 0 (omega arith) in
    let values : x.variables ≡ y.variables = variables 0 (omega arith) in
    let calls : x.kept ≡ y.kept = kept 0 (omega arith) in
    let here : x ≡ y = λ i. record { code = (first i).0; place = place i; variables = values i; kept = calls i; starts = (first i).1 } in
    let rest = programs_same xs ys others (λ k less. places (suc k) (omega (arith, less))) (λ k less. variables (suc k) (omega (arith, less)))
    (λ k less. kept (suc k) (omega (arith, less))) in
    ap₂ (λ (z : Program) (zs : List Program). z ∷ zs) here rest

-- ---- the whole

-- there is a state, a priority, signals and a nesting for each program
pub record IsEven (s : Schedule) (p : Scripts) : Type 0 where
  pub states : length s.queue.states ≡ length p.programs
  pub pris : length s.queue.pris ≡ length p.programs
  pub signals : length s.signals ≡ length p.programs
  pub nestings : length s.nestings ≡ length p.programs

-- a machine was reported as idle exactly if no task runs
abbrev pub IsIdleRight : Schedule → Type 0
IsIdleRight s = s.running ≡ None → s.idle ≡ true

idle_same : (running : Option ℕ) (s r : Schedule) → s.running ≡ running → r.running ≡ running → (s.idle ≡ true → s.running ≡ None)
    → (r.idle ≡ true → r.running ≡ None) → IsIdleRight s → IsIdleRight r → s.idle ≡ r.idle
idle_same None s r one other s_none r_none s_idle r_idle = s_idle one ∙ sym (r_idle other)
idle_same (Some t) s r one other s_none r_none s_idle r_idle = neither s.idle r.idle (λ e. some_none (sym one ∙ s_none e)) (λ e. some_none (sym other ∙ r_none e))
  where
    some_none : {A : Type 0} {x : ℕ} → Some x ≡ None → A
    some_none {A} {x} e = cc

    neither : (a c : Bool) → (a ≡ true → a ≡ c) → (c ≡ true → a ≡ c) → a ≡ c
    neither true c one other = one refl
    neither false true one other = other refl
    neither false false one other = refl

lengths_same : (xs ys : List Program) → map executed xs ≡ map executed ys → length xs ≡ length ys
lengths_same [] [] same = refl
lengths_same [] (y ∷ ys) same = absurd cc
lengths_same (x ∷ xs) [] same = absurd cc
lengths_same (x ∷ xs) (y ∷ ys) same =
    let rest : map executed xs ≡ map executed ys = cc in
    let less = lengths_same xs ys rest in
    omega (arith, less)

-- two states of one machine
pub record AreSame (s r : Schedule) (p q : Scripts) (x y : Pending) : Type 0 where
  pub schedule : s ≡ r
  pub scripts : p ≡ q
  pub pending : x ≡ y

pub numbers_tell : (bs : Schedule) (bp : Scripts) (s r : Schedule) (p q : Scripts) (x y : Pending) → IsEven bs bp → StaysSchedule bs s → StaysSchedule bs r
    → StaysScripts bp p → StaysScripts bp q → IsIdleRight s → IsIdleRight r → numbers s p x ≡ numbers r q y → AreSame s r p q x y
numbers_tell bs bp s r p q x y even hs hr hp hq s_idle r_idle e =
    let e1 = tail_of e in
    let e2 = tail_of e1 in
    let e3 = tail_of e2 in
    let e4 = tail_of e3 in
    let count : length p.programs ≡ length q.programs = lengths_same p.programs q.programs (hp.executes ∙ sym hq.executes) in
    let all : length p.programs ≡ length bp.programs = lengths_same p.programs bp.programs hp.executes in
    let ready = lists_same s.queue.ready r.queue.ready _ _ (tail_of e4) in
    let caused = lists_same x.caused y.caused _ _ ready.1 in
    let shared = lists_same p.shared q.shared _ _ caused.1 in
    let counted : tasks_numbers (length p.programs) s p ≡ tasks_numbers (length p.programs) r q
    = shared.1 ∙ ap (λ n. tasks_numbers n r q) (sym count) in
    let tasks = (tasks_same s r p q hp.waits hq.waits (length p.programs) [] [] (ap (λ l. l ++ []) counted)).0 in
    let running = options_same s.running r.running (head_of e) in
    let left = head_of e1 in
    let ports = bools_same x.latches.ports y.latches.ports (head_of e2) in
    let vertb = bools_same x.latches.vertb y.latches.vertb (head_of e3) in
    let exter = bools_same x.latches.exter y.latches.exter (head_of e4) in
    let states : s.queue.states ≡ r.queue.states = lists_ext Absent s.queue.states r.queue.states (hs.states ∙ sym hr.states)
    (λ k less. (tasks k (omega (arith, less, hs.states, even.states, all))).state) in
    let pris : s.queue.pris ≡ r.queue.pris = lists_ext (pos 0) s.queue.pris r.queue.pris (hs.pris ∙ sym hr.pris)
    (λ k less. (tasks k (omega (arith, less, hs.pris, even.pris, all))).pri) in
    let signals : s.signals ≡ r.signals = lists_ext initial_sets s.signals r.signals (hs.signals ∙ sym hr.signals)
    (λ k less. (tasks k (omega (arith, less, hs.signals, even.signals, all))).signals) in
    let nestings : s.nestings ≡ r.nestings = lists_ext initial_nesting s.nestings r.nestings (hs.nestings ∙ sym hr.nestings)
    (λ k less. (tasks k (omega (arith, less, hs.nestings, even.nestings, all))).nesting) in
    let names : s.queue.names ≡ r.queue.names = hs.names ∙ sym hr.names in
    let quantum : s.quantum ≡ r.quantum = hs.quantum ∙ sym hr.quantum in
    let idle : s.idle ≡ r.idle = idle_same s.running s r refl (sym running) hs.idle hr.idle s_idle r_idle in
    let programs : p.programs ≡ q.programs = programs_same p.programs q.programs (hp.executes ∙ sym hq.executes)
    (λ k less. (tasks k less).place) (λ k less. (tasks k less).variables) (λ k less. (tasks k less).kept) in
    let readies : s.queue.ready ≡ r.queue.ready = ready.0 in
    let shares : p.shared ≡ q.shared = shared.0 in
    let causes : x.caused ≡ y.caused = caused.0 in
    record {
      schedule = λ i. record {
        queue = record { ready = readies i; states = states i; pris = pris i; names = names i };
        running = running i;
        signals = signals i;
        nestings = nestings i;
        quantum = quantum i;
        left = left i;
        idle = idle i;
      };
      scripts = λ i. record { programs = programs i; shared = shares i };
      pending = λ i. record { caused = causes i; latches = record { ports = ports i; vertb = vertb i; exter = exter i } };
    }
