-- What each change of the scripts leaves as it is, and that the next call is that of a command.
use Rattle.std.proofs.Common.{◌≡◌, ◌∙◌, ℕ, zero, suc, Bool, true, List, [], ◌∷◌, Option, None, Some, refl, sym, ap, subst, All, IfSome, map, slice_get, slice_set, slice_index_or}
use Rattle.std.proofs.lemmas.List.Elements.{All-head, All-tail}
use Rattle.script.specs.declared.variable.Variable.TheVariants.{Private, Shared}
use Rattle.script.specs.{declared.variable.Variable.Variable, Commands.CommandData}
use Rattle.execmodel.specs.State.{Call, Program, Scripts, no_program, program_of, with_program}
use Rattle.execmodel.specs.Calls.{stored, stored_shared, goes_on, keeps, call_at, call_after, call_of, next_call}
use Rattle.statekeys.specs.Fits.{is_bare, HasBareWord, executed, IsWait, StaysScripts}

-- a program that executes the same as the one in its place
set_executes : (t : ℕ) (program : Program) (programs : List Program) → executed program ≡ executed (slice_index_or programs t no_program)
    → map executed (slice_set programs t program) ≡ map executed programs
set_executes t program [] same = refl
set_executes zero program (p ∷ programs) same = ap (λ x. x ∷ map executed programs) same
set_executes (suc t) program (p ∷ programs) same = ap (λ xs. executed p ∷ xs) (set_executes t program programs same)

-- what holds of each program's call, and of another one's, holds after it is set
set_waits : (t : ℕ) (program : Program) (programs : List Program) → IfSome program.kept IsWait
    → ((k : ℕ) → IfSome (slice_index_or programs k no_program).kept IsWait) → (k : ℕ)
    → IfSome (slice_index_or (slice_set programs t program) k no_program).kept IsWait
set_waits t program [] one all k = all k
set_waits zero program (p ∷ programs) one all zero = one
set_waits zero program (p ∷ programs) one all (suc k) = all (suc k)
set_waits (suc t) program (p ∷ programs) one all zero = all zero
set_waits (suc t) program (p ∷ programs) one all (suc k) = set_waits t program programs one (λ j. all (suc j)) k

module _ (b : Scripts) where
  set_stays : (t : ℕ) (program : Program) (s : Scripts) → executed program ≡ executed (program_of s t) → IfSome program.kept IsWait
      → StaysScripts b s → StaysScripts b (with_program t program s)
  set_stays t program s same waits h = record {
    executes = set_executes t program s.programs same ∙ h.executes;
    waits = set_waits t program s.programs waits h.waits;
  }

  pub goes_stays : (t next : ℕ) (s : Scripts) → StaysScripts b s → StaysScripts b (goes_on t next s)
  goes_stays t next s h = set_stays t _ s refl tt h

  pub keeps_stays : (t : ℕ) (call : Call) (s : Scripts) → IsWait call → StaysScripts b s → StaysScripts b (keeps t call s)
  keeps_stays t call s is h = set_stays t _ s refl is h

  pub stored_stays : (t : ℕ) (target : Option Variable) (value : ℕ) (s : Scripts) → StaysScripts b s → StaysScripts b (stored t target value s)
  stored_stays t None value s h = h
  stored_stays t (Some (Private k)) value s h = set_stays t _ s refl (h.waits t) h
  stored_stays t (Some (Shared k)) value s h = record { executes = h.executes; waits = h.waits }

  pub stored_shared_stays : (target : Option Variable) (value : ℕ) (s : Scripts) → StaysScripts b s → StaysScripts b (stored_shared target value s)
  stored_shared_stays None value s h = h
  stored_shared_stays (Some (Private k)) value s h = h
  stored_shared_stays (Some (Shared k)) value s h = record { executes = h.executes; waits = h.waits }

  -- ---- the next call

  executed_at : (t : ℕ) (xs ys : List Program) → map executed xs ≡ map executed ys
      → executed (slice_index_or xs t no_program) ≡ executed (slice_index_or ys t no_program)
  executed_at t [] [] same = refl
  executed_at t [] (y ∷ ys) same = absurd cc
  executed_at t (x ∷ xs) [] same = absurd cc
  executed_at zero (x ∷ xs) (y ∷ ys) same = cc
  executed_at (suc t) (x ∷ xs) (y ∷ ys) same = let rest : map executed xs ≡ map executed ys = cc in executed_at t xs ys rest

  pub code_stays : (t : ℕ) (s : Scripts) → StaysScripts b s → (program_of s t).code ≡ (program_of b t).code
  code_stays t s h = ap (λ (x : List CommandData × Bool). x.0) (executed_at t s.programs b.programs h.executes)

  found_bare : (code : List CommandData) (place : ℕ) → All HasBareWord code → IfSome (slice_get code place) HasBareWord
  found_bare [] place all = tt
  found_bare (command ∷ code) zero all = All-head HasBareWord command code all
  found_bare (command ∷ code) (suc place) all = found_bare code place (All-tail HasBareWord command code all)

  at_bare : (t : ℕ) (found : Option CommandData) (s : Scripts) → IfSome found HasBareWord
      → IfSome (call_at t found s) (λ (call : Call). is_bare call.word ≡ true)
  unfolding call_of
  at_bare t None s bare = tt
  at_bare t (Some command) s bare = bare

  after_bare : (t : ℕ) (kept : Option Call) (s : Scripts) → All HasBareWord (program_of s t).code → IfSome kept IsWait
      → IfSome (call_after t kept s) (λ (call : Call). is_bare call.word ≡ true)
  after_bare t (Some call) s all is = ap is_bare is
  after_bare t None s all is = at_bare t _ s (found_bare (program_of s t).code (program_of s t).place all)

  -- the call that a task makes next is of such a word
  pub next_bare : (t : ℕ) (s : Scripts) → All HasBareWord (program_of b t).code → StaysScripts b s
      → IfSome (next_call t s) (λ (call : Call). is_bare call.word ≡ true)
  unfolding next_call
  next_bare t s all h =
      after_bare t (program_of s t).kept s (subst (λ (code : List CommandData). All HasBareWord code) (sym (code_stays t s h)) all) (h.waits t)
