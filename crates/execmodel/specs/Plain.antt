-- Plain words: they set variables, calculate, jump and print. They are not calls of Exec (project rule).
use Rattle.std.specs.Prelude.{ℕ, ◌+◌, ◌-◌, ◌%◌, ◌^◌, if◌then◌else◌, nat_eq, bit_and, bit_or, ⊤}
use Rattle.script.specs.declared.word.plain.PlainWord.{PlainWord}
use Rattle.script.specs.declared.word.plain.PlainWord.TheVariants as word
use Rattle.execmodel.specs.{State.Call, State.State, State.Outcome, State.quiet, State.on_scripts, Calls.Caller, Calls.ByTask, Calls.argument, Calls.done, Calls.silent_by, Calls.goes_on}

-- Set a: returns a
abbrev pub does_set_by : Caller → Call → State → Outcome
does_set_by c call s = silent_by c call (argument 0 call) s

-- Set, done by task t
unfoldable pub does_set : ℕ → Call → State → Outcome
does_set t call s = does_set_by (ByTask t) call s

-- Print a: its line shows the value of a
unfoldable pub does_print : ℕ → Call → State → Outcome
does_print t call s = done t call s

-- ---- arithmetic: words of 32 bits, which wrap

-- Add a b: returns the sum modulo 2^32
abbrev pub does_add_by : Caller → Call → State → Outcome
does_add_by c call s = silent_by c call ((argument 0 call + argument 1 call) % 2 ^ 32) s

-- Add, done by task t
unfoldable pub does_add : ℕ → Call → State → Outcome
does_add t call s = does_add_by (ByTask t) call s

-- Sub a b: returns the difference a - b modulo 2^32
abbrev pub does_sub_by : Caller → Call → State → Outcome
does_sub_by c call s = silent_by c call ((argument 0 call + (2 ^ 32 - argument 1 call)) % 2 ^ 32) s

-- Sub, done by task t
unfoldable pub does_sub : ℕ → Call → State → Outcome
does_sub t call s = does_sub_by (ByTask t) call s

-- And a b: returns the bits that both have
abbrev pub does_and_by : Caller → Call → State → Outcome
does_and_by c call s = silent_by c call (bit_and (argument 0 call) (argument 1 call)) s

-- And, done by task t
unfoldable pub does_and : ℕ → Call → State → Outcome
does_and t call s = does_and_by (ByTask t) call s

-- Or a b: returns the bits that either has
abbrev pub does_or_by : Caller → Call → State → Outcome
does_or_by c call s = silent_by c call (bit_or (argument 0 call) (argument 1 call)) s

-- Or, done by task t
unfoldable pub does_or : ℕ → Call → State → Outcome
does_or t call s = does_or_by (ByTask t) call s

-- ---- jumps: a label represents the place of the command after it

-- task t goes on with the command at that place
unfoldable pub jumps : ℕ → ℕ → State → Outcome
jumps t place s = quiet (on_scripts (goes_on t place) s)

-- Jump l: goes on at label l
unfoldable pub does_jump : ℕ → Call → State → Outcome
does_jump t call s = jumps t (argument 0 call) s

-- JumpZ a l: goes on at label l if a is 0, and else with the next command
unfoldable pub does_jump_zero : ℕ → Call → State → Outcome
does_jump_zero t call s = jumps t (if nat_eq (argument 0 call) 0 then argument 1 call else call.next) s

-- JumpNZ a l: goes on at label l if a is not 0, and else with the next command
unfoldable pub does_jump_not_zero : ℕ → Call → State → Outcome
does_jump_not_zero t call s = jumps t (if nat_eq (argument 0 call) 0 then call.next else argument 1 call) s

-- ---- the words of this group

-- a plain word, done by task t
abbrev pub does_plain : PlainWord → ℕ → Call → State → Outcome
does_plain word.Set t call s = does_set t call s
does_plain word.Add t call s = does_add t call s
does_plain word.Sub t call s = does_sub t call s
does_plain word.And t call s = does_and t call s
does_plain word.Or t call s = does_or t call s
does_plain word.Jump t call s = does_jump t call s
does_plain word.JumpZ t call s = does_jump_zero t call s
does_plain word.JumpNZ t call s = does_jump_not_zero t call s
does_plain word.Print t call s = does_print t call s

-- the rules of this group, where all of them are to unfold
unfoldable pub plain_rules : ⊤
unfolding does_add does_and does_jump does_jump_not_zero does_jump_zero does_or does_print does_set does_sub jumps
plain_rules = tt
