-- How the machine follows a plain word that is done on its command, with no call between.
use Rattle.std.proofs.Common.{◌≡◌, ℕ, ◌+◌, ◌-◌, ◌%◌, ◌^◌, List, [], ◌∷◌, None, Some, length, refl, ap, sym, ◌∙◌, map, take, length-set, option_map, Option, IfSome, codes, if◌then◌else◌, nat_eq, bit_and, bit_or, slice_get}
use Rattle.std.proofs.lemmas.Option.{slice_get-map}
use Rattle.exectrace.specs.{Short.short_argument, Trace.Done, declared.lines.ShortArg.ShortArg}
use Rattle.exectrace.specs.Trace as trace
use Rattle.script.specs.declared.variable.Variable.TheVariants.{Private, Shared}
use Rattle.script.specs.{declared.command.Argument.Argument, declared.command.Command.Command, Commands.ArgumentData, Commands.CommandData, Commands.argument_view, Commands.command_view, Words.word_text, declared.variable.Variable.Variable, declared.word.Word.TheVariants.Plain}
use Rattle.script.specs.declared.word.plain.PlainWord.TheVariants as word
use Rattle.scheduler.specs.Schedule.{task_name}
use Rattle.execmodel.specs.{State.Call, State.Scripts, State.State, State.program_of, Calls.argument, Calls.call_of, Calls.done, Calls.evaluated, Calls.goes_on, Calls.next_call, Calls.argument_number, Calls.silent, Calls.stored, Plain.does_set, Plain.does_add, Plain.does_sub, Plain.does_and, Plain.does_or, Plain.jumps, Plain.does_jump, Plain.does_jump_zero, Plain.does_jump_not_zero, Plain.does_print, Step.call_step, Step.does, Step.does_word, Step.task_step}
use Rattle.execsim.specs.{Changes.PutsPrint, Changes.changes, Agreement.Seen, Agreement.Follows, Agreement.Quietly, Agreement.line_seen, declared.change.Change.Change}
use Rattle.execsim.proofs.{Calling.map-map_as, Calling.next-command, Caused.one_only, Endings.follows_done, Following.follows_as, Following.quietly_as, Following.reads_scripts, Stepping.task_step_as}
use Rattle.exectrace.specs.Hearing.{Hearing}

-- what is done next, if it is a command
pub next_changes : (t : ℕ) (scripts : Scripts) (command : CommandData) (place : ℕ) (change : Option Change) → (program_of scripts t).kept ≡ None
    → slice_get (program_of scripts t).code (program_of scripts t).place ≡ Some command → place ≡ (program_of scripts t).place + 1
    → IfSome change (λ change. (s : State) → does t (call_of t place command scripts) s ≡ changes t change s)
    → IfSome change (λ change. (s : State) → call_step t (next_call t scripts) s ≡ changes t change s)
next_changes t scripts command place None kept here behind is = _
next_changes t scripts command place (Some change) kept here behind is = λ s.
    ap (λ call. call_step t call s) (next-command t scripts command kept here)
    ∙ ap (λ next. does t (call_of t next command scripts) s) (sym behind) ∙ is s

-- the number at an argument of a command, if the arguments have these values
module _ (value : ArgumentData → trace.Argument) (k : ℕ) (command : Command) where
  pub number_there : (found : Argument) (n : ℕ) → slice_get (take command.count command.arguments) k ≡ Some found
      → ((name : List ℕ) → n ≡ argument_number (Some (value (argument_view name found))))
      → n ≡ argument_number (slice_get (map value (command_view command).arguments) k)
  number_there found n at is =
      let view : Argument → ArgumentData = argument_view command.name.bytes in
      let all : List Argument = take command.count command.arguments in
      is command.name.bytes ∙ sym (ap argument_number (slice_get-map value (map view all) k
      ∙ ap (option_map value) (slice_get-map view all k ∙ ap (option_map view) at)))

  pub number_past : slice_get (take command.count command.arguments) k ≡ None → 0 ≡ argument_number (slice_get (map value (command_view command).arguments) k)
  number_past at =
      let view : Argument → ArgumentData = argument_view command.name.bytes in
      let all : List Argument = take command.count command.arguments in
      sym (ap argument_number (slice_get-map value (map view all) k
      ∙ ap (option_map value) (slice_get-map view all k ∙ ap (option_map view) at)))

-- a call of a plain word, by the numbers at its arguments
module _ (t : ℕ) (call : Call) (first second : ℕ) (one : first ≡ argument 0 call) (two : second ≡ argument 1 call) where
  pub sets : call.word ≡ Plain word.Set → (s : State) → does t call s ≡ silent t call first s
  unfolding does does_set
  sets is s = ap (λ w. does_word w t call s) is ∙ ap (λ x. silent t call x s) (sym one)

  pub adds : call.word ≡ Plain word.Add → (value : ℕ) → value ≡ (first + second) % 2 ^ 32 → (s : State) → does t call s ≡ silent t call value s
  unfolding does does_add
  adds is value v s = ap (λ w. does_word w t call s) is
      ∙ ap (λ v. silent t call v s) (sym (v ∙ ap (λ x. (x + second) % 2 ^ 32) one ∙ ap (λ y. (argument 0 call + y) % 2 ^ 32) two))

  pub subtracts : call.word ≡ Plain word.Sub → (value : ℕ) → value ≡ (first + (2 ^ 32 - second)) % 2 ^ 32 → (s : State) → does t call s ≡ silent t call value s
  unfolding does does_sub
  subtracts is value v s = ap (λ w. does_word w t call s) is
      ∙ ap (λ v. silent t call v s) (sym (v ∙ ap (λ x. (x + (2 ^ 32 - second)) % 2 ^ 32) one ∙ ap (λ y. (argument 0 call + (2 ^ 32 - y)) % 2 ^ 32) two))

  pub masks : call.word ≡ Plain word.And → (value : ℕ) → value ≡ bit_and first second → (s : State) → does t call s ≡ silent t call value s
  unfolding does does_and
  masks is value v s = ap (λ w. does_word w t call s) is
      ∙ ap (λ v. silent t call v s) (sym (v ∙ ap (λ x. bit_and x second) one ∙ ap (λ y. bit_and (argument 0 call) y) two))

  pub joins : call.word ≡ Plain word.Or → (value : ℕ) → value ≡ bit_or first second → (s : State) → does t call s ≡ silent t call value s
  unfolding does does_or
  joins is value v s = ap (λ w. does_word w t call s) is
      ∙ ap (λ v. silent t call v s) (sym (v ∙ ap (λ x. bit_or x second) one ∙ ap (λ y. bit_or (argument 0 call) y) two))

  pub goes : call.word ≡ Plain word.Jump → (s : State) → does t call s ≡ jumps t first s
  unfolding does does_jump
  goes is s = ap (λ w. does_word w t call s) is ∙ ap (λ x. jumps t x s) (sym one)

  pub goes_at_zero : call.word ≡ Plain word.JumpZ → (place : ℕ) → place ≡ (if nat_eq first 0 then second else call.next)
      → (s : State) → does t call s ≡ jumps t place s
  unfolding does does_jump_zero
  goes_at_zero is place p s = ap (λ w. does_word w t call s) is
      ∙ ap (λ p. jumps t p s) (sym (p ∙ ap (λ x. if nat_eq x 0 then second else call.next) one
      ∙ ap (λ y. if nat_eq (argument 0 call) 0 then y else call.next) two))

  pub goes_unless_zero : call.word ≡ Plain word.JumpNZ → (place : ℕ) → place ≡ (if nat_eq first 0 then call.next else second)
      → (s : State) → does t call s ≡ jumps t place s
  unfolding does does_jump_not_zero
  goes_unless_zero is place p s = ap (λ w. does_word w t call s) is
      ∙ ap (λ p. jumps t p s) (sym (p ∙ ap (λ x. if nat_eq x 0 then call.next else second) one
      ∙ ap (λ y. if nat_eq (argument 0 call) 0 then call.next else y) two))

-- a task that does a plain word does its next call
pub changed_as : {m n : Seen} (t : ℕ) (change : Change) → ((s : State) → call_step t (next_call t m.scripts) s ≡ changes t change s)
    → Quietly (changes t change) m n → Quietly (task_step (Some t)) m n
changed_as {m} t change is quietly = quietly_as {g = changes t change}
    (λ s e. ap (λ c. call_step t c s) (reads_scripts (next_call t) refl s e) ∙ is s) quietly

-- a plain word leaves as many tasks
pub tasks_after : (t : ℕ) (target : Option Variable) (value next : ℕ) (scripts : Scripts)
    → length (goes_on t next (stored t target value scripts)).programs ≡ length scripts.programs
tasks_after t None value next scripts = simp length-set refl
tasks_after t (Some (Private v)) value next scripts = simp length-set refl
tasks_after t (Some (Shared v)) value next scripts = simp length-set refl

-- ---- Print

-- the line of a Print, by the parts that are put
pub print_line : (t next : ℕ) (command : Command) (m : Seen) {name : List ℕ} {shown : List trace.Argument} → name ≡ task_name m.schedule t
    → command.word ≡ Plain word.Print
    → shown ≡ map (λ a. evaluated t m.scripts (argument_view command.name.bytes a)) (take command.count command.arguments)
    → trace.Call name (codes "Print") shown Done ≡ line_seen t (call_of t next (command_view command) m.scripts) Done m
unfolding call_of
print_line t next command m {shown = shown} named prints values =
    ap (λ x. trace.Call x (codes "Print") shown Done) named
    ∙ ap (λ w. trace.Call (task_name m.schedule t) (word_text w) shown Done) (sym prints)
    ∙ ap (λ x. trace.Call (task_name m.schedule t) (word_text command.word) x Done)
    (values ∙ map-map_as (evaluated t m.scripts) (argument_view command.name.bytes) (take command.count command.arguments))

-- the value of the only argument of a command
pub value_alone : (t : ℕ) (command : Command) (found : Argument) (value : ShortArg) (scripts : Scripts) → command.count ≡ 1
    → slice_get (take command.count command.arguments) 0 ≡ Some found
    → ((name : List ℕ) → short_argument name value ≡ evaluated t scripts (argument_view name found))
    → short_argument command.name.bytes value ∷ [] ≡ map (λ a. evaluated t scripts (argument_view command.name.bytes a)) (take command.count command.arguments)
value_alone t command found value scripts one is same =
    sym (ap (map (λ (a : Argument). evaluated t scripts (argument_view command.name.bytes a)))
    (ap (λ n. take n command.arguments) one
    ∙ one_only command.arguments found (ap (λ n. slice_get (take n command.arguments) 0) (sym one) ∙ is))
    ∙ ap (λ x. x ∷ []) (sym (same command.name.bytes)))

-- what task t does next is a Print of that command
pub puts_next : {H : Hearing} {m : Seen} {a b : H.Told} (t place : ℕ) (command : CommandData) → (program_of m.scripts t).kept ≡ None
    → slice_get (program_of m.scripts t).code (program_of m.scripts t).place ≡ Some command → place ≡ (program_of m.scripts t).place + 1
    → command.word ≡ Plain word.Print
    → ((next : ℕ) → H.hears a b ((line_seen t (call_of t next command m.scripts) Done m) ∷ [])) → PutsPrint H t place m a b
unfolding call_of
puts_next {H} {m} t place command kept here behind prints line = record {
  call = call_of t place command m.scripts;
  is = next-command t m.scripts command kept here ∙ ap (λ next. Some (call_of t next command m.scripts)) (sym behind);
  prints = prints;
  behind = refl;
  line = line place;
}

-- a task that has put the line of its next call, a Print, and goes on does that call
pub printed_as : {H : Hearing} {m n : Seen} {a b : H.Told} (t next : ℕ) → PutsPrint H t next m a b → n ≡ record m { scripts = goes_on t next m.scripts }
    → Follows H (task_step (Some t)) m n a b
unfolding does does_print
printed_as {H} {m} t next puts is = task_step_as t (Some puts.call) puts.is
    (follows_as {g = done t puts.call} (λ s e. ap (λ w. does_word w t puts.call s) puts.prints)
    (follows_done t puts.call (is ∙ ap (λ (k : ℕ). record m { scripts = goes_on t k m.scripts }) (sym puts.behind)) puts.line))
