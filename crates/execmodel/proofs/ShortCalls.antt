-- A call has the arguments of its word, and they are short, if its command has them, of which at most one is a name.
use Rattle.std.proofs.Common.{◌≡◌, ℕ, ◌+◌, ◌*◌, ◌≤◌, lit≤, true, List, [], ◌∷◌, length, map, refl, sym, subst, length-append, arith, if◌then◌else◌, count_by, nat_le, flat_map, leb-true}
use Rattle.std.proofs.lemmas.{Bool.and_parts, List.Sums.sum_by-cons}
use Rattle.exectrace.specs.Trace.{Argument, Quoted, argument_text}
use Rattle.script.specs.declared.variable.Variable.TheVariants.{Private, Shared}
use Rattle.script.specs.{declared.word.row.Kind.Kind, declared.variable.Variable.Variable, Commands.ArgumentData, Commands.number, Commands.variable, Commands.quoted, Commands.place, Commands.CommandData, Machines.IsOfKind, Machines.AreOfKinds, Machines.HasItsArguments, Machines.QuotesOnce, Machines.is_quoted, Names.is_name, Words.kinds, WordTable.few_kinds}
use Rattle.script.specs.declared.word.row.Kind.TheVariants as kind
use Rattle.execmodel.specs.{State.Call, State.Scripts, Calls.evaluated, Calls.evaluated_in_body, Calls.call_of, Calls.call_in_body, Laws.FitsKind, Laws.FitKinds, Laws.FitsItsWord}
use Rattle.execmodel.proofs.ShortLines.{IsShortText, AreShort}

-- a command has its word's arguments, of which at most one is a name
pub record IsBrief (command : CommandData) : Type 0 where
  pub arguments : HasItsArguments command
  pub names : QuotesOnce command

-- a name of a file is a short text
pub name_is_short : (name : List ℕ) → is_name name ≡ true → IsShortText name
name_is_short name is = leb-true (length name) 31 (and_parts (nat_le 1 (length name)) _ (and_parts _ _ is).0).1

name_at_kind : (k : Kind) (name : List ℕ) → IsOfKind k (quoted name) → IsShortText name
name_at_kind kind.Value name is = absurd is
name_at_kind kind.Label name is = absurd is
name_at_kind kind.Name name is = name_is_short name is
name_at_kind kind.NameOrNone name is = name_is_short name is
name_at_kind kind.Softint name is = name_is_short name is

-- ---- the values of arguments

-- how arguments get their values: a name stays itself, and any other argument becomes a word
record Evaluates (value : ArgumentData → Argument) : Type 0 where
  pub numbers : (n : ℕ) → length (argument_text (value (number n))) ≤ 10
  pub variables : (v : Variable) → length (argument_text (value (variable v))) ≤ 10
  pub places : (k : ℕ) → length (argument_text (value (place k))) ≤ 10
  pub names : (name : List ℕ) → value (quoted name) ≡ Quoted name

-- the bytes that an argument takes beyond those of a value
abbrev beyond : ArgumentData → ℕ
beyond a = if is_quoted a then 1 else 0

quoted_bytes : (name : List ℕ) → IsShortText name → length (argument_text (Quoted name)) ≤ 34
quoted_bytes name short = let whole = length-append name (34 ∷ []) in omega (arith, whole, short)

module _ (value : ArgumentData → Argument) (evaluates : Evaluates value) where
  one_short : (k : Kind) (a : ArgumentData) → IsOfKind k a → length (argument_text (value a)) ≤ 10 + 24 * beyond a
  one_short k (number n) is = evaluates.numbers n
  one_short k (variable v) is = evaluates.variables v
  one_short k (place p) is = evaluates.places p
  one_short k (quoted name) is =
      subst (λ a. length (argument_text a) ≤ 34) (sym (evaluates.names name)) (quoted_bytes name (name_at_kind k name is))

  all_short : (ks : List Kind) (args : List ArgumentData) → AreOfKinds ks args
      → length (flat_map argument_text (map value args)) ≤ 10 * length ks + 24 * count_by is_quoted args
  all_short [] [] are = lit≤ tt
  all_short [] (a ∷ args) are = absurd are
  all_short (k ∷ ks) [] are = absurd are
  all_short (k ∷ ks) (a ∷ args) are =
      let here = one_short k a are.0 in
      let there = all_short ks args are.1 in
      let bytes = length-append (argument_text (value a)) (flat_map argument_text (map value args)) in
      let count = sum_by-cons beyond a args in
      omega (arith, here, there, bytes, count)

  command_short : (command : CommandData) → IsBrief command → AreShort (map value command.arguments)
  command_short command brief =
      let all = all_short (kinds command.word) command.arguments brief.arguments in
      let few = few_kinds command.word in
      let once = brief.names in
      omega (arith, all, few, once)

-- ---- by a task, and in a body

evaluates_for : (t : ℕ) (scripts : Scripts) → Evaluates (evaluated t scripts)
evaluates_for t scripts =
    record { numbers = λ n. lit≤ tt; variables = λ v. lit≤ tt; places = λ k. lit≤ tt; names = λ name. refl }

variable_in_body : (scripts : Scripts) (v : Variable) → length (argument_text (evaluated_in_body scripts (variable v))) ≤ 10
variable_in_body scripts (Private k) = lit≤ tt
variable_in_body scripts (Shared k) = lit≤ tt

evaluates_in_body : (scripts : Scripts) → Evaluates (evaluated_in_body scripts)
evaluates_in_body scripts =
    record { numbers = λ n. lit≤ tt; variables = variable_in_body scripts; places = λ k. lit≤ tt; names = λ name. refl }

-- ---- the kinds of arguments

fits_for : (t : ℕ) (scripts : Scripts) (k : Kind) (a : ArgumentData) → IsOfKind k a → FitsKind k (evaluated t scripts a)
fits_for t scripts kind.Value (number n) is = tt
fits_for t scripts kind.Value (variable v) is = tt
fits_for t scripts kind.Value (quoted name) is = absurd is
fits_for t scripts kind.Value (place p) is = absurd is
fits_for t scripts kind.Label (number n) is = absurd is
fits_for t scripts kind.Label (variable v) is = absurd is
fits_for t scripts kind.Label (quoted name) is = absurd is
fits_for t scripts kind.Label (place p) is = tt
fits_for t scripts kind.Name (number n) is = absurd is
fits_for t scripts kind.Name (variable v) is = absurd is
fits_for t scripts kind.Name (quoted name) is = tt
fits_for t scripts kind.Name (place p) is = absurd is
fits_for t scripts kind.NameOrNone (number n) is = tt
fits_for t scripts kind.NameOrNone (variable v) is = tt
fits_for t scripts kind.NameOrNone (quoted name) is = tt
fits_for t scripts kind.NameOrNone (place p) is = tt
fits_for t scripts kind.Softint (number n) is = absurd is
fits_for t scripts kind.Softint (variable v) is = absurd is
fits_for t scripts kind.Softint (quoted name) is = tt
fits_for t scripts kind.Softint (place p) is = absurd is

fits_in_body : (scripts : Scripts) (k : Kind) (a : ArgumentData) → IsOfKind k a → FitsKind k (evaluated_in_body scripts a)
fits_in_body scripts kind.Value (number n) is = tt
fits_in_body scripts kind.Value (variable (Private p)) is = tt
fits_in_body scripts kind.Value (variable (Shared p)) is = tt
fits_in_body scripts kind.Value (quoted name) is = absurd is
fits_in_body scripts kind.Value (place p) is = absurd is
fits_in_body scripts kind.Label (number n) is = absurd is
fits_in_body scripts kind.Label (variable v) is = absurd is
fits_in_body scripts kind.Label (quoted name) is = absurd is
fits_in_body scripts kind.Label (place p) is = tt
fits_in_body scripts kind.Name (number n) is = absurd is
fits_in_body scripts kind.Name (variable v) is = absurd is
fits_in_body scripts kind.Name (quoted name) is = tt
fits_in_body scripts kind.Name (place p) is = absurd is
fits_in_body scripts kind.NameOrNone (number n) is = tt
fits_in_body scripts kind.NameOrNone (variable v) is = tt
fits_in_body scripts kind.NameOrNone (quoted name) is = tt
fits_in_body scripts kind.NameOrNone (place p) is = tt
fits_in_body scripts kind.Softint (number n) is = absurd is
fits_in_body scripts kind.Softint (variable v) is = absurd is
fits_in_body scripts kind.Softint (quoted name) is = tt
fits_in_body scripts kind.Softint (place p) is = absurd is

all_fit : (value : ArgumentData → Argument) → ((k : Kind) (a : ArgumentData) → IsOfKind k a → FitsKind k (value a))
    → (ks : List Kind) (args : List ArgumentData) → AreOfKinds ks args → FitKinds ks (map value args)
all_fit value fits [] [] are = tt
all_fit value fits [] (a ∷ args) are = absurd are
all_fit value fits (k ∷ ks) [] are = absurd are
all_fit value fits (k ∷ ks) (a ∷ args) are = (fits k a are.0, all_fit value fits ks args are.1)

-- a call has the arguments of its word, and they are short
pub record HasArguments (call : Call) : Type 0 where
  pub short : AreShort call.arguments
  pub fit : FitsItsWord call

pub task_call_has : (t next : ℕ) (scripts : Scripts) (command : CommandData) → IsBrief command
    → HasArguments (call_of t next command scripts)
unfolding call_of
task_call_has t next scripts command brief = record {
  short = command_short (evaluated t scripts) (evaluates_for t scripts) command brief;
  fit = all_fit (evaluated t scripts) (fits_for t scripts) (kinds command.word) command.arguments brief.arguments;
}

pub body_call_has : (scripts : Scripts) (command : CommandData) → IsBrief command → HasArguments (call_in_body command scripts)
body_call_has scripts command brief = record {
  short = command_short (evaluated_in_body scripts) (evaluates_in_body scripts) command brief;
  fit = all_fit (evaluated_in_body scripts) (fits_in_body scripts) (kinds command.word) command.arguments brief.arguments;
}
