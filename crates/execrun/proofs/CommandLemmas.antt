-- What two calls of `arg` make of a command, here and in the programs that take the same two paths.
use Rattle.std.proofs.Common.{◌≡◌, ◌<◌, ◌∙◌, Bool, ℕ, zero, suc, List, [], ◌∷◌, true, false, Option, refl, sym, ap, ap₂, subst, inl, inr, arith, slice_index, codes, is_some, All}
use Rattle.clap.specs.Words.{IsPlainArg, Text, app_of, args_of, first_of, first_value, found_of, App, IsParsedFrom, groups_of, is_simple, is_simple_and_free, matches_of, rule_of, with_rule, AddsArg, HasMatchesOf}
use Rattle.clap.specs.Built.{FitsChain, HasDistinctIds, TakesValue}
use Rattle.clap.specs.Words.{kind_of}
use Rattle.clap.specs.Kinds.{HasKind, IsAmong, Kinds}
use Rattle.clap.specs.declared.error.Error.{Error}
use Rattle.clap.specs.declared.error.kind.ErrorKind.{ErrorKind}
use Rattle.clap.specs.declared.builder.arg.Arg.{Arg}
use Rattle.clap.specs.declared.builder.command.Command.{Command}
use Rattle.clap.specs.declared.builder.command.Command.TheViews.{out-Command}
use Rattle.clap.specs.declared.parser.matches.ArgMatches.{ArgMatches}
use Rattle.clap.proofs.CallerLemmas.{required_in_chain}
use Rattle.clap.proofs.OnLiterals.{clap_on_literals}
use Rattle.clap.proofs.WalkLemmas.{first_value-rows}
use Rattle.execrun.specs.CommandLine.{IsNoAnswer, nameless_app, path_rule, paths_app, two_paths}

-- the argument of that name, which has to be given if it is required
pub record IsPath (name : Text) (required : Bool) (a : Arg) : Type 0 where
  pub id : a.id.now ≡ name
  pub rule : rule_of a ≡ path_rule name required
  pub plain : IsPlainArg a × (a.global ≡ false)
  pub value : required ≡ true → TakesValue a

abbrev pub IsMachine : Arg → Type 0
IsMachine = IsPath (codes "MACHINE") true

abbrev pub IsEvents : Bool → Arg → Type 0
IsEvents = IsPath (codes "EVENTS")

-- the command of a program with no argument yet, whose words begin with no name of it
pub record IsBare (program : Text) (c : Command) : Type 0 where
  pub app : app_of c ≡ nameless_app program
  pub args : args_of c ≡ []
  pub groups : groups_of c ≡ []
  pub globals : (out-Command c).has_globals ≡ false
  pub negates : (out-Command c).subcommand_negates_reqs ≡ false

-- a command of a program that takes both paths, the second if it has to be given
pub record TakesBoth (program : Text) (required : Bool) (c : Command) : Type 0 where
  pub app : app_of c ≡ paths_app program required
  pub machine : (m : ArgMatches) → IsParsedFrom c m → is_some (first_value (found_of m) (codes "MACHINE")) ≡ true
  pub events : required ≡ true → (m : ArgMatches) → IsParsedFrom c m → is_some (first_value (found_of m) (codes "EVENTS")) ≡ true

fits : (name : Text) (required : Bool) (a : Arg) (n : ℕ) → IsPath name required a → slice_index name 0 ≡ n → 0 < n → n < 104 → FitsChain a
fits name required a n p is least most =
    let first : (t : Text) → a.id.now ≡ t → slice_index t 0 ≡ n = λ t e. rw (← e, p.id) is in (
      p.plain.0,
      p.plain.1,
      (λ e. let bad : 0 ≡ n = first [] e in absurd (omega arith)),
      (λ auto. elim auto [
        | inl h ↦ let bad : 104 ≡ n = first _ h in absurd (omega arith)
        | inr h ↦ let bad : 118 ≡ n = first _ h in absurd (omega arith)
      ]),
    )

all_fit : (a b : Arg) → FitsChain a → FitsChain b → All FitsChain (a ∷ b ∷ [])
all_fit a b fa fb zero d lt = fa
all_fit a b fa fb (suc zero) d lt = fb
all_fit a b fa fb (suc (suc k)) d lt = absurd (omega arith)

distinct : {required : Bool} (a b : Arg) → IsMachine a → IsEvents required b → HasDistinctIds (a ∷ b ∷ [])
distinct a b p q zero zero d e lt lt' same = refl
distinct a b p q (suc zero) (suc zero) d e lt lt' same = refl
distinct a b p q zero (suc zero) d e lt lt' same =
    let bad : false ≡ true = rw (p.id, q.id) at same in
    cc
distinct a b p q (suc zero) zero d e lt lt' same =
    let bad : false ≡ true = rw (p.id, q.id) at same in
    cc
distinct a b p q (suc (suc j)) k d e lt lt' same = absurd (omega arith)
distinct a b p q j (suc (suc k)) d e lt lt' same = absurd (omega arith)

pub takes_both : (program : Text) (required : Bool) (start mid cmd : Command) (a b : Arg) → IsBare program start → IsMachine a → IsEvents required b
    → AddsArg start a mid → AddsArg mid b cmd → TakesBoth program required cmd
takes_both program required start mid cmd a b bare p q first second =
    let all = all_fit a b (fits _ _ a 77 p refl (omega arith) (omega arith)) (fits _ _ b 69 q refl (omega arith) (omega arith)) in
    record {
      app = second.shape q.plain.1 ∙ ap₂ with_rule (first.shape p.plain.1 ∙ ap₂ with_rule bare.app p.rule) q.rule;
      machine = λ m parsed. subst (λ (id : Text). is_some (first_value (found_of m) id) ≡ true) p.id
          (required_in_chain start cmd (a ∷ b ∷ []) 0 a m (mid, first, (cmd, second, refl)) bare.args bare.groups bare.globals bare.negates
          all (distinct a b p q) (omega arith) (p.value refl) parsed);
      events = λ given m parsed. subst (λ (id : Text). is_some (first_value (found_of m) id) ≡ true) q.id
          (required_in_chain start cmd (a ∷ b ∷ []) 1 b m (mid, first, (cmd, second, refl)) bare.args bare.groups bare.globals bare.negates
          all (distinct a b p q) (omega arith) (q.value given) parsed);
    }

-- clap's own account of a parse holds of this command
pub is_simple_here : is_simple two_paths ≡ true
unfolding clap_on_literals
is_simple_here = refl

pub is_simple_and_free_here : is_simple_and_free two_paths ≡ true
unfolding clap_on_literals
is_simple_and_free_here = refl

-- the value of a name is the one that the words give it
pub given_value : (app : App) → is_simple app ≡ true → (cmd : Command) (m : ArgMatches) (words : List Text) (name : Text) (value : Option Text) → app_of cmd ≡ app
    → HasMatchesOf (app_of cmd) words m → value ≡ first_value (found_of m) name → first_of name (matches_of app words) ≡ value
given_value app simple cmd m words name value is matches same =
    sym (ap (λ a. first_of name (matches_of a words)) is)
    ∙ (sym (ap (first_of name) (matches (ap is_simple is ∙ simple)).0) ∙ (sym (first_value-rows (found_of m) name) ∙ sym same))

-- an error of the same kind is one of the same kinds
pub fails_as_shown : (kinds : Kinds) (error shown : Error) → HasKind kinds error → kind_of shown ≡ kind_of error → HasKind kinds shown
fails_as_shown kinds error shown (inl memory) same = inl (same ∙ memory)
fails_as_shown kinds error shown (inr among) same = inr (subst (λ (k : ErrorKind). IsAmong k kinds) (sym same) among)

-- if the words are right, an error says that memory was refused
pub no_answer_if_right : (kinds : Kinds) (error : Error) → kinds ≡ [] → HasKind kinds error → IsNoAnswer error
no_answer_if_right kinds error none (inl memory) = record {
  no_help = λ help. let bad = sym memory ∙ help in cc;
  no_version = λ version. let bad = sym memory ∙ version in cc;
}
no_answer_if_right kinds error none (inr among) = absurd (subst (IsAmong (kind_of error)) none among)
