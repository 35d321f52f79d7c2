-- What a command line asks for, or why it is refused.
use Rattle.std.specs.Prelude.{◌≡◌, ⊤, ℕ, Bool, false, ◌||◌, is_some}
use Rattle.logger.specs.{declared.command_line.Refusal.Refusal, declared.failure.Failure.Failure, declared.options.Options.Options, declared.options.View.View}
use Rattle.logger.specs.declared.options.View.TheVariants as view
use Rattle.logger.specs.declared.command_line.Refusal.TheVariants.{Words, Command}
use Rattle.logger.specs.declared.failure.Failure.TheVariants as failure

-- whether the first or the last step is named
abbrev pub selects : Options → Bool
selects options = is_some options.from || is_some options.to

-- whether only what is at a line or what one does is shown, or also the words that print nothing
abbrev pub picks : Options → Bool
picks options = (is_some options.at || is_some options.task) || options.plain_words

-- the options are such as the form takes: a state none of them, a picture only a first and a last step
abbrev pub GoesWith : View → Options → Type 0
GoesWith view.Rows options = ⊤
GoesWith view.Json options = ⊤
GoesWith view.Svg options = picks options ≡ false
GoesWith view.Chrome options = picks options ≡ false
GoesWith (view.State number) options = (selects options ≡ false) × (picks options ≡ false)

-- an option has a value that it does not take, or is together with what it does not go with
abbrev pub IsOfOption : Failure → Type 0
IsOfOption (failure.Option sentence) = ⊤
IsOfOption other = ⊥

-- The words are refused, or memory was. So a command line alone never ends with the status of a text.
abbrev pub IsOfWords : Refusal → Type 0
IsOfWords (Words error) = ⊤
IsOfWords (Command failure.NoMemory) = ⊤
IsOfWords (Command (failure.Option sentence)) = ⊤
IsOfWords (Command other) = ⊥
