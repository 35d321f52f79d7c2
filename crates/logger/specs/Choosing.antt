-- What the options choose of a run.
use Rattle.std.specs.Prelude.{◌≡◌, ◌≤◌, ◌<◌, ⊤, ℕ, Option, None, Some, is_some, unwrap_or}
use Rattle.logger.specs.{declared.choice.Choice.Choice, declared.options.Options.Options}

-- the run, whose last step has this number, has the step that an option names, if it names one
abbrev pub IsWithin : Option ℕ → (last : ℕ) → Type 0
IsWithin None last = ⊤
IsWithin (Some number) last = number ≤ last

-- the option names a step, and the run ends before it
abbrev pub IsPast : Option ℕ → (last : ℕ) → Type 0
IsPast None last = ⊥
IsPast (Some number) last = last < number

-- The run has the steps that the options name, in that order, and these are chosen, or its first and its last one; and
-- a line and a name are chosen if they are given.
pub record Chooses (options : Options) (last : ℕ) (choice : Choice) : Type 0 where
  pub has_from : IsWithin options.from last
  pub has_to : IsWithin options.to last
  pub order : choice.filter.from ≤ choice.last
  pub from : choice.filter.from ≡ unwrap_or options.from 0
  pub to : choice.last ≡ unwrap_or options.to last
  pub at : choice.filter.at ≡ options.at
  pub by : is_some choice.filter.by ≡ is_some options.task
