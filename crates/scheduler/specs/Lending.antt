-- What a schedule ends as, if a `&mut` into it is returned.
use Rattle.std.specs.Prelude.{ℕ, Option, None, Some}
use Rattle.std.specs.Borrow.{Lends, Fml, RattleType, MutBor}
use Rattle.execlist.specs.declared.space.ListSpace.{Ghosts}
use Rattle.signals.specs.{Signals.SignalSets, contracts.SigState.the_row as signals_row}
use Rattle.forbid.specs.{Nesting.Nesting, contracts.Nest.the_row as nesting_row}
use Rattle.scheduler.specs.{Schedule.Schedule, Schedule.with_signals, Schedule.with_nesting, contracts.Sched.the_row}

-- the running task with other signals
abbrev pub with_own_signals : Option ℕ → SignalSets → Schedule → Schedule
with_own_signals None sets s = s
with_own_signals (Some t) sets s = with_signals t sets s

-- the running task with another nesting
abbrev pub with_own_nesting : Option ℕ → Nesting → Schedule → Schedule
with_own_nesting None nesting s = s
with_own_nesting (Some t) nesting s = with_nesting t nesting s

module _ (S : RattleType) (space : Ghosts S.Denot) (s : MutBor Schedule) where
  -- once the borrow r ends, the running task has the signals that r shows last
  abbrev pub lends_signals : MutBor SignalSets → Fml
  lends_signals r = Lends (the_row S space) signals_row s r (λ sets. with_own_signals s.now.running sets s.now)

  -- once the borrow r ends, the running task has the nesting that r shows last
  abbrev pub lends_nesting : MutBor Nesting → Fml
  lends_nesting r = Lends (the_row S space) nesting_row s r (λ nesting. with_own_nesting s.now.running nesting s.now)
