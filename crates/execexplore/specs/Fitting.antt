-- The part of a search that is reported if the outcomes of all its ways take more bytes than are kept.
use Rattle.std.specs.Prelude.{◌≡◌, ◌≤◌, ℕ, ◌*◌, ◌/◌, ◌-◌}
use Rattle.ways.specs.declared.visiting.Window.{Window}
use Rattle.execexplore.specs.declared.stretch.Stretch.{Stretch}

-- A part of all ways begins where a window does, and has at least one way and at most that many.
pub record IsFront (all : ℕ) (window : Window) (most : ℕ) (part : Stretch) : Type 0 where
  pub begins : all * (part.number - 1) / part.of ≡ window.skip
  pub some : 1 ≤ all * part.number / part.of - all * (part.number - 1) / part.of
  pub few : all * part.number / part.of - all * (part.number - 1) / part.of ≤ most
