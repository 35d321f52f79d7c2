-- How one hears of whom nothing is promised.
use Rattle.std.specs.Prelude.{true}
use Rattle.std.proofs.Common.{refl}
use Rattle.exectrace.specs.Hearing.{Hearing}

-- nothing is said of what it makes of what it hears, and it always listens
abbrev pub hearing_all : Hearing
hearing_all = record {
  Told = Unit {0};
  good = λ t. true;
  hears = λ a b lines. Unit {0};
  none = λ a. tt;
  both = λ a b c xs ys p q. tt;
  deaf = λ a b xs bad p. refl;
  ignores = λ a xs bad. tt;
}
