-- How listeners of one kind hear.
use Rattle.std.specs.Prelude.{◌≡◌, Bool, true, false, List, [], ◌++◌}
use Rattle.exectrace.specs.Trace.{TraceLine}

pub record Hearing : Type 1 where
  -- what is known of a listener
  pub Told : Type 0
  -- whether it still listens
  pub good : Told → Bool
  -- from one to the other it heard exactly these, or it listens no more since some of them
  pub hears : Told → Told → List TraceLine → Type 0
  -- nothing was said
  pub none : (a : Told) → hears a a []
  -- one thing after another
  pub both : (a b c : Told) (xs ys : List TraceLine) → hears a b xs → hears b c ys → hears a c (xs ++ ys)
  -- one that listens no more stays as it is, whatever is said
  pub deaf : (a b : Told) (xs : List TraceLine) → good a ≡ false → hears a b xs → b ≡ a
  pub ignores : (a : Told) (xs : List TraceLine) → good a ≡ false → hears a a xs
