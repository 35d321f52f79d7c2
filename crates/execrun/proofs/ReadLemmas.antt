-- What is reported of a text.
use Rattle.std.proofs.Common.{◌≡◌, ℕ, List, Option, None, Some, IfSome}
use Rattle.execrun.specs.Texts.{Opens}

-- what is reported of a text is what a reader has before it
pub read_whole : (told remaining : Option (List ℕ)) (bytes : List ℕ) → Opens told remaining → IfSome remaining (λ all. bytes ≡ all) → IfSome told (λ all. bytes ≡ all)
read_whole None remaining bytes opens read = tt
read_whole (Some all) remaining bytes opens read = rw opens at read
