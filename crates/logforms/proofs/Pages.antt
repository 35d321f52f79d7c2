-- What was added to a page.
use Rattle.std.proofs.Common.{◌≡◌, ℕ, List, ◌++◌}
use Rattle.std.specs.Prelude.{⊤}
use Rattle.execlog.specs.Log.{Gains}

-- any bytes show an entry
pub gains_any : {before after : List ℕ} (bytes : List ℕ) → after ≡ before ++ bytes → Gains (λ (b : List ℕ). ⊤) before after
gains_any {before} {after} bytes added = record { bytes = bytes; shows = tt; added = added }
