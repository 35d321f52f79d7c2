-- Lemmas on below.
use Rattle.std.proofs.Common.{◌≡◌, ℕ, ◌<◌, ◌≤◌, None, arith}
use Rattle.std.proofs.lemmas.Bool.Decides.{nat_tests}
use Rattle.taskscript.specs.Numbers.{below_word}

pub not_below : (n m : ℕ) → 4294967295 < m → m ≤ n → None ≡ below_word n
not_below n m h le = grind (arith, nat_tests)
