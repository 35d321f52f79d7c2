-- How many ways tables count.
use Rattle.std.proofs.Common.{◌≡◌, ℕ, ◌+◌, ◌≤◌, Bool, true, false, cond, List, [], ◌∷◌, Some, if◌then◌else◌, ap, arith, bytes_eq}
use Rattle.std.specs.{Global.Vec, Map.lookup}
use Rattle.std.proofs.lemmas.Option.{none-some, same_Some}
use Rattle.ways.specs.Tables.{Entry, added, merged, total}
use Rattle.wayreport.specs.{Totals.entries_in, declared.total.Tally.Tally}

abbrev Entries : Type 0
Entries = List (Entry (List ℕ))

pub total-added : (t : Entries) (e : Entry (List ℕ)) → total (added t e) ≡ total t + e.count
total-added [] e = omega arith
total-added (x ∷ xs) e =
    let more = total-added xs e in
    elim (bytes_eq x.seen e.seen) as (λ b. total (if b then record { seen = x.seen; count = x.count + e.count; first = x.first } ∷ xs else x ∷ added xs e) ≡ total (x ∷ xs) + e.count)
    [ true ↦ omega arith | false ↦ omega (arith, more) ]

pub total-merged : (t es : Entries) → total (merged t es) ≡ total t + total es
total-merged t [] = omega arith
total-merged t (e ∷ es) = omega (arith, total-merged (added t e) es, total-added t e)

-- a tally counts no more ways than the table
pub found-le-total : (asks : Vec ℕ → Bool) (ps : List (Vec ℕ × Tally)) (v : Tally) → lookup asks ps ≡ Some v → v.count ≤ total (entries_in ps)
found-le-total asks [] v found = absurd (none-some v found)
found-le-total asks (p ∷ ps) v found =
    (elim (asks p.0) as (λ b. cond b (Some p.1) (lookup asks ps) ≡ Some v → v.count ≤ total (entries_in (p ∷ ps))) [
      | true ↦ λ h. let is : p.1 ≡ v = same_Some p.1 v h in omega (arith, ap (λ (t : Tally). t.count) is)
      | false ↦ λ h. let rest = found-le-total asks ps v h in omega (arith, rest)
    ]) found
