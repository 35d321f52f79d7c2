-- What holds of the numbers of each report that a search makes.
use Rattle.std.specs.Prelude.{◌≡◌, ◌≤◌, ℕ, All, List, []}
use Rattle.ways.specs.Tables.{Entry, merged, total}
use Rattle.wayreport.specs.{Parts.IsWindow, Parts.ways_of, Reports.ReportData}

-- The part is one of all ways, each of its ways is counted once, and no outcome is there without a way, or twice.
pub record IsRight (r : ReportData) : Type 0 where
  pub window : IsWindow r.part r.all
  pub counts : total r.entries ≡ ways_of r.part r.all
  pub alerts : r.alerts ≤ ways_of r.part r.all
  pub some : All (λ (e : Entry (List ℕ)). 1 ≤ e.count) r.entries
  pub distinct : merged [] r.entries ≡ r.entries
