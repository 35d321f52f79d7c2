-- The sum of the reports of all parts.
use Rattle.std.specs.Prelude.{◌≡◌, ℕ, zero, suc, nat_eq, if◌then◌else◌, Bool, false, All, List, [], ◌∷◌, length, map, Option, None, Some, sum_by, string_bytes}
use Rattle.ways.specs.Tables.{Entry, merged}
use Rattle.wayreport.specs.{Reports.found_view, declared.report.Part.Part, declared.report.Report.Report}

-- whether a report is of the part of this number
abbrev pub is_numbered : ℕ → Option Part → Bool
is_numbered number None = false
is_numbered number (Some part) = nat_eq part.number number

abbrev pub outcomes_of : Report → List (Entry (List ℕ))
outcomes_of r = map found_view r.found.items

-- the outcomes of the part of this number
abbrev pub outcomes_in : List Report → ℕ → List (Entry (List ℕ))
outcomes_in [] number = []
outcomes_in (r ∷ rs) number = if is_numbered number r.part then outcomes_of r else outcomes_in rs number

-- the outcomes of the parts up to this number, those of earlier parts first
abbrev pub summed : List Report → ℕ → List (Entry (List ℕ))
summed reports zero = []
summed reports (suc number) = merged (summed reports number) (outcomes_in reports (suc number))

-- the number of parts that a report reports of
abbrev pub parts_of : Option Part → ℕ
parts_of None = 0
parts_of (Some part) = part.of

-- a report is of one of that many parts of the same search as another
pub record IsPartOf (whole : Report) (parts : ℕ) (r : Report) : Type 0 where
  pub title : string_bytes r.title ≡ string_bytes whole.title
  pub all : r.all ≡ whole.all
  pub machine : string_bytes r.machine ≡ string_bytes whole.machine
  pub events : string_bytes r.events ≡ string_bytes whole.events
  pub see : string_bytes r.see ≡ string_bytes whole.see
  pub of : parts_of r.part ≡ parts

-- These reports, in any order, are those of all parts of a search, and this one is of the whole.
pub record IsSum (reports : List Report) (whole : Report) : Type 0 where
  pub each : All (IsPartOf whole (length reports)) reports
  pub whole_part : whole.part ≡ None
  pub outcomes : outcomes_of whole ≡ summed reports (length reports)
  pub alerts : whole.alerts ≡ sum_by (λ (r : Report). r.alerts) reports
