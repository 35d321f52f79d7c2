-- The lines before the outcomes, taken apart.
use Rattle.std.proofs.Common.{◌≡◌, ◌∙◌, ℕ, ◌<◌, ◌^◌, Bool, true, false, List, ◌++◌, length, codes, decimal, ap, sym, refl, arith, append_assoc, Some, None, Option, IfSome, MatchBool}
use Rattle.std.specs.{List.starts_with, Option.is_some, Str.Pattern.FindsTextPrefix, Str.Pattern.HasPrefixMatch}
use lib.Dec.{eqb}
use Rattle.std.proofs.lemmas.Str.Pattern.{starts_text}
use Rattle.ways.specs.Tables.{Entry}
use Rattle.wayreport.specs.Reports.{ReportData, digest_lines, head_text, outcomes_text, part_text, program_line, seen_lines, title_line, ways_text}
use Rattle.wayreport.specs.{Written.IsOneLine, Written.IsWrittenPart, declared.report.Part.Part, declared.text.TheConstants.VERSION}
use Rattle.wayreport.proofs.{Cutting.lacks-append, Wording.feed_other, Wording.lacks-decimal, Wording.lacks-ways, Wording.lacks-outcomes}

-- ---- the first line

abbrev pub title_of : ReportData → List ℕ
title_of r = r.title ++ (codes ": " ++ (ways_text r.all ++ (codes ", " ++ outcomes_text (length r.entries))))

ended_title : (r : ReportData) → title_line (length r.entries) r ≡ title_of r ++ codes "\n"
ended_title r = sym (append_assoc r.title (codes ": " ++ (ways_text r.all ++ (codes ", " ++ outcomes_text (length r.entries)))) (codes "\n")
    ∙ ap (λ t. r.title ++ (codes ": " ++ t)) (append_assoc (ways_text r.all) (codes ", " ++ outcomes_text (length r.entries)) (codes "\n")))

pub one_title : (r : ReportData) → IsOneLine r.title → r.all < 2 ^ 64 → length r.entries < 2 ^ 64 → IsOneLine (title_of r)
one_title r title all few =
    lacks-append 10 r.title (codes ": " ++ (ways_text r.all ++ (codes ", " ++ outcomes_text (length r.entries)))) title
    (lacks-append 10 (ways_text r.all) (codes ", " ++ outcomes_text (length r.entries)) (lacks-ways 10 feed_other refl refl r.all all)
    (lacks-outcomes 10 feed_other refl refl (length r.entries) few))

-- ---- the line of a part

abbrev pub part_of : Part → List ℕ
part_of part = codes "part " ++ (decimal part.number ++ (codes " of " ++ (decimal part.of ++ (codes ": " ++ ways_text part.ways))))

pub ended_part : (part : Part) (later : List ℕ) → part_text (Some part) ++ later ≡ part_of part ++ (codes "\n" ++ later)
ended_part part later =
    sym (ap (λ t. t ++ later) (ap (λ t. codes "part " ++ t) (append_assoc (decimal part.number) (codes " of " ++ (decimal part.of ++ (codes ": " ++ ways_text part.ways))) (codes "\n")
    ∙ ap (λ t. decimal part.number ++ (codes " of " ++ t)) (append_assoc (decimal part.of) (codes ": " ++ ways_text part.ways) (codes "\n")))))
    ∙ append_assoc (part_of part) (codes "\n") later

pub one_part : (part : Part) → IsWrittenPart part → IsOneLine (part_of part)
one_part part fits =
    let number : part.number < 2 ^ 64 = omega (arith, fits.number) in
    let of : part.of < 2 ^ 64 = omega (arith, fits.of) in
    lacks-append 10 (decimal part.number) (codes " of " ++ (decimal part.of ++ (codes ": " ++ ways_text part.ways))) (lacks-decimal 10 feed_other part.number number)
    (lacks-append 10 (decimal part.of) (codes ": " ++ ways_text part.ways) (lacks-decimal 10 feed_other part.of of)
    (lacks-ways 10 feed_other refl refl part.ways fits.ways))

-- ---- the lines after that of the program

abbrev pub after_program : ReportData → List ℕ → List ℕ
after_program r later = digest_lines r ++ (seen_lines r ++ later)

abbrev pub after_machine : ReportData → List ℕ → List ℕ
after_machine r later = codes "event text: SHA-256 " ++ (r.events ++ (codes "\n" ++ (seen_lines r ++ later)))

abbrev pub after_see : ReportData → List ℕ → List ℕ
after_see r later = codes "ways that end in an alert: " ++ (decimal r.alerts ++ (codes "\n" ++ later))

pub digests_apart : (r : ReportData) (later : List ℕ) → after_program r later ≡ codes "machine file: SHA-256 " ++ (r.machine ++ (codes "\n" ++ after_machine r later))
digests_apart r later = ap (λ t. codes "machine file: SHA-256 " ++ t)
    (append_assoc r.machine (codes "\nevent text: SHA-256 " ++ (r.events ++ codes "\n")) (seen_lines r ++ later)
    ∙ ap (λ t. r.machine ++ (codes "\nevent text: SHA-256 " ++ t)) (append_assoc r.events (codes "\n") (seen_lines r ++ later)))

pub seen_apart : (r : ReportData) (later : List ℕ) → seen_lines r ++ later ≡ codes "seen of a way: " ++ (r.see ++ (codes "\n" ++ after_see r later))
seen_apart r later = ap (λ t. codes "seen of a way: " ++ t)
    (append_assoc r.see (codes "\nways that end in an alert: " ++ (decimal r.alerts ++ codes "\n")) later
    ∙ ap (λ t. r.see ++ (codes "\nways that end in an alert: " ++ t)) (append_assoc (decimal r.alerts) (codes "\n") later))

-- ---- all of them

grouped_right : (a b c d e f : List ℕ) → ((((a ++ b) ++ c) ++ d) ++ e) ++ f ≡ a ++ (b ++ (c ++ (d ++ (e ++ f))))
grouped_right a b c d e f =
    append_assoc (((a ++ b) ++ c) ++ d) e f ∙ (append_assoc ((a ++ b) ++ c) d (e ++ f) ∙ (append_assoc (a ++ b) c (d ++ (e ++ f)) ∙ append_assoc a b (c ++ (d ++ (e ++ f)))))

abbrev pub after_title : ReportData → List ℕ → List ℕ
after_title r later = part_text r.part ++ (program_line ++ after_program r later)

pub head_apart : (r : ReportData) (later : List ℕ) → head_text (length r.entries) r ++ later ≡ title_of r ++ (codes "\n" ++ after_title r later)
head_apart r later =
    grouped_right (title_line (length r.entries) r) (part_text r.part) program_line (digest_lines r) (seen_lines r) later
    ∙ (ap (λ t. t ++ after_title r later) (ended_title r) ∙ append_assoc (title_of r) (codes "\n") (after_title r later))

-- ---- the line of a part, or that of the program

abbrev pub next_of : Option Part → List ℕ
next_of None = codes "program: execexplore " ++ VERSION.now
next_of (Some part) = part_of part

abbrev pub after_next : Option Part → List ℕ → List ℕ
after_next None later = later
after_next (Some part) later = program_line ++ later

pub one_next : (part : Option Part) → IfSome part IsWrittenPart → IsOneLine (next_of part)
one_next None fits = refl
one_next (Some part) fits = one_part part fits

pub next_apart : (part : Option Part) (later : List ℕ) → part_text part ++ (program_line ++ later) ≡ next_of part ++ (codes "\n" ++ after_next part later)
next_apart None later = refl
next_apart (Some part) later = ended_part part (program_line ++ later)

begins : (part : Option Part) → starts_with eqb (next_of part) (codes "part ") ≡ is_some part
begins None = refl
begins (Some part) = refl

pub tested : (part : Option Part) (line : List ℕ) (r b : Bool) → MatchBool r (HasPrefixMatch (FindsTextPrefix (codes "part ")) line) (FindsTextPrefix (codes "part ") line None)
    → line ≡ next_of part → r ≡ b → is_some part ≡ b
tested part line r b cases is so =
    sym (begins part) ∙ (sym (ap (λ t. starts_with eqb t (codes "part ")) is) ∙ (sym (starts_text r (codes "part ") line cases) ∙ so))

pub record Given (part : Option Part) : Type 0 where
  pub one : Part
  pub is : part ≡ Some one
  pub fits : IsWrittenPart one

pub as_given : (part : Option Part) → IfSome part IsWrittenPart → is_some part ≡ true → Given part
as_given None fits h = absurd cc
as_given (Some part) fits h = record { one = part; is = refl; fits = fits }

pub as_none : (part : Option Part) → is_some part ≡ false → None ≡ part
as_none None h = refl
as_none (Some part) h = absurd cc

-- ---- a report is its parts

pub same_report : (r : ReportData) (title machine events see : List ℕ) (all alerts : ℕ) (part : Option Part) (entries : List (Entry (List ℕ)))
    → title ≡ r.title → all ≡ r.all → part ≡ r.part → machine ≡ r.machine → events ≡ r.events → see ≡ r.see → alerts ≡ r.alerts → entries ≡ r.entries
    → record { title = title; all = all; machine = machine; events = events; see = see; part = part; alerts = alerts; entries = entries } ≡ r
same_report r title machine events see all alerts part entries t a p m e s l es =
    ap (λ (x : List ℕ). record { title = x; all = all; machine = machine; events = events; see = see; part = part; alerts = alerts; entries = entries }) t
    ∙ (ap (λ (x : ℕ). record { title = r.title; all = x; machine = machine; events = events; see = see; part = part; alerts = alerts; entries = entries }) a
    ∙ (ap (λ (x : List ℕ). record { title = r.title; all = r.all; machine = x; events = events; see = see; part = part; alerts = alerts; entries = entries }) m
    ∙ (ap (λ (x : List ℕ). record { title = r.title; all = r.all; machine = r.machine; events = x; see = see; part = part; alerts = alerts; entries = entries }) e
    ∙ (ap (λ (x : List ℕ). record { title = r.title; all = r.all; machine = r.machine; events = r.events; see = x; part = part; alerts = alerts; entries = entries }) s
    ∙ (ap (λ (x : Option Part). record { title = r.title; all = r.all; machine = r.machine; events = r.events; see = r.see; part = x; alerts = alerts; entries = entries }) p
    ∙ (ap (λ (x : ℕ). record { title = r.title; all = r.all; machine = r.machine; events = r.events; see = r.see; part = r.part; alerts = x; entries = entries }) l
    ∙ ap (λ (x : List (Entry (List ℕ))). record { title = r.title; all = r.all; machine = r.machine; events = r.events; see = r.see; part = r.part; alerts = r.alerts; entries = x }) es))))))
