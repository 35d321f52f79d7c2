-- The proof of `add`: adds an outcome of later ways.
use Rattle.std.proofs.Common.{◌∙◌, ℕ, List, ap, arith, sym, refl, bytes_eq, string_bytes}
use Rattle.indexmap.specs.IndexMap.{IndexMap, insert_entry}
use Rattle.std.specs.Global.{Vec}
use Rattle.ways.specs.Tables.{Entry, added, total}
use Rattle.wayreport.specs.{Totals.entries_in, declared.total.Tally.Tally}
use Rattle.wayreport.proofs.{Adding.again, Adding.opened, Totalling.found-le-total}
use Rattle.wayreport.proofs.total.Total.add.Goals as goal

pub returns-in-Some-clause-ok : goal.returns-in-Some-clause-ok
returns-in-Some-clause-ok c =
    let count = c.args.one.now.count in
    let first = string_bytes c.args.one.now.first in
    let one : Entry (List ℕ) = record { seen = c.as_slice-text.result.now; count = count; first = first } in
    let w : Tally = record { count = c.in-Some-checked_add.count; first = c.in-Some.tally.now.first } in
    let more = ap (λ (n : ℕ). record { count = n; first = c.in-Some.tally.now.first }) c.in-Some-checked_add.ensures.1 in
    ap entries_in (c.get_mut.follows.holds w).0
    ∙ (again one c.self.inside.tallies.entries c.in-Some.tally.now w (sym c.in-Some.ensures.value) more
    ∙ (ap (λ t. added t one) c.self.view_is
    ∙ ap (λ (s : List ℕ). added c.args.self.now (record { seen = s; count = count; first = first })) c.as_slice-text.ensures.value))

pub returns-clause-ok : goal.returns-clause-ok
returns-clause-ok c =
    let count = c.args.one.now.count in
    let first = string_bytes c.args.one.now.first in
    let one : Entry (List ℕ) = record { seen = c.as_slice-text.result.now; count = count; first = first } in
    let tally : Tally = record { count = count; first = c.in_ok-first.first } in
    let before = c.self.inside.tallies.entries in
    ap entries_in c.in_ok-insert.ensures.entries
    ∙ (ap (λ (m : IndexMap (Vec ℕ) Tally _). entries_in (insert_entry (λ (a b : Vec ℕ). bytes_eq a.items b.items) m.entries c.in_ok-seen.seen tally)) c.get_mut.follows.holds-at-none
    ∙ (opened one before c.in_ok-seen.seen tally (sym c.in_default.ensures.value) c.in_ok-seen.ensures.items refl c.in_ok-first.ensures.cases
    ∙ (ap (λ t. added t one) c.self.view_is
    ∙ ap (λ (s : List ℕ). added c.args.self.now (record { seen = s; count = count; first = first })) c.as_slice-text.ensures.value)))

-- a sum of more than 64 bits is that of a count of the table and of the other
pub returns-in-None-clause-err : goal.returns-in-None-clause-err
returns-in-None-clause-err c = λ _.
    let least = found-le-total _ c.self.inside.tallies.entries c.in-Some.tally.now (sym c.in-Some.ensures.value) in
    omega (arith, least, ap total c.self.view_is, c.in-None.ensures)
