-- The proof of `note`: notes what is seen of one more way.
use Rattle.std.proofs.Common.{◌∙◌, ℕ, ap, sym, refl, bytes_eq}
use Rattle.indexmap.specs.IndexMap.{IndexMap, insert_entry}
use Rattle.std.specs.Global.{Vec}
use Rattle.ways.specs.{Entries.entries_in, Tables.noted, declared.table.Tally.Tally}
use Rattle.ways.proofs.Maps.{again, opened}
use Rattle.ways.proofs.table.Table.note.Goals as goal

pub returns-in-Some : goal.returns-in-Some
returns-in-Some c =
    let w : Tally = record { count = c.in-Some-checked_add.count; first = c.in-Some.tally.now.first } in
    let more = ap (λ (n : ℕ). record { count = n; first = c.in-Some.tally.now.first }) c.in-Some-checked_add.ensures.1 in
    ap entries_in (c.get_mut.follows.holds w).0
    ∙ (again c.args.text.now c.args.way.now c.self.inside.tallies.entries c.in-Some.tally.now w (sym c.in-Some.ensures.value) more
    ∙ ap (λ t. noted t c.args.text.now c.args.way.now) c.self.view_is)

pub returns : goal.returns
returns c =
    let tally : Tally = record { count = 1; first = c.in_ok-first.first } in
    let before = c.self.inside.tallies.entries in
    ap entries_in c.in_ok-insert.ensures.entries
    ∙ (ap (λ (m : IndexMap (Vec ℕ) Tally _). entries_in (insert_entry (λ (a b : Vec ℕ). bytes_eq a.items b.items) m.entries c.in_ok-seen.seen tally)) c.get_mut.follows.holds-at-none
    ∙ (opened c.args.text.now c.args.way.now before c.in_ok-seen.seen tally (sym c.in_default.ensures.value) c.in_ok-seen.ensures refl c.in_ok-first.ensures
    ∙ ap (λ t. noted t c.args.text.now c.args.way.now) c.self.view_is))
