-- The proof of `searched`: makes a search of some ways, and answers what is printed.
use Rattle.std.proofs.Common.{◌≡◌, ◌∙◌, ℕ, List, [], ap, ap₂, length, sym}
use Rattle.std.specs.Global.{Vec}
use Rattle.std.proofs.lemmas.{List.length-map, Option.none-some}
use Rattle.script.specs.declared.event.Event.{Event}
use Rattle.ways.specs.{Ways.part_of, Ways.ways, Tables.Entry, Tables.number_where, Tables.table_of, Entries.entries_of, Entries.entry_of}
use Rattle.wayrun.specs.Seen.{is_alerted, seen_of}
use Rattle.wayreport.specs.Reports.{text_of}
use Rattle.execexplore.specs.{Answering.is_mixed, Reporting.report_with}
use Rattle.execexplore.proofs.whole.searched.Goals.{in-None+in_ok-text-in-None, in-Some+in_ok-text-in-Some}
use Rattle.execexplore.proofs.whole.searched.Goals as goal

pub returns-clause-text : goal.returns-clause-text
returns-clause-text g c = λ none.
    let f = c.args.frame.now in
    let win = c.args.window in
    let see = c.args.options.now.see in
    let same = ap₂ (λ (ks acts : List Event). part_of win.skip win.left (ways ks f.sizes.most acts)) c.deref.ensures.value c.deref-2.ensures.value in
    let alerts = c.alerts-alerts.ensures ∙ (c.in_ok-found.ensures.alerts ∙ ap (λ (ws : List (List Event)). number_where (is_alerted f.file) ws) same) in
    let table = c.in_ok-outcomes.ensures ∙ (c.in_ok-found.ensures.table ∙ ap (λ (ws : List (List Event)). table_of (seen_of see f.file) [] ws) same) in
    elim c.match-options.branch [
      | in-None+in_ok-text-in-None w ↦
          ap (λ (v : Vec ℕ). v.items) w.text-is
          ∙ (w.in_ok-text-in-None.ensures
          ∙ ap₂ (λ (n : ℕ) (es : List (Entry (List Event))). text_of (report_with c.args.names see c.args.options.now.part f win n es)) alerts (ap entries_of w.deref-in-None.ensures.value ∙ table))
      | in-Some+in_ok-text-in-Some w ↦ absurd (none-some _ (sym none ∙ w.in-Some.is))
    ]

pub returns-clause-mixed : goal.returns-clause-mixed
returns-clause-mixed g c =
    let f = c.args.frame.now in
    let win = c.args.window in
    let see = c.args.options.now.see in
    let same = ap₂ (λ (ks acts : List Event). part_of win.skip win.left (ways ks f.sizes.most acts)) c.deref.ensures.value c.deref-2.ensures.value in
    let alerts = c.alerts-alerts.ensures ∙ (c.in_ok-found.ensures.alerts ∙ ap (λ (ws : List (List Event)). number_where (is_alerted f.file) ws) same) in
    let table = c.in_ok-outcomes.ensures ∙ (c.in_ok-found.ensures.table ∙ ap (λ (ws : List (List Event)). table_of (seen_of see f.file) [] ws) same) in
    c.is_mixed-mixed.ensures ∙ ap₂ is_mixed (ap length c.deref-3.ensures.value ∙ (sym (length-map c.in_ok-outcomes.outcomes.items entry_of) ∙ ap length table)) alerts
