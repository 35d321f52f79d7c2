-- The row is shown.
use Rattle.std.proofs.Common.{ap, refl, true, List, ℕ, ◌++◌, ◌∙◌, string_bytes}
use Rattle.execlog.proofs.{Laying.gap_within, Laying.row_framed, Laying.told_by, Logging.whole_then}
use Rattle.execlog.specs.Rows.{columns, row_with}
use Rattle.execlog.proofs.plain.Plain.push_command.Goals as goal

pub returns-then-shows : goal.returns-then-shows
returns-then-shows c = whole_then c.push_framed.result
    (λ e. record {
      bytes = row_with c.args.heading.moment c.args.place.now.line c.args.line.now (string_bytes c.args.place.now.source);
      shows = record { source = string_bytes c.args.place.now.source; is_shown = true; bytes_are = refl; shown = λ all. refl };
      added = e ∙ ap (λ (l : List ℕ). c.args.page.now ++ l)
          (row_framed c.args.heading.moment (columns c.args.heading.head.now.number c.args.heading.head.now.clock) c.args.line.now c.args.place.now.framed
          (told_by c.args.heading.moment c.args.heading.number c.args.heading.clock));
    })
    c.push_framed.ensures

pub push_framed-requires : goal.push_framed-requires
push_framed-requires c = gap_within c.args.place.now.framed
