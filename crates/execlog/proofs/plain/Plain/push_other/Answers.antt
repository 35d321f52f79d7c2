-- The row is shown.
use Rattle.std.proofs.Common.{ap, refl, true, List, ℕ, ◌++◌, ◌∙◌, [], None}
use Rattle.execlog.proofs.{Laying.row_bare, Laying.told_by, Logging.whole_then}
use Rattle.execlog.specs.Rows.{columns, row_with}
use Rattle.execlog.proofs.plain.Plain.push_other.Goals as goal

pub returns-then-shows : goal.returns-then-shows
returns-then-shows c = whole_then c.push_bare.result
    (λ e. record {
      bytes = row_with c.args.heading.moment None c.args.line.now [];
      shows = record { source = []; is_shown = true; bytes_are = refl; shown = λ all. refl };
      added = e ∙ ap (λ (l : List ℕ). c.args.page.now ++ l)
          (row_bare c.args.heading.moment (columns c.args.heading.head.now.number c.args.heading.head.now.clock) c.args.line.now
          (told_by c.args.heading.moment c.args.heading.number c.args.heading.clock));
    })
    c.push_bare.ensures
