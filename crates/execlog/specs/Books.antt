-- Which line of a machine file a row has, and which rows are shown.
use Rattle.std.specs.Prelude.{◌≡◌, ℕ, if◌then◌else◌, Option, None, slice_get, option_and_then}
use Rattle.execlog.specs.{declared.book.Body.Body, declared.book.Book.Book, declared.book.Place.Place, declared.filter.Filter.Filter, declared.moment.Actor.Actor}

-- the line of the row of a command, which has none if it prints nothing
abbrev pub row_line : Place → Option ℕ
row_line place = if place.is_silent then None else place.line

-- the command of a task
abbrev pub command_at : Book → Actor → Option Place
command_at book actor = option_and_then (λ (task : Body). slice_get task.places.items actor.place) (slice_get book.tasks.items actor.task)

-- the line of the row of the command at which a task is
abbrev pub line_at : Book → Option Actor → Option ℕ
line_at book actor = option_and_then (λ (a : Actor). option_and_then row_line (command_at book a)) actor

-- all rows are shown
pub record ShowsAll (filter : Filter) : Type 0 where
  pub from : filter.from ≡ 0
  pub at : filter.at ≡ None
  pub by : filter.by ≡ None
