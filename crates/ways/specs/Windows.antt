-- What a window and a visitor represent.
use Rattle.ways.specs.{Ways.Passing, declared.visiting.Window.Window}

abbrev pub passing : {S : Type 0} → Window → S → Passing S
passing window visitor = record { skip = window.skip; left = window.left; state = visitor }
