-- What a line says, as a function that is determined by the relation `Says`.
use Rattle.std.specs.Prelude.{ℕ, List, Option}
use Rattle.taskscript.specs.{Lines.fields, Lines.LineData, Says.Meaning, Reader.reader}

-- There is a function that gives what the fields of a line say. It is known by its type alone: no definition and no
-- proof uses more of it.
abbrev pub meaning : Meaning
meaning = reader

-- what a line says, if it says something
abbrev pub line_meaning : List ℕ → Option LineData
line_meaning line = meaning.answer (fields line)
