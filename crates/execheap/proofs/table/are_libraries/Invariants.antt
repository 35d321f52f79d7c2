-- The libraries so far are those of the file.
use Rattle.std.proofs.Common.{◌≡◌, map, take}
use Rattle.script.specs.Records.{library_view}
use Rattle.execlib.specs.Libraries.{description_of}
use Rattle.execheap.specs.Numbered.{shown_library}
use Rattle.execheap.proofs.table.are_libraries.Given as goal

abbrev pub invariant-loop-i : goal.invariant-loop-i
invariant-loop-i l = take l.i (map shown_library (map description_of l.known)) ≡ take l.i (map library_view l.libraries)
