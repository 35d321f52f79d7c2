-- What holds in the loops of `libraries_of`: the libraries, in the order of the file.
use Rattle.std.proofs.Common.{◌≡◌, map, take}
use Rattle.script.specs.Records.{library_view}
use Rattle.execlib.specs.Libraries.{description_of}
use Rattle.execheap.specs.Numbered.{shown_library}
use Rattle.execsim.proofs.boot.libraries_of.Given as goal

-- the libraries so far have given what is known of them
abbrev pub invariant-loop-library : goal.invariant-loop-library
invariant-loop-library l = map shown_library (map description_of l.inits.items) ≡ map library_view (take l.library-index l.libraries)
