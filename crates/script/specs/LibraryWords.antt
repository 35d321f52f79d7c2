-- Words of libraries (RKM Libraries, Exec Libraries).
use Rattle.std.specs.Prelude.{codes, List, [], ◌∷◌}
use Rattle.script.specs.declared.word.libraries.LibraryWord.TheVariants.{OpenLibrary, CloseLibrary, RemLibrary, LibOpenCnt}
use Rattle.script.specs.declared.word.row.Kind.TheVariants.{Value, Name}
use Rattle.script.specs.{declared.word.libraries.LibraryWord.LibraryWord, Rows.RowData, Rows.answering, Rows.without_answer}

-- all words of libraries
abbrev pub library_words : List LibraryWord
library_words = OpenLibrary ∷ CloseLibrary ∷ RemLibrary ∷ LibOpenCnt ∷ []

-- the row of a word
abbrev pub library_row : LibraryWord → RowData
library_row OpenLibrary = answering (codes "OpenLibrary") (Name ∷ Value ∷ [])
library_row CloseLibrary = without_answer (codes "CloseLibrary") (Value ∷ [])
library_row RemLibrary = without_answer (codes "RemLibrary") (Value ∷ [])
library_row LibOpenCnt = answering (codes "LibOpenCnt") (Value ∷ [])
