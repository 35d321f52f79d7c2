-- Words of memory (RKM Libraries, Exec Memory Allocation).
use Rattle.std.specs.Prelude.{codes, List, [], ◌∷◌}
use Rattle.script.specs.declared.word.memory.MemoryWord.TheVariants.{AllocMem, FreeMem, AvailMem}
use Rattle.script.specs.{declared.word.memory.MemoryWord.MemoryWord, declared.word.row.Kind.TheVariants.Value, Rows.RowData, Rows.answering, Rows.without_answer}

-- all words of memory
abbrev pub memory_words : List MemoryWord
memory_words = AllocMem ∷ FreeMem ∷ AvailMem ∷ []

-- the row of a word
abbrev pub memory_row : MemoryWord → RowData
memory_row AllocMem = answering (codes "AllocMem") (Value ∷ Value ∷ [])
memory_row FreeMem = without_answer (codes "FreeMem") (Value ∷ Value ∷ [])
memory_row AvailMem = answering (codes "AvailMem") (Value ∷ [])
