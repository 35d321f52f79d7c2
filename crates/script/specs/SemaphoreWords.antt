-- Words of signal semaphores (RKM Libraries, Exec Semaphores).
use Rattle.std.specs.Prelude.{codes, List, [], ◌∷◌}
use Rattle.script.specs.declared.word.semaphores.SemaphoreWord.TheVariants.{NewSem, FreeSem, ObtainSemaphore, AttemptSemaphore, ReleaseSemaphore}
use Rattle.script.specs.{declared.word.row.Kind.TheVariants.Value, declared.word.semaphores.SemaphoreWord.SemaphoreWord, Rows.RowData, Rows.answering, Rows.without_answer}

-- all words of signal semaphores
abbrev pub semaphore_words : List SemaphoreWord
semaphore_words = NewSem ∷ FreeSem ∷ ObtainSemaphore ∷ AttemptSemaphore ∷ ReleaseSemaphore ∷ []

-- the row of a word
abbrev pub semaphore_row : SemaphoreWord → RowData
semaphore_row NewSem = answering (codes "NewSem") []
semaphore_row FreeSem = without_answer (codes "FreeSem") (Value ∷ [])
semaphore_row ObtainSemaphore = without_answer (codes "ObtainSemaphore") (Value ∷ [])
semaphore_row AttemptSemaphore = answering (codes "AttemptSemaphore") (Value ∷ [])
semaphore_row ReleaseSemaphore = without_answer (codes "ReleaseSemaphore") (Value ∷ [])
