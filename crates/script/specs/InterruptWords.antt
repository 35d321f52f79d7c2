-- Words of interrupts (RKM Libraries, Exec Interrupts).
use Rattle.std.specs.Prelude.{codes, List, [], ◌∷◌}
use Rattle.script.specs.{declared.word.interrupts.InterruptWord.InterruptWord, declared.word.interrupts.InterruptWord.TheVariants.Cause, declared.word.row.Kind.TheVariants.Softint, Rows.RowData, Rows.without_answer}

-- all words of interrupts
abbrev pub interrupt_words : List InterruptWord
interrupt_words = Cause ∷ []

-- the row of a word
abbrev pub interrupt_row : InterruptWord → RowData
interrupt_row Cause = without_answer (codes "Cause") (Softint ∷ [])
