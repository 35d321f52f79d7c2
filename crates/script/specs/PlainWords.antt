-- Plain words: they set variables, calculate, jump and print, and ask nothing of Exec.
use Rattle.std.specs.Prelude.{codes, List, [], ◌∷◌}
use Rattle.script.specs.declared.word.plain.PlainWord.TheVariants.{Set, Add, Sub, And, Or, Jump, JumpZ, JumpNZ, Print}
use Rattle.script.specs.declared.word.row.Kind.TheVariants.{Value, Label}
use Rattle.script.specs.{declared.word.plain.PlainWord.PlainWord, Rows.RowData, Rows.answering, Rows.without_answer}

-- all plain words
abbrev pub plain_words : List PlainWord
plain_words = Set ∷ Add ∷ Sub ∷ And ∷ Or ∷ Jump ∷ JumpZ ∷ JumpNZ ∷ Print ∷ []

-- the row of a word
abbrev pub plain_row : PlainWord → RowData
plain_row Set = answering (codes "Set") (Value ∷ [])
plain_row Add = answering (codes "Add") (Value ∷ Value ∷ [])
plain_row Sub = answering (codes "Sub") (Value ∷ Value ∷ [])
plain_row And = answering (codes "And") (Value ∷ Value ∷ [])
plain_row Or = answering (codes "Or") (Value ∷ Value ∷ [])
plain_row Jump = without_answer (codes "Jump") (Label ∷ [])
plain_row JumpZ = without_answer (codes "JumpZ") (Value ∷ Label ∷ [])
plain_row JumpNZ = without_answer (codes "JumpNZ") (Value ∷ Label ∷ [])
plain_row Print = without_answer (codes "Print") (Value ∷ [])
