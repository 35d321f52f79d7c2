-- Words of Forbid and Disable (RKM Libraries, Exec Tasks: forbidding task switching).
use Rattle.std.specs.Prelude.{codes, List, [], ◌∷◌}
use Rattle.script.specs.declared.word.nesting.NestingWord.TheVariants.{Forbid, Permit, Disable, Enable}
use Rattle.script.specs.{declared.word.nesting.NestingWord.NestingWord, Rows.RowData, Rows.without_answer}

-- all words of Forbid and Disable
abbrev pub nesting_words : List NestingWord
nesting_words = Forbid ∷ Permit ∷ Disable ∷ Enable ∷ []

-- the row of a word
abbrev pub nesting_row : NestingWord → RowData
nesting_row Forbid = without_answer (codes "Forbid") []
nesting_row Permit = without_answer (codes "Permit") []
nesting_row Disable = without_answer (codes "Disable") []
nesting_row Enable = without_answer (codes "Enable") []
