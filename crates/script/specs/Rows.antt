-- The row of a word: what a line may have beside it.
use Rattle.std.specs.Prelude.{ℕ, Bool, true, false, List}
use Rattle.script.specs.{declared.word.row.Kind.Kind, declared.word.row.Row.Row}

-- the text of a word, in a line and in the trace; whether it answers, that is, returns a value: only such a word may
-- have a target before it; and the kinds of its arguments, from left to right
pub record RowData : Type 0 where
  pub text : List ℕ
  pub answers : Bool
  pub kinds : List Kind

-- the row of a word that answers
abbrev pub answering : List ℕ → List Kind → RowData
answering text kinds = record { text = text; answers = true; kinds = kinds }

-- the row of a word that does not answer
abbrev pub without_answer : List ℕ → List Kind → RowData
without_answer text kinds = record { text = text; answers = false; kinds = kinds }

-- a row, as the code has it
abbrev pub row_view : Row → RowData
row_view row = record { text = row.text.now; answers = row.answers; kinds = row.kinds.now }
