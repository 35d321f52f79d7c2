-- Words of tasks (RKM Libraries, Exec Tasks).
use Rattle.std.specs.Prelude.{codes, List, [], ◌∷◌}
use Rattle.script.specs.declared.word.tasks.TaskWord.TheVariants.{SetTaskPri, AddTask, RemTask, FindTask}
use Rattle.script.specs.declared.word.row.Kind.TheVariants.{Value, NameOrNone}
use Rattle.script.specs.{declared.word.tasks.TaskWord.TaskWord, Rows.RowData, Rows.answering, Rows.without_answer}

-- all words of tasks
abbrev pub task_words : List TaskWord
task_words = SetTaskPri ∷ AddTask ∷ RemTask ∷ FindTask ∷ []

-- the row of a word
abbrev pub task_row : TaskWord → RowData
task_row SetTaskPri = answering (codes "SetTaskPri") (Value ∷ Value ∷ [])
task_row AddTask = answering (codes "AddTask") (Value ∷ [])
task_row RemTask = without_answer (codes "RemTask") (Value ∷ [])
task_row FindTask = answering (codes "FindTask") (NameOrNone ∷ [])
