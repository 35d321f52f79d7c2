-- Words of lists and nodes (RKM Libraries, Exec Lists and Queues).
use Rattle.std.specs.Prelude.{codes, List, [], ◌∷◌}
use Rattle.script.specs.declared.word.lists.ListWord.TheVariants.{NewList, FreeList, NewNode, FreeNode, AddHead, AddTail, Enqueue, Insert, Remove, RemHead, RemTail, First, Last, Succ, Pred, FindName}
use Rattle.script.specs.declared.word.row.Kind.TheVariants.{Value, Name, NameOrNone}
use Rattle.script.specs.{declared.word.lists.ListWord.ListWord, Rows.RowData, Rows.answering, Rows.without_answer}

-- all words of lists and nodes
abbrev pub list_words : List ListWord
list_words = NewList ∷ FreeList ∷ NewNode ∷ FreeNode ∷ AddHead ∷ AddTail ∷ Enqueue ∷ Insert ∷ Remove ∷ RemHead ∷ RemTail ∷ First ∷ Last ∷ Succ ∷ Pred ∷ FindName ∷ []

-- the row of a word
abbrev pub list_row : ListWord → RowData
list_row NewList = answering (codes "NewList") []
list_row FreeList = without_answer (codes "FreeList") (Value ∷ [])
list_row NewNode = answering (codes "NewNode") (Value ∷ NameOrNone ∷ [])
list_row FreeNode = without_answer (codes "FreeNode") (Value ∷ [])
list_row AddHead = without_answer (codes "AddHead") (Value ∷ Value ∷ [])
list_row AddTail = without_answer (codes "AddTail") (Value ∷ Value ∷ [])
list_row Enqueue = without_answer (codes "Enqueue") (Value ∷ Value ∷ [])
list_row Insert = without_answer (codes "Insert") (Value ∷ Value ∷ Value ∷ [])
list_row Remove = without_answer (codes "Remove") (Value ∷ [])
list_row RemHead = answering (codes "RemHead") (Value ∷ [])
list_row RemTail = answering (codes "RemTail") (Value ∷ [])
list_row First = answering (codes "First") (Value ∷ [])
list_row Last = answering (codes "Last") (Value ∷ [])
list_row Succ = answering (codes "Succ") (Value ∷ [])
list_row Pred = answering (codes "Pred") (Value ∷ [])
list_row FindName = answering (codes "FindName") (Value ∷ Name ∷ [])
