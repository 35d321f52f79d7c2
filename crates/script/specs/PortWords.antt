-- Words of message ports and messages (RKM Libraries, Exec Messages and Ports).
use Rattle.std.specs.Prelude.{codes, List, [], ◌∷◌}
use Rattle.script.specs.declared.word.ports.PortWord.TheVariants.{CreateMsgPort, DeleteMsgPort, AddPort, RemPort, FindPort, PortSignal, PortCause, PortIgnore, NewMsg, FreeMsg, MsgWord, SetMsgWord, MsgType, PutMsg, GetMsg, WaitPort, ReplyMsg}
use Rattle.script.specs.declared.word.row.Kind.TheVariants.{Value, Name, Softint}
use Rattle.script.specs.{declared.word.ports.PortWord.PortWord, Rows.RowData, Rows.answering, Rows.without_answer}

-- all words of message ports and messages
abbrev pub port_words : List PortWord
port_words = CreateMsgPort ∷ DeleteMsgPort ∷ AddPort ∷ RemPort ∷ FindPort ∷ PortSignal ∷ PortCause ∷ PortIgnore ∷ NewMsg ∷ FreeMsg ∷ MsgWord ∷ SetMsgWord ∷ MsgType ∷ PutMsg ∷ GetMsg ∷ WaitPort ∷ ReplyMsg ∷ []

-- the row of a word
abbrev pub port_row : PortWord → RowData
port_row CreateMsgPort = answering (codes "CreateMsgPort") []
port_row DeleteMsgPort = without_answer (codes "DeleteMsgPort") (Value ∷ [])
port_row AddPort = without_answer (codes "AddPort") (Value ∷ Name ∷ Value ∷ [])
port_row RemPort = without_answer (codes "RemPort") (Value ∷ [])
port_row FindPort = answering (codes "FindPort") (Name ∷ [])
port_row PortSignal = without_answer (codes "PortSignal") (Value ∷ [])
port_row PortCause = without_answer (codes "PortCause") (Value ∷ Softint ∷ [])
port_row PortIgnore = without_answer (codes "PortIgnore") (Value ∷ [])
port_row NewMsg = answering (codes "NewMsg") (Value ∷ Value ∷ [])
port_row FreeMsg = without_answer (codes "FreeMsg") (Value ∷ [])
port_row MsgWord = answering (codes "MsgWord") (Value ∷ [])
port_row SetMsgWord = without_answer (codes "SetMsgWord") (Value ∷ Value ∷ [])
port_row MsgType = answering (codes "MsgType") (Value ∷ [])
port_row PutMsg = without_answer (codes "PutMsg") (Value ∷ Value ∷ [])
port_row GetMsg = answering (codes "GetMsg") (Value ∷ [])
port_row WaitPort = answering (codes "WaitPort") (Value ∷ [])
port_row ReplyMsg = without_answer (codes "ReplyMsg") (Value ∷ [])
