-- Words of requests of timer.device (RKM Devices, Introduction to Amiga System Devices; Devices, timer device).
use Rattle.std.specs.Prelude.{codes, List, [], ◌∷◌}
use Rattle.script.specs.declared.word.requests.RequestWord.TheVariants.{CreateIORequest, DeleteIORequest, OpenDevice, CloseDevice, SetIO, DoIO, SendIO, CheckIO, WaitIO, AbortIO, IOSecs, IOMicros, IOError, IOFlags}
use Rattle.script.specs.declared.word.row.Kind.TheVariants.{Value, Name}
use Rattle.script.specs.{declared.word.requests.RequestWord.RequestWord, Rows.RowData, Rows.answering, Rows.without_answer}

-- all words of requests of timer.device
abbrev pub request_words : List RequestWord
request_words =
    CreateIORequest ∷ DeleteIORequest ∷ OpenDevice ∷ CloseDevice ∷ SetIO ∷ DoIO ∷ SendIO ∷ CheckIO ∷ WaitIO ∷ AbortIO ∷ IOSecs ∷ IOMicros
    ∷ IOError ∷ IOFlags ∷ []

-- the row of a word
abbrev pub request_row : RequestWord → RowData
request_row CreateIORequest = answering (codes "CreateIORequest") (Value ∷ [])
request_row DeleteIORequest = without_answer (codes "DeleteIORequest") (Value ∷ [])
request_row OpenDevice = answering (codes "OpenDevice") (Name ∷ Value ∷ Value ∷ [])
request_row CloseDevice = without_answer (codes "CloseDevice") (Value ∷ [])
request_row SetIO = without_answer (codes "SetIO") (Value ∷ Value ∷ Value ∷ Value ∷ [])
request_row DoIO = answering (codes "DoIO") (Value ∷ [])
request_row SendIO = without_answer (codes "SendIO") (Value ∷ [])
request_row CheckIO = answering (codes "CheckIO") (Value ∷ [])
request_row WaitIO = answering (codes "WaitIO") (Value ∷ [])
request_row AbortIO = answering (codes "AbortIO") (Value ∷ [])
request_row IOSecs = answering (codes "IOSecs") (Value ∷ [])
request_row IOMicros = answering (codes "IOMicros") (Value ∷ [])
request_row IOError = answering (codes "IOError") (Value ∷ [])
request_row IOFlags = answering (codes "IOFlags") (Value ∷ [])
