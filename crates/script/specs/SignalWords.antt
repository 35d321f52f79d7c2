-- Words of signals (RKM Libraries, Exec Signals).
use Rattle.std.specs.Prelude.{codes, List, [], ◌∷◌}
use Rattle.script.specs.declared.word.task_signals.SignalWord.TheVariants.{AllocSignal, FreeSignal, SetSignal, Signal, Wait}
use Rattle.script.specs.{declared.word.task_signals.SignalWord.SignalWord, declared.word.row.Kind.TheVariants.Value, Rows.RowData, Rows.answering, Rows.without_answer}

-- all words of signals
abbrev pub signal_words : List SignalWord
signal_words = AllocSignal ∷ FreeSignal ∷ SetSignal ∷ Signal ∷ Wait ∷ []

-- the row of a word
abbrev pub signal_row : SignalWord → RowData
signal_row AllocSignal = answering (codes "AllocSignal") (Value ∷ [])
signal_row FreeSignal = without_answer (codes "FreeSignal") (Value ∷ [])
signal_row SetSignal = answering (codes "SetSignal") (Value ∷ Value ∷ [])
signal_row Signal = without_answer (codes "Signal") (Value ∷ Value ∷ [])
signal_row Wait = answering (codes "Wait") (Value ∷ [])
