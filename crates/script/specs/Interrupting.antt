-- Which words the body of a software interrupt or of a server may have (project rule).
use Rattle.std.specs.Prelude.{Bool, true, false}
use Rattle.script.specs.declared.word.Word.TheVariants.{Plain, Signals, Ports, Interrupts}
use Rattle.script.specs.declared.word.plain.PlainWord.TheVariants.{Jump, JumpZ, JumpNZ}
use Rattle.script.specs.declared.word.ports.PortWord.TheVariants.{PutMsg, GetMsg, ReplyMsg}
use Rattle.script.specs.{declared.word.Word.Word, declared.word.plain.PlainWord.PlainWord, declared.word.task_signals.SignalWord.SignalWord, declared.word.task_signals.SignalWord.TheVariants.Signal, declared.word.ports.PortWord.PortWord}

-- a body of an interrupt may have the plain word: all but the jumps
abbrev pub is_plain_of_interrupt : PlainWord → Bool
is_plain_of_interrupt Jump = false
is_plain_of_interrupt JumpZ = false
is_plain_of_interrupt JumpNZ = false
is_plain_of_interrupt _ = true

-- a body of an interrupt may have the word on signals: Signal alone
abbrev pub is_signal_of_interrupt : SignalWord → Bool
is_signal_of_interrupt Signal = true
is_signal_of_interrupt _ = false

-- a body of an interrupt may have the word on ports: PutMsg, GetMsg and ReplyMsg
abbrev pub is_port_of_interrupt : PortWord → Bool
is_port_of_interrupt PutMsg = true
is_port_of_interrupt GetMsg = true
is_port_of_interrupt ReplyMsg = true
is_port_of_interrupt _ = false

-- a word that the body of an interrupt may have
abbrev pub is_word_of_interrupt : Word → Bool
is_word_of_interrupt (Plain word) = is_plain_of_interrupt word
is_word_of_interrupt (Signals word) = is_signal_of_interrupt word
is_word_of_interrupt (Ports word) = is_port_of_interrupt word
is_word_of_interrupt (Interrupts word) = true
is_word_of_interrupt _ = false
