-- The words of a body. The scripts of this simulator are our own; a word that is named as a call of
-- exec.library represents that call.
use Rattle.std.specs.Prelude.{ℕ, Bool, bytes_eq, find, map, List, ◌++◌, Option}
use Rattle.script.specs.declared.word.Word.TheVariants.{Plain, Signals, Nesting, Tasks, Lists, Memory, Ports, Semaphores, Interrupts, Libraries, Requests}
use Rattle.script.specs.{declared.word.Word.Word, declared.word.row.Kind.Kind, Rows.RowData, PlainWords.plain_words, PlainWords.plain_row, SignalWords.signal_words, SignalWords.signal_row, NestingWords.nesting_words, NestingWords.nesting_row, TaskWords.task_words, TaskWords.task_row, ListWords.list_words, ListWords.list_row, MemoryWords.memory_words, MemoryWords.memory_row, PortWords.port_words, PortWords.port_row, SemaphoreWords.semaphore_words, SemaphoreWords.semaphore_row, InterruptWords.interrupt_words, InterruptWords.interrupt_row, LibraryWords.library_words, LibraryWords.library_row, RequestWords.request_words, RequestWords.request_row}

-- what is known of a word by itself, which is its row, by the group of the word
abbrev pub row : Word → RowData
row (Plain word) = plain_row word
row (Signals word) = signal_row word
row (Nesting word) = nesting_row word
row (Tasks word) = task_row word
row (Lists word) = list_row word
row (Memory word) = memory_row word
row (Ports word) = port_row word
row (Semaphores word) = semaphore_row word
row (Interrupts word) = interrupt_row word
row (Libraries word) = library_row word
row (Requests word) = request_row word

-- the text of a word, in a line and in the trace
abbrev pub word_text : Word → List ℕ
word_text word = (row word).text

-- whether a word answers, that is, returns a value: only such a word may have a target before it
abbrev pub answers : Word → Bool
answers word = (row word).answers

-- the kinds of a word's arguments, from left to right
abbrev pub kinds : Word → List Kind
kinds word = (row word).kinds

-- all words, group by group
abbrev pub all_words : List Word
all_words =
    map Plain plain_words ++ map Signals signal_words ++ map Nesting nesting_words ++ map Tasks task_words ++ map Lists list_words
    ++ map Memory memory_words ++ map Ports port_words ++ map Semaphores semaphore_words ++ map Interrupts interrupt_words ++ map Libraries library_words
    ++ map Requests request_words

-- the word of a text, if there is one
abbrev pub word_of : List ℕ → Option Word
word_of text = find (λ word. bytes_eq (word_text word) text) all_words
