-- The proof of `word_of`: the word of a text, if there is one.
use Rattle.std.proofs.Common.{Bool, bytes_eq, map}
use Rattle.script.specs.declared.word.Word.TheVariants.{Plain, Signals, Nesting, Tasks, Lists, Memory, Ports, Semaphores, Interrupts, Libraries, Requests}
use Rattle.script.specs.{declared.word.Word.Word, PlainWords.plain_words, SignalWords.signal_words, NestingWords.nesting_words, TaskWords.task_words, ListWords.list_words, MemoryWords.memory_words, PortWords.port_words, SemaphoreWords.semaphore_words, InterruptWords.interrupt_words, LibraryWords.library_words, RequestWords.request_words, Words.word_text}
use Rattle.script.proofs.WordGroups.{LookedIn, looked_on}
use Rattle.script.proofs.word.word_of.Goals as goal

pub returns : goal.returns
returns c =
    let p : Word → Bool = λ word. bytes_eq (word_text word) c.args.text.now in
    let plain : LookedIn p c.found-plain.result = (map Plain plain_words, c.found-plain.ensures) in
    let signals = looked_on p (map Signals signal_words) c.found_or-signals.ensures plain in
    let nesting = looked_on p (map Nesting nesting_words) c.found_or-nesting.ensures signals in
    let tasks = looked_on p (map Tasks task_words) c.found_or-tasks.ensures nesting in
    let lists = looked_on p (map Lists list_words) c.found_or-lists.ensures tasks in
    let memory = looked_on p (map Memory memory_words) c.found_or-memory.ensures lists in
    let ports = looked_on p (map Ports port_words) c.found_or-ports.ensures memory in
    let semaphores = looked_on p (map Semaphores semaphore_words) c.found_or-semaphores.ensures ports in
    let interrupts = looked_on p (map Interrupts interrupt_words) c.found_or-interrupts.ensures semaphores in
    let libraries = looked_on p (map Libraries library_words) c.found_or-libraries.ensures interrupts in
    (looked_on p (map Requests request_words) c.found_or.ensures libraries).1
