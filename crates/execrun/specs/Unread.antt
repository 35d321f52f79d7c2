-- Why a text is not at hand, and the words for it.
use Rattle.std.specs.Prelude.{ℕ, List, ◌++◌, codes}
use Rattle.std.specs.declared.io.ErrorKind.{ErrorKind}
use Rattle.escape.specs.Shown.{shown}
use Rattle.execsim.specs.declared.reading.ReadFault.{ReadFault}
use Rattle.execsim.specs.declared.reading.ReadFault.TheVariants as read
use Rattle.execrun.specs.declared.unread.{TextFault.TextFault, TextFault.TheVariants.NoMemory, TextFault.TheVariants.CannotRead, Unread.Unread, Unread.TheVariants.NoSuchFile, Unread.TheVariants.Folder, Unread.TheVariants.NoPermission, Unread.TheVariants.TooLong, Unread.TheVariants.Failed}

-- the reason, by the kind of the system's error; a path that goes on after a file is that of no file
abbrev pub unread_by : ErrorKind → Unread
unread_by ErrorKind.NotFound = NoSuchFile
unread_by ErrorKind.NotADirectory = NoSuchFile
unread_by ErrorKind.IsADirectory = Folder
unread_by ErrorKind.PermissionDenied = NoPermission
unread_by kind = Failed

-- memory that was refused, or a text that cannot be read
abbrev pub text_fault_by : ErrorKind → TextFault
text_fault_by ErrorKind.OutOfMemory = NoMemory
text_fault_by kind = CannotRead (unread_by kind)

-- what a fault of reading up to the limit is, by the reason of a read that failed
abbrev pub text_fault_of : Unread → ReadFault → TextFault
text_fault_of why read.OutOfMemory = NoMemory
text_fault_of why read.TooLong = CannotRead TooLong
text_fault_of why read.Failed = CannotRead why

-- the reason as a sentence
abbrev pub reason_text : Unread → List ℕ
reason_text NoSuchFile = codes "there is no such file"
reason_text Folder = codes "it is a folder"
reason_text NoPermission = codes "you have no permission to read it"
reason_text TooLong = codes "it is longer than 4194304 bytes"
reason_text Failed = codes "the system could not read it"

-- what a command says of the text at a path
abbrev pub unread_text : List ℕ → Unread → List ℕ
unread_text path why = codes "cannot read " ++ (shown path ++ (codes ": " ++ reason_text why))
