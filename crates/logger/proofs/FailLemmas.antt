-- What a fault is to the command.
use Rattle.std.proofs.Common.{◌≡◌, ℕ, List, Result, Ok, Err, is_ok, ap, Bor, inl, inr, refl}
use Rattle.std.specs.Prelude.{⊤, ◌⊎◌}
use Rattle.execrun.specs.Texts.{TextAt}
use Rattle.logforms.specs.declared.run.Run.{Run}
use Rattle.script.specs.File.{MachineData}
use Rattle.taskscript.specs.{File.file_of, Events.script_of, declared.fault.FileFault.FileFault, declared.fault.EventFault.EventFault}
use Rattle.taskscript.specs.declared.fault.FileFault.TheVariants as file
use Rattle.taskscript.specs.declared.fault.EventFault.TheVariants as event
use Rattle.execpicture.specs.declared.fault.PictureFault.{PictureFault}
use Rattle.execpicture.specs.declared.fault.PictureFault.TheVariants as picture
use Rattle.execrun.specs.declared.unread.TextFault.{TextFault}
use Rattle.execrun.specs.declared.unread.TextFault.TheVariants as text
use Rattle.execlog.specs.declared.log.LogFault.{LogFault}
use Rattle.execlog.specs.declared.log.LogFault.TheVariants as log
use Rattle.logger.specs.{Asking.IsOfOption, Asking.IsOfWords, Failing.IsAbsent, Failing.IsNoText, Failing.IsOfMachine, Failing.IsOfPicture, Failing.IsOfScript, Failing.IsUnread, Failing.of_log, Failing.of_machine, Failing.of_picture, Failing.of_script, Failing.of_text, Failing.status_of, Reading.IsOneOf, Reading.IsRefused, Reading.RefusesSome, Reading.RefusesTexts, Reading.RunsSome, Reading.RunsTexts, declared.command_line.Paths.Paths, declared.command_line.Refusal.Refusal, declared.failure.Failure.Failure}
use Rattle.logger.specs.declared.command_line.Refusal.TheVariants.{Command}
use Rattle.logger.specs.declared.failure.Failure.TheVariants as failure

-- the fault of a machine file
pub of_machine_fault : (machine : List ℕ) (fault : FileFault) → (¬ (fault ≡ file.OutOfMemory) → file_of machine ≡ Err fault) → IsOfMachine machine (of_machine fault)
of_machine_fault machine file.OutOfMemory is = tt
of_machine_fault machine file.NotToml is = is (λ same. cc)
of_machine_fault machine file.UnknownKey is = is (λ same. cc)
of_machine_fault machine file.MissingKey is = is (λ same. cc)
of_machine_fault machine file.BadValue is = is (λ same. cc)
of_machine_fault machine file.NameTwice is = is (λ same. cc)
of_machine_fault machine file.BadRegions is = is (λ same. cc)
of_machine_fault machine file.BadCommand is = is (λ same. cc)
of_machine_fault machine file.BadLabel is = is (λ same. cc)
of_machine_fault machine file.NotInInterrupt is = is (λ same. cc)
of_machine_fault machine file.TooMany is = is (λ same. cc)

-- the fault of an event text
pub of_script_fault : (events : List ℕ) (fault : EventFault) → (¬ (fault ≡ event.OutOfMemory) → script_of events ≡ Err fault) → IsOfScript events (of_script fault)
of_script_fault events event.OutOfMemory is = tt
of_script_fault events event.TooMany is = is (λ same. cc)
of_script_fault events (event.BadLine line) is = is (λ same. cc)

-- a text that is not at hand
pub unread_text : (path : Bor (List ℕ)) (fault : TextFault) → IsUnread (λ other. other ≡ path) (of_text path fault)
unread_text path text.NoMemory = tt
unread_text path (text.CannotRead why) = refl

-- a text at one of two paths
pub unread_machine : (paths : Paths) (why : Failure) → IsUnread (λ other. other ≡ paths.machine) why → IsUnread (IsOneOf paths) why
unread_machine paths failure.NoMemory is = tt
unread_machine paths (failure.CannotRead path reason) is = inl is
unread_machine paths other is = absurd is

pub unread_events : (paths : Paths) (why : Failure) → IsUnread (λ other. other ≡ paths.events) why → IsUnread (IsOneOf paths) why
unread_events paths failure.NoMemory is = tt
unread_events paths (failure.CannotRead path reason) is = inr is
unread_events paths other is = absurd is

-- a run is refused if one of its texts is
pub by_machine : (machine events : List ℕ) (why : Failure) → IsOfMachine machine why → IsRefused machine events why
by_machine machine events failure.NoMemory is = tt
by_machine machine events (failure.Machine fault) is = is
by_machine machine events other is = absurd is

pub by_script : (machine events : List ℕ) (m : MachineData) → file_of machine ≡ Ok m → (why : Failure) → IsOfScript events why → IsRefused machine events why
by_script machine events m read failure.NoMemory is = tt
by_script machine events m read (failure.Events fault) is = (ap is_ok read, is)
by_script machine events m read other is = absurd is

pub by_memory : (machine events : List ℕ) (why : Failure) → why ≡ failure.NoMemory → IsRefused machine events why
by_memory machine events why is = rw is tt

-- a picture is not drawn if its part is not there
pub picture_by_part : (why : Failure) → IsAbsent why → IsOfPicture why
picture_by_part failure.NoMemory is = tt
picture_by_part (failure.Absent sentence) is = tt
picture_by_part other is = absurd is

pub picture_by_fault : (fault : PictureFault) → IsOfPicture (of_picture fault)
picture_by_fault picture.Memory = tt
picture_by_fault picture.Write = tt
picture_by_fault (picture.TooLong steps) = tt
picture_by_fault (picture.PastEnd last) = tt
picture_by_fault picture.Empty = tt

pub picture_by_memory : (why : Failure) → why ≡ failure.NoMemory → IsOfPicture why
picture_by_memory why is = rw is tt

-- a failure that is of an option refuses the words
pub of_option : (why : Failure) → IsOfOption why → IsOfWords (Command why)
of_option (failure.Option sentence) is = tt
of_option other is = absurd is

-- memory that was refused refuses the words
pub words_by_memory : (refusal : Refusal) → refusal ≡ Command failure.NoMemory → IsOfWords refusal
words_by_memory refusal is = rw is tt

-- ---- what is not a fault of a text

no_text_of_log : (fault : LogFault) → IsNoText (of_log fault)
no_text_of_log log.Memory = tt
no_text_of_log log.Write = tt

pub log_no_text : (fault : LogFault) (why : Failure) → why ≡ of_log fault → IsNoText why
log_no_text fault why is = rw is (no_text_of_log fault)

pub writing_no_text : (why : Failure) → why ≡ failure.WriteFailed → IsNoText why
writing_no_text why is = rw is tt

pub memory_no_text : (why : Failure) → why ≡ failure.NoMemory → IsNoText why
memory_no_text why is = rw is tt

pub absent_no_text : (why : Failure) → IsAbsent why → IsNoText why
absent_no_text failure.NoMemory is = tt
absent_no_text (failure.Absent sentence) is = tt
absent_no_text other is = absurd is

pub picture_no_text : (why : Failure) → IsOfPicture why → IsNoText why
picture_no_text failure.NoMemory is = tt
picture_no_text (failure.Absent sentence) is = tt
picture_no_text (failure.Picture fault) is = tt
picture_no_text failure.WriteFailed is = tt
picture_no_text other is = absurd is

-- no failure but that of a text has its status
pub not_refused : (why : Failure) → IsNoText why → ¬ (status_of why ≡ 1)
not_refused (failure.Machine fault) is = absurd is
not_refused (failure.Events fault) is = absurd is
not_refused failure.NoMemory is = λ same. cc
not_refused (failure.CannotRead path reason) is = λ same. cc
not_refused failure.WriteFailed is = λ same. cc
not_refused (failure.Option sentence) is = λ same. cc
not_refused (failure.Absent sentence) is = λ same. cc
not_refused (failure.Picture fault) is = λ same. cc

unread_status : (IsPath : Bor (List ℕ) → Type 0) (why : Failure) → IsUnread IsPath why → ¬ (status_of why ≡ 1)
unread_status IsPath failure.NoMemory is = λ same. cc
unread_status IsPath (failure.CannotRead path reason) is = λ same. cc
unread_status IsPath other is = absurd is

-- a text is refused if the status is that of a text
pub refused_texts : (IsPath : Bor (List ℕ) → Type 0) (text_at : TextAt) (paths : Paths) (why : Failure) → IsUnread IsPath why ⊎ RefusesTexts text_at paths why
    → status_of why ≡ 1 → RefusesSome text_at
refused_texts IsPath text_at paths why (inl unread) is = absurd (unread_status IsPath why unread is)
refused_texts IsPath text_at paths why (inr refuses) is = record { paths = paths; why = why; status_is = is; refuses = refuses }

pub runs_some : (text_at : TextAt) (paths : Paths) (run : Run) → RunsTexts text_at paths run → RunsSome text_at
runs_some text_at paths run runs = record { paths = paths; run = run; runs = runs }

-- words that are refused end with 2, or with 4 if memory was refused
pub words_end : (why : Failure) → IsOfWords (Command why) → (status_of why ≡ 2) ⊎ (status_of why ≡ 4)
words_end failure.NoMemory is = inr refl
words_end (failure.Option sentence) is = inl refl
words_end other is = absurd is
