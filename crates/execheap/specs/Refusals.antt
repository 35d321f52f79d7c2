-- What a refused call says of the abstract machine: the code of its alert.
use Rattle.std.specs.Prelude.{ℕ, Bool, true, codes, List, Option, None, Some, Result, Ok, Err}
use Rattle.execlist.specs.Lists.{home, is_at}
use Rattle.sigsem.specs.declared.fault.SemFault.{SemFault}
use Rattle.execheap.specs.declared.refusal.Refusal.TheVariants.{Handle, Link, Port, Sem, Lib, Io}
use Rattle.execheap.specs.declared.refusal.Refusal.{Refusal}
use Rattle.script.specs.declared.alert.Alert.TheVariants as an_alert
use Rattle.script.specs.declared.alert.Alert.{Alert}

abbrev pub code_of : Refusal → Alert
code_of Handle = an_alert.Handle
code_of Link = an_alert.Link
code_of Port = an_alert.Port
code_of Sem = an_alert.Sem
code_of Lib = an_alert.Lib
code_of Io = an_alert.Io

-- the alert of an answer: none if the call was not refused
abbrev pub alert_of : {T : Type 0} → Result T Refusal → Option Alert
alert_of (Ok answer) = None
alert_of (Err why) = Some (code_of why)

-- a node, if there is one, is in list h
abbrev pub is_none_or_in : Option ℕ → ℕ → List (Option ℕ) → Bool
is_none_or_in None h homes = true
is_none_or_in (Some pred) h homes = is_at (home homes pred) h

-- the answer of a call on a semaphore, if any fault is reported as one refusal
abbrev pub as_refusal : {A : Type 0} → Result A SemFault → Result A Refusal
as_refusal (Ok answer) = Ok answer
as_refusal (Err fault) = Err Sem
