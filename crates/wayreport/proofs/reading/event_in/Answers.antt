-- The proof of `event_in`: the text of an event is read as that event.
use Rattle.std.proofs.Common.{◌≡◌, ◌∙◌, List, [], ◌∷◌, Result, Ok, ap, sym}
use Rattle.script.specs.declared.event.Event.{Event}
use Rattle.taskscript.specs.Events.{script_of}
use Rattle.taskscript.specs.declared.fault.EventFault.{EventFault}
use Rattle.wayreport.proofs.Asking.{judged, one-read}
use Rattle.wayreport.proofs.reading.event_in.Goals as goal

same_ok : (xs ys : List Event) (read : Result (List Event) EventFault) → read ≡ Ok xs → read ≡ Ok ys → xs ≡ ys
same_ok xs ys read a b = let e : Ok xs ≡ Ok ys = sym a ∙ b in cc

pub returns-in-Ok : goal.returns-in-Ok
returns-in-Ok c = λ event asked is.
    let read = ap script_of (c.as_bytes.ensures.value ∙ is) ∙ one-read event asked in
    c.one_of.ensures event (same_ok _ (event ∷ []) _ c.in-Ok.ensures read)

pub returns-in-Err : goal.returns-in-Err
returns-in-Err c = λ event asked is.
    let read = ap script_of (c.as_bytes.ensures.value ∙ is) ∙ one-read event asked in
    c.event_fault_of.ensures (judged c.in-Err.fault _ (event ∷ []) read c.in-Err.ensures)
