-- What generic code did to a writer that was lent, it did to the writer.
use Rattle.std.proofs.Common.{◌≡◌, ℕ, Bool, List, [], ◌∷◌, None, Some, Result, Ok, Err, option_map, ap, sym, subst}
use Rattle.std.proofs.KnownBytes.{Appends-nil}
use Rattle.std.specs.Io.KnownBytes.{Appends, Keeps}
use Rattle.exectrace.specs.{Sink.Tape, declared.sinks.SinkState.SinkState, declared.sinks.SinkState.TheVariants.Good}
use Rattle.script.specs.{File.MachineData, declared.event.Event.Event}
use Rattle.taskscript.specs.{File.file_of, Events.script_of, declared.fault.FileFault.FileFault, declared.fault.EventFault.EventFault}
use Rattle.execsim.specs.{Headline.Simulates, declared.simulation.End.End, declared.simulation.SimFault.SimFault}
use Rattle.execsim.specs.declared.simulation.SimFault.TheVariants as fault
use Rattle.execrun.specs.{Lending.named, Running.Held, Running.WritesTrace, Running.answer_of, declared.fault.Fault.Fault}

abbrev tail : List ℕ → List ℕ
tail [] = []
tail (x ∷ xs) = xs

abbrev head : List ℕ → ℕ
head [] = 0
head (x ∷ xs) = x

abbrev tape_of : Held → SinkState → Tape
tape_of taken state = record { taken = taken; state = state }

-- what the writer held afterwards, if it reported what it held before
abbrev told : Held → Held → Held
told None held = None
told (Some xs) held = held

Appends-told : (name other : ℕ) (before held : Held) (bytes : List ℕ) → Appends (named name before) (named other held) bytes
    → Appends before (told before held) bytes
Appends-told name other None held bytes p = tt
Appends-told name other (Some xs) None bytes p = absurd p
Appends-told name other (Some xs) (Some ys) bytes p = ap tail p

-- a writer that grew is still the same loan
same_loan : (name other : ℕ) (xs : List ℕ) (held : Held) (bytes : List ℕ) → Appends (named name (Some xs)) (named other held) bytes → other ≡ name
same_loan name other xs None bytes p = absurd p
same_loan name other xs (Some ys) bytes p = ap head p

untouched-told : (name other : ℕ) (before held : Held) (state : SinkState) → tape_of (named other held) state ≡ tape_of (named name before) Good
    → tape_of (told before held) state ≡ tape_of before Good
untouched-told name other None held state p = let f : Tape → Tape = λ t. record { taken = None; state = t.state } in ap f p
untouched-told name other (Some xs) None state p =
    let f : Tape → Tape = λ t. record { taken = option_map tail t.taken; state = t.state } in ap f p
untouched-told name other (Some xs) (Some ys) state p =
    let f : Tape → Tape = λ t. record { taken = option_map tail t.taken; state = t.state } in ap f p

module _ (file : Result MachineData FileFault) (script : Result (List Event) EventFault) where
  -- what is promised between two tapes is promised between two others that grow alike
  simulates_alike : (a b c d : Held) (state : SinkState) (ended : Result End SimFault)
      → ((bytes : List ℕ) → Appends a b bytes → Appends c d bytes)
      → (tape_of b state ≡ tape_of a Good → tape_of d state ≡ tape_of c Good)
      → Simulates file script (tape_of a Good) (tape_of b state) ended → Simulates file script (tape_of c Good) (tape_of d state) ended
  simulates_alike a b c d state (Ok how) grows same s = record {
    machine = s.machine;
    events = s.events;
    reads_file = s.reads_file;
    reads_events = s.reads_events;
    writes = record { took = grows _ s.writes.took; good = s.writes.good };
    ends = s.ends;
  }
  simulates_alike a b c d state (Err (fault.File why)) grows same s = record { defined = s.defined; untouched = same s.untouched }
  simulates_alike a b c d state (Err (fault.Events why)) grows same s = record {
    machine = s.machine;
    reads_file = s.reads_file;
    defined = s.defined;
    untouched = same s.untouched;
  }
  simulates_alike a b c d state (Err fault.Memory) grows same s = record {
    machine = s.machine;
    events = s.events;
    reads_file = s.reads_file;
    reads_events = s.reads_events;
    untouched = same s.untouched;
  }
  simulates_alike a b c d state (Err fault.Write) grows same s = record {
    machine = s.machine;
    events = s.events;
    reads_file = s.reads_file;
    reads_events = s.reads_events;
    writes = record {
      written = s.writes.written;
      missing = s.writes.missing;
      parts = s.writes.parts;
      short = s.writes.short;
      took = grows _ s.writes.took;
      stopped = s.writes.stopped;
    };
  }

  kept_appends : (a b : Tape) → b ≡ a → Appends a.taken b.taken []
  kept_appends a b same = subst (λ (t : Tape). Appends a.taken t.taken []) (sym same) (Appends-nil a.taken)

  -- in each case the tape grew
  simulates_grows : (a b : Tape) (ended : Result End SimFault) → Simulates file script a b ended → (bytes : List ℕ) × Appends a.taken b.taken bytes
  simulates_grows a b (Ok how) s = (_, s.writes.took)
  simulates_grows a b (Err (fault.File why)) s = ([], kept_appends a b s.untouched)
  simulates_grows a b (Err (fault.Events why)) s = ([], kept_appends a b s.untouched)
  simulates_grows a b (Err fault.Memory) s = ([], kept_appends a b s.untouched)
  simulates_grows a b (Err fault.Write) s = (_, s.writes.took)

  keeps_lent : (name other : ℕ) (before held after : Held) (state : SinkState) (ended : Result End SimFault)
      → Simulates file script (tape_of (named name before) Good) (tape_of (named other held) state) ended
      → (other ≡ name → Keeps held after) → Keeps (told before held) after
  keeps_lent name other None held after state ended s back = tt
  keeps_lent name other (Some xs) held after state ended s back =
      let grown = simulates_grows _ _ ended s in
      back (same_loan name other xs held grown.0 grown.1)

-- what a simulation wrote to a writer that was lent
pub writes_trace : (machine events : List ℕ) (name other : ℕ) (before held after : Held) (a b : Tape) (ended : Result End SimFault) (flushed : Bool)
    (result : Result End Fault) → a ≡ tape_of (named name before) Good → named other held ≡ b.taken
    → Simulates (file_of machine) (script_of events) a b ended → (other ≡ name → Keeps held after) → result ≡ answer_of ended flushed
    → WritesTrace machine events before after result
writes_trace machine events name other before held after a b ended flushed result begins ends s back answers =
    let file = file_of machine in
    let script = script_of events in
    let s₁ : Simulates file script (tape_of (named name before) Good) b ended = subst (λ (t : Tape). Simulates file script t b ended) begins s in
    let s₂ : Simulates file script (tape_of (named name before) Good) (tape_of (named other held) b.state) ended =
    subst (λ (h : Held). Simulates file script (tape_of (named name before) Good) (tape_of h b.state) ended) (sym ends) s₁ in
    record {
      ended = ended;
      sink = tape_of (told before held) b.state;
      simulates = simulates_alike file script _ _ _ _ b.state ended (Appends-told name other before held) (untouched-told name other before held b.state) s₂;
      keeps = keeps_lent file script name other before held after b.state ended s₂ back;
      flushed = flushed;
      answers = answers;
    }
