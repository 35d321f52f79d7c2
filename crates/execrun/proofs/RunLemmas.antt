-- From the files and the trace to the end of the program.
use Rattle.std.proofs.Common.{◌≡◌, ◌∙◌, ◌⊎◌, List, [], ◌∷◌, ℕ, Bool, true, false, Result, Ok, Err, inl, inr, ap, refl, subst, sym, arith}
use Rattle.std.proofs.KnownBytes.{Keeps-refl}
use Rattle.std.specs.Io.KnownBytes.{Keeps}
use Rattle.clap.specs.Words.{Text, kind_of}
use Rattle.clap.specs.Words as clap
use Rattle.clap.specs.Kinds.{HasKind, Kinds}
use Rattle.clap.specs.declared.error.Error.{Error}
use Rattle.clap.specs.declared.error.kind.ErrorKind.TheVariants.{OutOfMemory}
use Rattle.exectrace.specs.Sink.{Tape}
use Rattle.taskscript.specs.{File.file_of, Events.script_of}
use Rattle.execsim.specs.{Headline.RunsWhole, Headline.Simulates, declared.simulation.End.End, declared.simulation.End.TheVariants.Ran, declared.simulation.SimFault.SimFault}
use Rattle.execsim.specs.declared.simulation.End.TheVariants as end
use Rattle.execsim.specs.declared.simulation.SimFault.TheVariants as sim
use Rattle.execrun.specs.Running.{EndsRun, Held, IsGivenIn, ReadsNothing, RunsGiven, RunsWords, WritesWhole, answer_of, good_sink}
use Rattle.execrun.specs.declared.fault.Fault.TheVariants.{Machine, Events, NoMemory, CannotRead, WriteFailed}
use Rattle.execrun.specs.{CommandLine.AreRight, CommandLine.two_paths, Ending.code_of, Ending.ending_after, Ending.status_of, Fault.fault_of, Texts.TextAt, declared.ending.Ending.Ending, declared.ending.Ending.TheVariants.Failed, declared.fault.Fault.Fault}

-- if words are right, clap fails when out of memory alone
lacks_memory : (kinds : Kinds) (error : Error) → kinds ≡ [] → HasKind kinds error → kind_of error ≡ OutOfMemory
lacks_memory kinds error none (inl memory) = memory
lacks_memory [] error none (inr among) = absurd among
lacks_memory (k ∷ ks) error none (inr among) = cc

pub runs_out_of_memory : {W : Type 0} (text_at : TextAt) (words : List Text) (held : W → Held) (old new : W) (error : Error) (ending : Ending) → AreRight two_paths words
    → HasKind (clap.fault_of two_paths words) error → (kind_of error ≡ OutOfMemory → ending ≡ Failed NoMemory)
    → (kind_of error ≡ OutOfMemory → new ≡ old) → RunsWords text_at words (held old) (held new) ending
runs_out_of_memory text_at words held old new error ending right failed ends kept =
    let memory = lacks_memory (clap.fault_of two_paths words) error right failed in record {
      result = Err NoMemory;
      ends = ends memory;
      runs = inr (record {
        fault = NoMemory;
        fails = refl;
        reason = inl refl;
        untouched = subst (λ (w : _). Keeps (held old) (held w)) (sym (kept memory)) (Keeps-refl (held old));
      });
    }

fault_is_no_end : (result : Result End Fault) (fault : Fault) (how : End) → result ≡ Err fault → result ≡ Ok how → ⊥
fault_is_no_end result fault how fails ends = let bad : Err fault ≡ Ok how = sym fails ∙ ends in cc

ends_so : (result : Result End Fault) (first how : End) → result ≡ Ok first → result ≡ Ok how → first ≡ how
ends_so result first how is so = cc

-- an answer that is an end is the simulator's, which wrote the whole trace
whole_trace : (machine events : List ℕ) (before : Held) (sink : Tape) (ended : Result End SimFault) (flushed : Bool) (how : End)
    → answer_of ended flushed ≡ Ok how → Simulates (file_of machine) (script_of events) (good_sink before) sink ended
    → RunsWhole (file_of machine) (script_of events) (good_sink before) sink how
whole_trace machine events before sink (Ok first) true how is s =
    subst (λ (e : End). RunsWhole (file_of machine) (script_of events) (good_sink before) sink e) (ends_so _ first how refl is) s
whole_trace machine events before sink (Ok first) false how is s = absurd (fault_is_no_end _ WriteFailed how refl is)
whole_trace machine events before sink (Err why) flushed how is s = absurd (fault_is_no_end _ (fault_of why) how refl is)

whole_run : (text_at : TextAt) (words : List Text) (before after : Held) (result : Result End Fault) (how : End) → result ≡ Ok how
    → RunsGiven text_at words before after result ⊎ ReadsNothing (IsGivenIn words) before after result → WritesWhole text_at words before after how
whole_run text_at words before after result how is (inl ran) =
    let files = ran.files in
    let w = files.writes in
    record {
      paths = ran.paths;
      given = ran.given;
      machine = files.machine;
      events = files.events;
      machine_is = files.machine_is;
      events_is = files.events_is;
      sink = w.sink;
      runs = whole_trace files.machine files.events before w.sink w.ended w.flushed how (sym w.answers ∙ is) w.simulates;
      keeps = w.keeps;
    }
whole_run text_at words before after result how is (inr none) = absurd (fault_is_no_end result none.fault how none.fails is)

result_done : (result : Result End Fault) → code_of (status_of (ending_after result)) ≡ 0 → result ≡ Ok Ran
result_done (Ok Ran) e = refl
result_done (Ok end.Alerted) e = absurd (omega (arith, e))
result_done (Err (Machine f)) e = absurd (omega (arith, e))
result_done (Err (Events f)) e = absurd (omega (arith, e))
result_done (Err NoMemory) e = absurd (omega (arith, e))
result_done (Err (CannotRead path)) e = absurd (omega (arith, e))
result_done (Err WriteFailed) e = absurd (omega (arith, e))

result_alerted : (result : Result End Fault) → code_of (status_of (ending_after result)) ≡ 3 → result ≡ Ok end.Alerted
result_alerted (Ok Ran) e = absurd (omega (arith, e))
result_alerted (Ok end.Alerted) e = refl
result_alerted (Err (Machine f)) e = absurd (omega (arith, e))
result_alerted (Err (Events f)) e = absurd (omega (arith, e))
result_alerted (Err NoMemory) e = absurd (omega (arith, e))
result_alerted (Err (CannotRead path)) e = absurd (omega (arith, e))
result_alerted (Err WriteFailed) e = absurd (omega (arith, e))

pub ends_run : (text_at : TextAt) (words : List Text) (before after : Held) (ending : Ending) (code : ℕ) → code ≡ code_of (status_of ending)
    → RunsWords text_at words before after ending → EndsRun text_at words before after code
ends_run text_at words before after ending code status runs = record { ending = ending; status = status; runs = runs }

code_after : (text_at : TextAt) (words : List Text) (before after : Held) (code : ℕ) (r : EndsRun text_at words before after code)
    → code ≡ code_of (status_of (ending_after r.runs.result))
code_after text_at words before after code r = r.status ∙ ap (λ e. code_of (status_of e)) r.runs.ends

-- status 0 is a run to its end
pub whole_at_done : (text_at : TextAt) (words : List Text) (before after : Held) (code : ℕ) → EndsRun text_at words before after code → code ≡ 0
    → WritesWhole text_at words before after Ran
whole_at_done text_at words before after code r is =
    whole_run text_at words before after r.runs.result Ran (result_done r.runs.result (sym (code_after text_at words before after code r) ∙ is)) r.runs.runs

-- status 3 is a run that an alert ended
pub whole_at_alerted : (text_at : TextAt) (words : List Text) (before after : Held) (code : ℕ) → EndsRun text_at words before after code → code ≡ 3
    → WritesWhole text_at words before after end.Alerted
whole_at_alerted text_at words before after code r is =
    whole_run text_at words before after r.runs.result end.Alerted (result_alerted r.runs.result (sym (code_after text_at words before after code r) ∙ is)) r.runs.runs

-- a text that is refused is answered before anything is written
refused_trace : (machine events : List ℕ) (before after : Held) (sink : Tape) (ended : Result End SimFault) (flushed : Bool)
    → code_of (status_of (ending_after (answer_of ended flushed))) ≡ 1
    → Simulates (file_of machine) (script_of events) (good_sink before) sink ended → Keeps sink.taken after → Keeps before after
refused_trace machine events before after sink (Ok Ran) true is s keeps = absurd (omega (arith, is))
refused_trace machine events before after sink (Ok end.Alerted) true is s keeps = absurd (omega (arith, is))
refused_trace machine events before after sink (Ok how) false is s keeps = absurd (omega (arith, is))
refused_trace machine events before after sink (Err (sim.File why)) flushed is s keeps =
    subst (λ (t : Tape). Keeps t.taken after) s.untouched keeps
refused_trace machine events before after sink (Err (sim.Events why)) flushed is s keeps =
    subst (λ (t : Tape). Keeps t.taken after) s.untouched keeps
refused_trace machine events before after sink (Err sim.Memory) flushed is s keeps =
    subst (λ (t : Tape). Keeps t.taken after) s.untouched keeps
refused_trace machine events before after sink (Err sim.Write) flushed is s keeps = absurd (omega (arith, is))

refused_run : (text_at : TextAt) (words : List Text) (before after : Held) (result : Result End Fault) → code_of (status_of (ending_after result)) ≡ 1
    → RunsGiven text_at words before after result ⊎ ReadsNothing (IsGivenIn words) before after result → Keeps before after
refused_run text_at words before after result is (inl ran) =
    let files = ran.files in
    let w = files.writes in
    refused_trace files.machine files.events before after w.sink w.ended w.flushed (ap (λ r. code_of (status_of (ending_after r))) (sym w.answers) ∙ is) w.simulates w.keeps
refused_run text_at words before after result is (inr none) = none.untouched

-- status 1 leaves standard output alone
pub kept_at_refused : (text_at : TextAt) (words : List Text) (before after : Held) (code : ℕ) → EndsRun text_at words before after code → code ≡ 1
    → Keeps before after
kept_at_refused text_at words before after code r is =
    refused_run text_at words before after r.runs.result (sym (code_after text_at words before after code r) ∙ is) r.runs.runs
