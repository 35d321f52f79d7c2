-- What the check of a set shows of where a walk is holds of the run of its events.
use Rattle.std.proofs.Common.{arith, inl, inr, ◌≡◌, ◌∙◌, ◌⊎◌, ◌<◌, ℕ, Bool, true, false, List, [], ◌∷◌, length, refl, sym, ap, subst}
use Rattle.script.specs.{File.MachineData, declared.event.Event.Event}
use Rattle.scheduler.specs.Schedule.{Schedule}
use Rattle.execmodel.specs.{State.Pending, State.Scripts, Step.run}
use Rattle.execsim.specs.{Agreement.in_order, Agreement.caused_in_order, Headline.Shown}
use Rattle.closure.specs.{Closed.AreOf, Closed.EndsBy, Closed.IsFound, Closed.IsOneOf, Closed.lines_of, declared.found.Alert.Alert}
use Rattle.statereport.specs.Reports.{Reports}
use Rattle.statekeys.specs.{Keys.key_bytes, Numbers.numbers, Stands.IsWhere, Views.key_seen}
use Rattle.statewalk.specs.{Every.IsAmong, Every.NoAlertComes, Every.SaysEvery, Every.key_in_order, Walking.Walking}

-- the key that a machine shows is that of its state
same_key : (machine : MachineData) (shown : Shown) (list : List Event) → IsWhere machine shown list
    → key_seen shown.seen ≡ key_in_order (run machine list).state
same_key machine shown list at =
    let s = (run machine list).state in
    let seen = shown.seen in
    ap (λ (x : Schedule). key_bytes (numbers x seen.scripts seen.pending)) at.agrees.schedule
    ∙ (ap (λ (x : Scripts). key_bytes (numbers (in_order s.schedule) x seen.pending)) at.agrees.scripts
    ∙ ap (λ (x : Pending). key_bytes (numbers (in_order s.schedule) s.scripts x)) at.agrees.pending)

among : (machine : MachineData) (keys : List (List ℕ)) (list : List Event) (w : Walking) → w.file ≡ machine → IsWhere w.file w.shown list
    → IsOneOf keys (key_seen w.shown.seen) → IsAmong machine keys list
among machine keys list w is there found =
    let at = subst (λ (m : MachineData). IsWhere m w.shown list) is there in
    record { going = at.going; found = subst (λ (key : List ℕ). IsOneOf keys key) (same_key machine w.shown list at) found }

module _ (machine : MachineData) (name : List ℕ) (kinds : List Event) (is_closed : Bool) (number : ℕ) (text : List ℕ) where
  pub says_every : Reports (λ (w : Walking). w.file) (λ (w : Walking) (list : List Event). IsWhere w.file w.shown list) (λ (w : Walking). key_seen w.shown.seen)
      machine name kinds is_closed number text → SaysEvery machine name kinds is_closed number text
  says_every r = record {
    keys = r.keys;
    alerts = r.alerts;
    says = r.says;
    counts = r.counts;
    every = λ is list are. by_case list (r.closed is list are);
    shown = r.shown;
  }
    where
      by_case : (list : List Event)
          → IsFound (λ (w : Walking). w.file) (λ (w : Walking) (l : List Event). IsWhere w.file w.shown l) (λ (w : Walking). key_seen w.shown.seen) machine r.keys list
          ⊎ EndsBy machine (lines_of r.alerts) list → IsAmong machine r.keys list ⊎ EndsBy machine (lines_of r.alerts) list
      by_case list (inl found) = inl (among machine r.keys list found.walker found.of found.there found.found)
      by_case list (inr ends) = inr ends

-- none of no alerts has ended a run
none_listed : (machine : MachineData) (alerts : List Alert) (list : List Event) → 0 ≡ length alerts → EndsBy machine (lines_of alerts) list
    → (run machine list).state.stopped ≡ false
none_listed machine [] list none ends = let less : ends.listed.0 < 0 = ends.listed.1.within in absurd (omega (arith, less))
none_listed machine (a ∷ rest) list none ends = absurd (omega (arith, none))

pub no_alert_comes : NoAlertComes
no_alert_comes machine name kinds text says list are = by_case (says.every refl list are)
  where
    by_case : IsAmong machine says.keys list ⊎ EndsBy machine (lines_of says.alerts) list → (run machine list).state.stopped ≡ false
    by_case (inl among) = among.going
    by_case (inr ends) = none_listed machine says.alerts list says.counts ends
