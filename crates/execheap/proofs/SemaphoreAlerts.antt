-- The alerts and the answers of the calls on semaphores by address, reported by number.
use Rattle.std.proofs.Common.{◌≡◌, ℕ, List, Bool, true, false, refl, ap, sym, ◌∙◌, Option, None, Some, IfOk, OnOk, codes, is_some, if◌then◌else◌}
use Rattle.execlist.specs.{Order.first, Pool.slot, Answers.fault_or, Answers.kept_or}
use Rattle.sigsem.specs.declared.fault.SemFault.TheVariants.{NotOwner, TooDeep}
use Rattle.sigsem.specs.{declared.fault.SemFault.SemFault, Semaphores.deep_fault, Semaphores.release_fault, Semaphores.is_last, Semaphores.is_owned, Semaphores.is_owner, Semaphores.is_too_deep}
use Rattle.sigsem.specs.Semaphores as sems
use Rattle.execmodel.specs.Semaphores.{free_sem_alert, heir, is_semaphore_at, obtain_alert, release_alert, sem_of, semaphore_alert}
use Rattle.execmodel.specs.State.{Heap}
use Rattle.execheap.specs.declared.tag.Kind.TheVariants as variant
use Rattle.execheap.specs.{Refusals.alert_of, Refusals.as_refusal, Numbered.Numbered, Numbered.IsSoundHeap, Numbered.shown_heap, Numbered.places, Table.number_at}
use Rattle.execheap.proofs.{Alerts.handle_unless, Alerts.refused_first, Matching.number_live, Shown.semaphore_at_shown, Shown.sem_shown, Shown.waiters_shown}
use Rattle.script.specs.declared.alert.Alert.TheVariants as an_alert
use Rattle.script.specs.declared.alert.Alert.{Alert}

-- ---- the alert of a semaphore

pub semaphore_refused : (s : Numbered) (semaphore : ℕ) → number_at variant.Semaphore semaphore s.table ≡ None
    → semaphore_alert semaphore (shown_heap s) ≡ Some an_alert.Handle
unfolding semaphore_alert
semaphore_refused s semaphore none = ap (λ b. handle_unless b None) (semaphore_at_shown s semaphore ∙ ap is_some none)

pub semaphore_found : (s : Numbered) (semaphore n : ℕ) → number_at variant.Semaphore semaphore s.table ≡ Some n → semaphore_alert semaphore (shown_heap s) ≡ None
unfolding semaphore_alert
semaphore_found s semaphore n found = ap (λ b. handle_unless b None) (semaphore_at_shown s semaphore ∙ ap is_some found)

-- ---- the alerts of calls of which that is the first test

-- a semaphore must not be so
abbrev pub sem_if : Bool → Option Alert
sem_if refused = if refused then Some an_alert.Sem else None

-- a semaphore has to be so
abbrev pub sem_unless : Bool → Option Alert
sem_unless holds = if holds then None else Some an_alert.Sem

module _ (semaphore : ℕ) (heap : Heap) {why : Alert} (refused : semaphore_alert semaphore heap ≡ Some why) where
  pub free_refused : free_sem_alert semaphore heap ≡ Some why
  unfolding free_sem_alert semaphore_alert
  free_refused = refused_first (is_semaphore_at semaphore heap) (sem_if (is_owned (sem_of semaphore heap))) refused

  pub obtain_refused : (t : ℕ) → obtain_alert t semaphore heap ≡ Some why
  unfolding obtain_alert semaphore_alert
  obtain_refused t = refused_first (is_semaphore_at semaphore heap) (sem_if (is_too_deep t (sem_of semaphore heap))) refused

  pub release_refused : (t : ℕ) → release_alert t semaphore heap ≡ Some why
  unfolding release_alert semaphore_alert
  release_refused t = refused_first (is_semaphore_at semaphore heap) (sem_unless (is_owner t (sem_of semaphore heap))) refused

module _ {s : Numbered} (sound : IsSoundHeap s) (n semaphore : ℕ) (here : slot (places variant.Semaphore s) n ≡ Some semaphore) where
  begins : number_at variant.Semaphore semaphore s.table ≡ Some n
  begins = number_live sound.table variant.Semaphore n semaphore here

  there : is_semaphore_at semaphore (shown_heap s) ≡ true
  there = semaphore_at_shown s semaphore ∙ ap is_some begins

  pub sem_of_shown : sem_of semaphore (shown_heap s) ≡ sems.sem_at n s.sems
  sem_of_shown = sem_shown s semaphore n begins

  pub heir_shown : heir semaphore (shown_heap s) ≡ sems.heir n s.sems
  unfolding heir
  heir_shown = λ i. if is_last (sem_of_shown i) then first (waiters_shown s semaphore n begins i) else None

  pub free_found : {owned : Bool} → is_owned (sems.sem_at n s.sems) ≡ owned → free_sem_alert semaphore (shown_heap s) ≡ sem_if owned
  unfolding free_sem_alert
  free_found is =
      ap (λ b. handle_unless b (sem_if (is_owned (sem_of semaphore (shown_heap s))))) there
      ∙ ap (λ sem. sem_if (is_owned sem)) sem_of_shown ∙ ap sem_if is

  pub obtain_found : (t : ℕ) → obtain_alert t semaphore (shown_heap s) ≡ sem_if (is_too_deep t (sems.sem_at n s.sems))
  unfolding obtain_alert
  obtain_found t =
      ap (λ b. handle_unless b (sem_if (is_too_deep t (sem_of semaphore (shown_heap s))))) there
      ∙ ap (λ sem. sem_if (is_too_deep t sem)) sem_of_shown

  pub release_found : (t : ℕ) → release_alert t semaphore (shown_heap s) ≡ sem_unless (is_owner t (sems.sem_at n s.sems))
  unfolding release_alert
  release_found t =
      ap (λ b. handle_unless b (sem_unless (is_owner t (sem_of semaphore (shown_heap s))))) there
      ∙ ap (λ sem. sem_unless (is_owner t sem)) sem_of_shown

-- ---- a call by number that may be refused

module _ {A : Type 0} where
  told_if : (b : Bool) (fault : SemFault) (answer : A) → alert_of (as_refusal (fault_or (if b then Some fault else None) answer)) ≡ sem_if b
  told_if true fault answer = refl
  told_if false fault answer = refl

  told_unless : (b : Bool) (fault : SemFault) (answer : A) → alert_of (as_refusal (fault_or (if b then None else Some fault) answer)) ≡ sem_unless b
  told_unless true fault answer = refl
  told_unless false fault answer = refl

  -- the answer of a call that was not refused
  pub told_answer : (fault : Option SemFault) (answer other : A) → answer ≡ other → IfOk (as_refusal (fault_or fault answer)) (λ a. a ≡ other)
  told_answer None answer other same = same
  told_answer (Some fault) answer other same = tt

  -- what such a call makes of things
  pub told_next : {B : Type 0} {P : Type 0} (fault : Option SemFault) (answer : A) (old new : B) → (kept_or fault old new ≡ new → P)
      → OnOk (as_refusal (fault_or fault answer)) P
  told_next None answer old new next = next refl
  told_next (Some fault) answer old new next = tt

  module _ {s : Numbered} (sound : IsSoundHeap s) (n semaphore : ℕ) (here : slot (places variant.Semaphore s) n ≡ Some semaphore) (t : ℕ) (answer : A) where
    pub obtain_told : alert_of (as_refusal (fault_or (deep_fault n t s.sems) answer)) ≡ obtain_alert t semaphore (shown_heap s)
    obtain_told = told_if (is_too_deep t (sems.sem_at n s.sems)) TooDeep answer ∙ sym (obtain_found sound n semaphore here t)

    pub release_told : alert_of (as_refusal (fault_or (release_fault n t s.sems) answer)) ≡ release_alert t semaphore (shown_heap s)
    release_told = told_unless (is_owner t (sems.sem_at n s.sems)) NotOwner answer ∙ sym (release_found sound n semaphore here t)
