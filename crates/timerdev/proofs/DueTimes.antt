-- The time for which a request waits, reported by its home.
use Rattle.std.proofs.Common.{◌≡◌, ℕ, suc, ◌≤◌, Bool, true, false, cond, eqb, List, [], ◌∷◌, refl, sym, ap, ◌∙◌, arith, Option, Some, None, is_some, ◌==◌, if◌then◌else◌, find, option_map, eqb-true}
use Rattle.std.proofs.lemmas.Bool.{cond-true, cond-false}
use Rattle.execlist.specs.Lists.{home, is_at, times}
use Rattle.timerdev.specs.{Timing.AtClock, Timing.AtSystem, Timing.Due, Timing.Timer, Timing.Waiting, Held.due_at, Held.due_for, Held.due_in, Held.waiting_for, DueTimes.due_of}

-- the due time that is found among requests that wait
abbrev due_found : ℕ → List Waiting → Option Due
due_found r waiting = option_map (λ (w : Waiting). w.due) (find (λ (w : Waiting). w.request == r) waiting)

due_there : (due : ℕ → Due) (r : ℕ) (begun : List ℕ) → 1 ≤ times r begun → due_found r (waiting_for due begun) ≡ Some (due r)
due_there due r [] here = absurd (omega (arith, here))
due_there due r (x ∷ begun) here = by_case (eqb x r) refl here (due_there due r begun) where
  by_case : (b : Bool) → eqb x r ≡ b → 1 ≤ cond b (suc (times r begun)) (times r begun)
      → (1 ≤ times r begun → due_found r (waiting_for due begun) ≡ Some (due r)) → due_found r (waiting_for due (x ∷ begun)) ≡ Some (due r)
  by_case true e l ih = ap (option_map (λ (w : Waiting). w.due)) (cond-true _ _ _ e) ∙ ap (λ k. Some (due k)) (eqb-true x r e)
  by_case false e l ih = ap (option_map (λ (w : Waiting). w.due)) (cond-false _ _ _ e) ∙ ih l

due_nowhere : (due : ℕ → Due) (r : ℕ) (begun : List ℕ) → times r begun ≡ 0 → due_found r (waiting_for due begun) ≡ None
due_nowhere due r [] none = refl
due_nowhere due r (x ∷ begun) none = by_case (eqb x r) refl none (due_nowhere due r begun) where
  by_case : (b : Bool) → eqb x r ≡ b → cond b (suc (times r begun)) (times r begun) ≡ 0
      → (times r begun ≡ 0 → due_found r (waiting_for due begun) ≡ None) → due_found r (waiting_for due (x ∷ begun)) ≡ None
  by_case true e z ih = absurd (omega (arith, z))
  by_case false e z ih = ap (option_map (λ (w : Waiting). w.due)) (cond-false _ _ _ e) ∙ ih z

module _ (homes : List (Option ℕ)) (dues begun : List ℕ) (r : ℕ) (timer : Timer) (waiting : timer.waiting ≡ waiting_for (due_in homes dues) begun)
    (law : times r begun ≡ cond (is_some (home homes r)) 1 0) where
  pub not_due : home homes r ≡ None → None ≡ due_of r timer
  unfolding due_of
  not_due none = sym (ap (due_found r) waiting ∙ due_nowhere (due_in homes dues) r begun (law ∙ ap {B = ℕ} (λ o. cond (is_some o) 1 0) none))

  pub due_at_home : (h : ℕ) → home homes r ≡ Some h → Some (due_for h (due_at dues r)) ≡ due_of r timer
  unfolding due_of
  due_at_home h own = sym (ap (due_found r) waiting
      ∙ due_there (due_in homes dues) r begun (omega (arith, law, ap {B = ℕ} (λ o. cond (is_some o) 1 0) own))
      ∙ ap (λ o. Some (if is_at o 1 then AtSystem (due_at dues r) else AtClock (due_at dues r))) own)
