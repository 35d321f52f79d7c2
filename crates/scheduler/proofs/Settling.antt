-- A settled schedule is what rescheduling makes of it.
use Rattle.std.proofs.Common.{◌≡◌, ℕ, Bool, true, false, cond, Option, Some, None, refl, sym, ap, ◌∙◌}
use Rattle.std.proofs.lemmas.Bool.{not-true}
use Rattle.execlist.specs.Disciplines.{by_priority}
use Rattle.scheduler.proofs.ScheduleLemmas.{rescheduled-is}
use Rattle.scheduler.specs.{Schedule.Schedule, Schedule.renewed, Dispatch.switch_of, Dispatch.after_switch, Dispatch.rescheduled, Settled.begins_anew, Settled.stays, Settled.is_settled, declared.Switch.Switch}

-- if no quantum begins anew nothing is renewed
renewed_none : (o : Option ℕ) (s : Schedule) → begins_anew o s ≡ false → renewed o s ≡ s
renewed_none None s e = refl
renewed_none (Some r) s e = ap (λ b. cond b (record s { left = s.quantum }) s) e

-- what stays is what is made of the switch
pub made_nothing : (w : Option Switch) (s : Schedule) → stays w s ≡ true → (None ≡ w) × (s ≡ after_switch by_priority w s)
made_nothing None s e = (refl, sym (renewed_none s.running s (not-true _ e)))
made_nothing (Some w) s e = cc

-- a settled schedule is what rescheduling makes of it
settled_stays : (s : Schedule) → is_settled s ≡ true → (None ≡ switch_of by_priority s) × (s ≡ rescheduled by_priority s)
unfolding is_settled
settled_stays s e =
    let nothing = made_nothing (switch_of by_priority s) s e in
    (nothing.0, nothing.1 ∙ rescheduled-is s (switch_of by_priority s) refl)

-- a schedule that is known to be settled
pub settled_known : (settled : Bool) (s now : Schedule) → settled ≡ true → cond settled (is_settled s) true ≡ true → s ≡ now
    → (None ≡ switch_of by_priority now) × (now ≡ rescheduled by_priority now)
settled_known settled s now e kept v =
    settled_stays now (ap is_settled (sym v) ∙ sym (ap (λ b. cond b (is_settled s) true) e) ∙ kept)

-- a schedule is settled if the switch that is due stays
pub settled_found : (w : Option Switch) (s now : Schedule) → w ≡ switch_of by_priority now → stays w now ≡ true → s ≡ now → is_settled s ≡ true
unfolding is_settled
settled_found w s now e t v = ap is_settled v ∙ ap (λ o. stays o now) (sym e) ∙ t
