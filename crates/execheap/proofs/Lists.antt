-- Lists made and freed.
use Rattle.std.proofs.Common.{◌≡◌, ℕ, suc, List, [], ◌∷◌, true, false, cond, map, refl, ap, sym, ◌∙◌, arith, Some, None, Option, is_some, if◌then◌else◌, nat_eq}
use Rattle.memlist.proofs.Answered.{nat_eq-same}
use Rattle.execlist.specs.Lists.{home, is_at, sequence, times}
use Rattle.execmodel.specs.{State.ListHead, Memory.freed, Memory.placed}
use Rattle.execheap.proofs.{Tagging.either_number, Beside.objects_kept, Beside.public_kept, Beside.timer_kept, InTime.along_same, Made.IsMade, Made.IsFreed, Made.IsLoose, Made.own_kept, Made.vacant, Made.apart, Made.kept_new, Made.shown_new, Made.apart_left, Made.kept_left, Made.shown_left}
use Rattle.execheap.specs.declared.tag.Kind.TheVariants as variant
use Rattle.execheap.specs.{Table.Tabled, Table.slots_of, Numbered.Numbered, Numbered.IsKept, Numbered.address_in, Numbered.shown_memory}

-- what every list space reports of sequences and homes
abbrev pub Stands : Numbered → Type 0
Stands s = (h n : ℕ) → times n (sequence s.sequences h) ≡ (if is_at (home s.homes n) h then 1 else 0)

-- a sequence without a number is empty
pub none_there : (xs : List ℕ) → ((m : ℕ) → times m xs ≡ 0) → xs ≡ []
none_there [] none = refl
none_there (x ∷ xs) none = let more : suc (times x xs) ≡ 0 = sym (ap (λ b. cond b (suc (times x xs)) (times x xs)) (nat_eq-same x)) ∙ none x in absurd (omega (arith, more))

no_home : (o : Option ℕ) (h : ℕ) → (o ≡ Some h → true ≡ false) → is_at o h ≡ false
no_home None h none = refl
no_home (Some k) h none = either_number k h (λ b. b ≡ false) (λ same. none (ap Some same)) (λ other. refl)

-- a list that has no node is not a node's home
no_node : (s : Numbered) (n : ℕ) → Stands s → sequence s.sequences n ≡ [] → IsLoose variant.List n s
no_node s n stands empty m h linked same =
    let at : is_at (home s.homes m) n ≡ true = ap (λ o. is_at o n) linked ∙ ap (λ k. nat_eq k n) same ∙ nat_eq-same n in
    let none : 0 ≡ times m (sequence s.sequences n) = sym (ap (times m) empty) in
    let once : times m (sequence s.sequences n) ≡ 1 = stands n m ∙ ap (λ b. if b then 1 else 0) at in
    omega (arith, none, once)

module _ {s : Numbered} {n a : ℕ} {t : Tabled} where
  pub list_made_shown : IsMade variant.List s n a t → Stands s → shown_memory (record s { table = t }) ≡ placed 14 (ListHead []) (Some a) (shown_memory s)
  list_made_shown made stands =
      shown_new made (record s { table = t }) (ListHead []) refl refl
      (λ k m b lives. objects_kept s t (apart made variant.Node (omega arith)) (apart made variant.Message (omega arith)) (apart made variant.Request (omega arith)) k m)
      (ap (λ nodes. ListHead (map (address_in (slots_of variant.Node t)) nodes))
      (none_there (sequence s.sequences n) (λ m. stands n m ∙ ap (λ b. if b then 1 else 0)
      (no_home (home s.homes m) n (λ at. sym (made.kept.live_lists m n at) ∙ ap is_some (vacant made))))))
      (public_kept s (record s { table = t }) (apart made variant.Port (omega arith)) refl refl)
      (timer_kept s (record s { table = t }) (apart made variant.Request (omega arith)) refl)

  pub list_made_kept : IsMade variant.List s n a t → IsKept (record s { table = t })
  list_made_kept made = kept_new made (record s { table = t }) refl refl refl (λ k other. own_kept s (record s { table = t }) (ap (λ u. u.pool) made.is) refl refl refl k) tt made.kept.apt
      (along_same refl refl refl)

  pub list_freed_shown : IsFreed variant.List s n a t → shown_memory (record s { table = t }) ≡ freed a (shown_memory s)
  list_freed_shown gone =
      shown_left gone (record s { table = t }) refl refl
      (λ k m b other lives. objects_kept s t (apart_left gone variant.Node (omega arith)) (apart_left gone variant.Message (omega arith)) (apart_left gone variant.Request (omega arith)) k m)
      (public_kept s (record s { table = t }) (apart_left gone variant.Port (omega arith)) refl refl)
      (timer_kept s (record s { table = t }) (apart_left gone variant.Request (omega arith)) refl)

  pub list_freed_kept : IsFreed variant.List s n a t → Stands s → sequence s.sequences n ≡ [] → IsKept (record s { table = t })
  list_freed_kept gone stands empty =
      kept_left gone (record s { table = t }) refl refl refl (λ k other. own_kept s (record s { table = t }) (ap (λ u. u.pool) gone.is) refl refl refl k) tt (no_node s n stands empty) gone.kept.apt
      (along_same refl refl refl)
