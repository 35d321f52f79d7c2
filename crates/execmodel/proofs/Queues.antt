-- A queue that takes each arrival last, serves the first, and may lose any: it serves in order of arrival.
use Rattle.std.proofs.Common.{◌≡◌, ◌≢◌, ℕ, Bool, true, false, List, [], ◌∷◌, ◌++◌, refl, sym, ap, ◌∙◌, subst, append-nil, append_assoc, not, cond, if◌then◌else◌, nat_eq, filter, drop}
use Rattle.memlist.proofs.Answered.{nat_eq-same, nat_eq-other}
use Rattle.std.proofs.lemmas.List.Elements.{filter-append}
use Rattle.execlist.specs.Order.{without_item}
use Rattle.execmodel.specs.Queues.{Turn, Came, Served, Left, is_to_leave, staying, comers, IsInOrder}

-- one is not in a queue
abbrev pub IsAway : ℕ → List ℕ → Type 0
IsAway who [] = Unit {0}
IsAway who (other ∷ rest) = (who ≢ other) × IsAway who rest

-- nobody is in a queue twice
abbrev pub IsOnce : List ℕ → Type 0
IsOnce [] = Unit {0}
IsOnce (who ∷ rest) = IsAway who rest × IsOnce rest

-- what one turn makes of a queue
abbrev pub Turns : Turn → List ℕ → List ℕ → Type 0
Turns (Came who) old new = IsAway who old × (new ≡ old ++ who ∷ [])
Turns (Served who) old new = old ≡ who ∷ new
Turns (Left who) old new = new ≡ without_item who old

-- what turns make of a queue, one after another
abbrev pub Follows : List ℕ → List Turn → List ℕ → Type 0
Follows old [] new = new ≡ old
Follows old (turn ∷ turns) new = (mid : List ℕ) × Turns turn old mid × Follows mid turns new

pub follows_more : (old : List ℕ) (some : List Turn) (mid : List ℕ) (more : List Turn) (new : List ℕ)
    → Follows old some mid → Follows mid more new → Follows old (some ++ more) new
follows_more old [] mid more new f g = subst (λ q. Follows q more new) f g
follows_more old (turn ∷ some) mid more new f g = (f.0, f.1, follows_more f.0 some mid more new f.2 g)

-- ---- nobody is twice

pub away_more : (who other : ℕ) (q : List ℕ) → IsAway who q → who ≢ other → IsAway who (q ++ other ∷ [])
away_more who other [] away apart = (apart, tt)
away_more who other (x ∷ q) away apart = (away.0, away_more who other q away.1 apart)

once_more : (who : ℕ) (q : List ℕ) → IsOnce q → IsAway who q → IsOnce (q ++ who ∷ [])
once_more who [] once away = (tt, tt)
once_more who (x ∷ q) once away = (away_more x who q once.0 (λ e. away.0 (sym e)), once_more who q once.1 away.1)

away_cond : (b : Bool) (who x : ℕ) (q : List ℕ) → who ≢ x → IsAway who q → IsAway who (cond b (x ∷ q) q)
away_cond true who x q apart away = (apart, away)
away_cond false who x q apart away = away

pub away_without : (who other : ℕ) (q : List ℕ) → IsAway who q → IsAway who (without_item other q)
away_without who other [] away = tt
away_without who other (x ∷ q) away = away_cond (not (nat_eq x other)) who x (without_item other q) away.0 (away_without who other q away.1)

once_cond : (b : Bool) (x : ℕ) (q : List ℕ) → IsAway x q → IsOnce q → IsOnce (cond b (x ∷ q) q)
once_cond true x q away once = (away, once)
once_cond false x q away once = once

pub away_drop : (who : ℕ) (q : List ℕ) → IsAway who q → IsAway who (drop 1 q)
away_drop who [] away = tt
away_drop who (x ∷ q) away = away.1

pub once_without : (other : ℕ) (q : List ℕ) → IsOnce q → IsOnce (without_item other q)
once_without other [] once = tt
once_without other (x ∷ q) once = once_cond (not (nat_eq x other)) x (without_item other q) (away_without x other q once.0) (once_without other q once.1)

turns_once : (turn : Turn) (old new : List ℕ) → IsOnce old → Turns turn old new → IsOnce new
turns_once (Came who) old new once t = subst (λ q. IsOnce q) (sym t.1) (once_more who old once t.0)
turns_once (Served who) old new once t = (subst (λ q. IsOnce q) t once).1
turns_once (Left who) old new once t = subst (λ q. IsOnce q) (sym t) (once_without who old once)

pub follows_once : (old : List ℕ) (turns : List Turn) (new : List ℕ) → IsOnce old → Follows old turns new → IsOnce new
follows_once old [] new once f = subst (λ q. IsOnce q) (sym f) once
follows_once old (turn ∷ turns) new once f = follows_once f.0 turns new (turns_once turn old f.0 once f.1) f.2

-- ---- first come, first served

-- one who comes last
came_staying : (b : Bool) (who : ℕ) (kept later : List ℕ)
    → kept ++ (if b then later else who ∷ later) ≡ (kept ++ (cond (not b) (who ∷ []) [])) ++ later
came_staying true who kept later = ap (λ q. q ++ later) (sym (append-nil kept))
came_staying false who kept later = sym (append_assoc kept (who ∷ []) later)

-- those who are not served now
others_stay : (who : ℕ) (turns : List Turn) (q : List ℕ) → IsAway who q → staying (Served who ∷ turns) q ≡ staying turns q
others_stay who turns [] away = refl
others_stay who turns (x ∷ q) away =
    ap (λ b. cond (not (if b then false else is_to_leave x turns)) (x ∷ staying (Served who ∷ turns) q) (staying (Served who ∷ turns) q))
    (nat_eq-other x who (λ e. away.0 (sym e)))
    ∙ ap (λ r. cond (not (is_to_leave x turns)) (x ∷ r) r) (others_stay who turns q away.1)

-- one who leaves now
leaver_tested : (b : Bool) (x : ℕ) (later : Bool) (q r : List ℕ) → q ≡ r
    → cond (not (if b then true else later)) (x ∷ q) q ≡ cond (not b) (cond (not later) (x ∷ r) r) r
leaver_tested true x later q r e = e
leaver_tested false x later q r e = ap (λ s. cond (not later) (x ∷ s) s) e

filter_cond : (p : ℕ → Bool) (b : Bool) (x : ℕ) (q : List ℕ) → filter p (cond b (x ∷ q) q) ≡ cond b (filter p (x ∷ q)) (filter p q)
filter_cond p true x q = refl
filter_cond p false x q = refl

leaver_goes : (who : ℕ) (turns : List Turn) (q : List ℕ) → staying (Left who ∷ turns) q ≡ staying turns (without_item who q)
leaver_goes who turns [] = refl
leaver_goes who turns (x ∷ q) =
    leaver_tested (nat_eq x who) x (is_to_leave x turns) (staying (Left who ∷ turns) q) (staying turns (without_item who q)) (leaver_goes who turns q)
    ∙ sym (filter_cond (λ other. not (is_to_leave other turns)) (not (nat_eq x who)) x (without_item who q))

turn_in_order : (turn : Turn) (turns : List Turn) (old mid last : List ℕ) → IsOnce old → Turns turn old mid
    → IsInOrder mid turns last → IsInOrder old (turn ∷ turns) last
turn_in_order (Came who) turns old mid last once t order =
    came_staying (is_to_leave who turns) who (staying turns old) (comers turns)
    ∙ ap (λ q. q ++ comers turns) (sym (filter-append (λ other. not (is_to_leave other turns)) old (who ∷ [])))
    ∙ ap (λ q. staying turns q ++ comers turns) (sym t.1)
    ∙ order
turn_in_order (Served who) turns old mid last once t order =
    ap (λ q. staying (Served who ∷ turns) q ++ comers turns) t
    ∙ ap (λ b. cond (not (if b then false else is_to_leave who turns)) (who ∷ staying (Served who ∷ turns) mid) (staying (Served who ∷ turns) mid) ++ comers turns) (nat_eq-same who)
    ∙ ap (λ q. who ∷ (q ++ comers turns)) (others_stay who turns mid (subst (λ q. IsOnce q) t once).0)
    ∙ ap (λ q. who ∷ q) order
turn_in_order (Left who) turns old mid last once t order =
    ap (λ q. q ++ comers turns) (leaver_goes who turns old)
    ∙ ap (λ q. staying turns q ++ comers turns) (sym t)
    ∙ order

stays_all : (q : List ℕ) → staying [] q ≡ q
stays_all [] = refl
stays_all (x ∷ q) = ap (λ r. x ∷ r) (stays_all q)

pub in_order : (old : List ℕ) (turns : List Turn) (new : List ℕ) → IsOnce old → Follows old turns new → IsInOrder old turns new
in_order old [] new once f = append-nil (staying [] old) ∙ stays_all old ∙ sym f
in_order old (turn ∷ turns) new once f =
    turn_in_order turn turns old f.0 new once f.1 (in_order f.0 turns new (turns_once turn old f.0 once f.1) f.2)
