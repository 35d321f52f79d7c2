-- Laws of the highest free signal: it is free, all higher ones are allocated, and no other signal is like that.
use Rattle.std.proofs.Common.{ℕ, zero, suc, ◌+◌, ◌≡◌, ◌≤◌, ◌<◌, Bool, true, false, not, List, [], ◌∷◌, refl, arith, Option, Some, None, MatchOption, find}
use Rattle.std.proofs.lemmas.Bool.{cond_both, not-true, not-false}
use Rattle.signals.specs.Signals.{has_signal, highest_free, IsHighestFree}

-- the k signals from 16 on, the highest first
abbrev countdown : ℕ → List ℕ
countdown zero = []
countdown (suc k) = (16 + k) ∷ countdown k

-- the signal, if any, is the highest of the k from 16 on that fails the test
abbrev IsHighestOf : (ℕ → Bool) → ℕ → Option ℕ → Type 0
IsHighestOf test k signal = MatchOption signal
    ((i : ℕ) → 16 ≤ i → i < 16 + k → test i ≡ true)
    (λ n. (16 ≤ n) × (n < 16 + k) × (test n ≡ false) × ((i : ℕ) → n < i → i < 16 + k → test i ≡ true))

find-countdown : (test : ℕ → Bool) (k : ℕ) → IsHighestOf test k (find (λ n. not (test n)) (countdown k))
find-countdown test zero = λ i p q. absurd (omega arith)
find-countdown test (suc k) =
    cond_both (not (test (16 + k))) (Some (16 + k)) (find (λ n. not (test n)) (countdown k)) (IsHighestOf test (suc k))
    (λ e. (omega arith, omega arith, not-true _ e, λ i p q. absurd (omega arith)))
    (λ e. grind (arith, find-countdown test k, not-false _ e))

pub highest_free-is_highest : (allocated : ℕ) → IsHighestFree allocated (highest_free allocated)
unfolding highest_free
highest_free-is_highest allocated = find-countdown (has_signal allocated) 16

one_highest : (test : ℕ → Bool) (a b : Option ℕ) → IsHighestOf test 16 a → IsHighestOf test 16 b → a ≡ b
one_highest test None None p q = refl
one_highest test None (Some m) p q = grind arith
one_highest test (Some n) None p q = grind arith
one_highest test (Some n) (Some m) p q = grind arith

-- two signals like that are one
pub highest_free-only : (allocated : ℕ) (signal : Option ℕ) → IsHighestFree allocated signal → signal ≡ highest_free allocated
highest_free-only allocated signal h = one_highest (has_signal allocated) signal (highest_free allocated) h (highest_free-is_highest allocated)
