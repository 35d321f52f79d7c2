-- Signals that are taken out of a set are not in it any more, and those that join one do not drive out others.
use Rattle.std.proofs.Common.{inl, inr, ◌≡◌, ℕ, ◌^◌, true, bit_or, ap, ◌∙◌, arith, bit_and, ◌||◌, w32}
use Rattle.std.specs.{Int.bit_not, Int.Bits.and_self, Int.Bits.and_zero_l, Int.Bits.and_zero_r}
use Rattle.std.proofs.lemmas.{Bool.cases_lt, Nat.and_assoc, Nat.and-not}
use Rattle.signals.specs.Signals.{has_signal, without_bits}
use Rattle.signals.proofs.Sets.{has_signal-or}

-- a mask and what it leaves have nothing in common
not_and : (mask : ℕ) → bit_and (bit_not w32 mask) mask ≡ 0
not_and mask =
    elim (cases_lt mask (2 ^ 32)) [
      | inl fits ↦ let all = and-not 32 mask mask fits fits in let one = and_self mask in omega (arith, all, one)
      | inr past ↦ let none : bit_not w32 mask ≡ 0 = omega (arith, past) in ap (λ n. bit_and n mask) none ∙ and_zero_l mask
    ]

pub nothing_left : (bits mask : ℕ) → bit_and (without_bits bits mask) mask ≡ 0
nothing_left bits mask =
    and_assoc mask bits (bit_not w32 mask) ∙ ap (λ n. bit_and bits n) (not_and mask) ∙ and_zero_r bits

-- what has a signal has it also if others join
pub signal_joined : (bits more n : ℕ) → has_signal bits n ≡ true → has_signal (bit_or bits more) n ≡ true
signal_joined bits more n e = has_signal-or bits more n ∙ ap (λ b. b || has_signal more n) e
