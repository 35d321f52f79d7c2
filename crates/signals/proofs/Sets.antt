-- Which signals a set has, after the operations on sets.
use Rattle.std.proofs.Common.{ℕ, zero, suc, ◌-◌, ◌*◌, ◌^◌, ◌≡◌, ◌≤◌, ◌<◌, not, ◌&&◌, ◌||◌, nat_eq, bit_or, min, max, refl, arith, ap, ◌∙◌, pow_pos, ne_eqb, eq-eqb, w32}
use Rattle.std.proofs.lemmas.Nat.Bits.{and_pow, bit_at-lt, bit_at_or, bit_at_and, bit_at_not}
use Rattle.std.specs.Int.{bit_at, bit_not}
use Rattle.signals.specs.Signals.{has_signal, without_bits}

-- a bit in its place is 0 exactly if it is 0
placed_bit : (bit power : ℕ) → bit < 2 → 0 < power → not (nat_eq (bit * power) 0) ≡ nat_eq bit 1
placed_bit zero power b p = ap not (eq-eqb _ _ (omega arith))
placed_bit (suc zero) power b p = ap not (ne_eqb _ _ (omega arith))
placed_bit (suc (suc n)) power b p = absurd (omega arith)

pub has_signal-bit : (set n : ℕ) → has_signal set n ≡ nat_eq (bit_at set n) 1
has_signal-bit set n =
    ap (λ common. not (nat_eq common 0)) (and_pow set n) ∙ placed_bit (bit_at set n) (2 ^ n) (bit_at-lt set n) (pow_pos n)

either_bit : (a b : ℕ) → a < 2 → b < 2 → nat_eq (max a b) 1 ≡ (nat_eq a 1 || nat_eq b 1)
either_bit zero zero p q = refl
either_bit zero (suc zero) p q = refl
either_bit (suc zero) zero p q = refl
either_bit (suc zero) (suc zero) p q = refl
either_bit (suc (suc a)) b p q = absurd (omega arith)
either_bit zero (suc (suc b)) p q = absurd (omega arith)
either_bit (suc zero) (suc (suc b)) p q = absurd (omega arith)

one_bit : (a b : ℕ) → a < 2 → b < 2 → nat_eq (min a (1 - b)) 1 ≡ (nat_eq a 1 && not (nat_eq b 1))
one_bit zero zero p q = refl
one_bit zero (suc zero) p q = refl
one_bit (suc zero) zero p q = refl
one_bit (suc zero) (suc zero) p q = refl
one_bit (suc (suc a)) b p q = absurd (omega arith)
one_bit zero (suc (suc b)) p q = absurd (omega arith)
one_bit (suc zero) (suc (suc b)) p q = absurd (omega arith)

pub has_signal-or : (a b n : ℕ) → has_signal (bit_or a b) n ≡ (has_signal a n || has_signal b n)
has_signal-or a b n =
    rw (has_signal-bit (bit_or a b) n, has_signal-bit a n, has_signal-bit b n, bit_at_or a b n)
    (either_bit (bit_at a n) (bit_at b n) (bit_at-lt a n) (bit_at-lt b n))

pub has_signal-without : (set mask n : ℕ) → mask < 2 ^ 32 → n ≤ 31 → has_signal (without_bits set mask) n ≡ (has_signal set n && not (has_signal mask n))
has_signal-without set mask n fits last =
    rw (has_signal-bit (without_bits set mask) n, has_signal-bit set n, has_signal-bit mask n, bit_at_and set (bit_not w32 mask) n, bit_at_not w32 mask n fits (omega arith))
    (one_bit (bit_at set n) (bit_at mask n) (bit_at-lt set n) (bit_at-lt mask n))
