-- The signals of a task as two sets, and what each call makes of them.
-- A set of signals is a word of 32 bits: bit n represents signal n.
use Rattle.std.specs.Prelude.{ℕ, ◌^◌, Bool, not, ◌&&◌, if◌then◌else◌, IsTrue, IsFalse, ◌≤◌, ◌<◌, MatchOption, nat_eq, nat_le, nat_lt, ℤ, pos, negsuc, zero, suc, List, [], ◌∷◌, find, Option, Some, None, bit_and, bit_or}
use Rattle.std.specs.Int.{bit_not, w32}

-- the signals that a task has received, and those that it has allocated (RKM Libraries, Exec Signals)
pub record SignalSets : Type 0 where
  pub received : ℕ
  pub allocated : ℕ

-- ---- sets of signals

-- signal n is in the set
abbrev pub has_signal : ℕ → ℕ → Bool
has_signal set n = not (nat_eq (bit_and set (2 ^ n)) 0)

-- the set less the signals of the mask
abbrev pub without_bits : ℕ → ℕ → ℕ
without_bits set mask = bit_and set (bit_not w32 mask)

-- ---- the sets of a task

-- the sets of a task that begins: no signal is received, and signals 0 to 15, the system's, are allocated (RKM
-- Libraries, Exec Signals)
abbrev pub initial_sets : SignalSets
initial_sets = record { received = 0; allocated = 0xffff }

-- Signal: the signals of the mask join the received ones (autodoc Signal)
abbrev pub after_post : ℕ → SignalSets → SignalSets
after_post mask sets = record { received = bit_or sets.received mask; allocated = sets.allocated }

-- what Wait returns: the received signals that are in the mask (autodoc Wait)
abbrev pub taken_signals : ℕ → SignalSets → ℕ
taken_signals mask sets = bit_and sets.received mask

-- Wait: the signals of the mask are removed from the received ones, and the others stay
abbrev pub after_take : ℕ → SignalSets → SignalSets
after_take mask sets = record { received = without_bits sets.received mask; allocated = sets.allocated }

-- SetSignal: inside the mask the received signals become those of `new`, and outside it they stay (autodoc SetSignal)
abbrev pub after_set : ℕ → ℕ → SignalSets → SignalSets
after_set new mask sets = record {
  received = bit_or (without_bits sets.received mask) (bit_and new mask);
  allocated = sets.allocated;
}

-- ---- allocating signals

-- the signals that a task may allocate, the highest first
abbrev pub own_signals : List ℕ
own_signals = 31 ∷ 30 ∷ 29 ∷ 28 ∷ 27 ∷ 26 ∷ 25 ∷ 24 ∷ 23 ∷ 22 ∷ 21 ∷ 20 ∷ 19 ∷ 18 ∷ 17 ∷ 16 ∷ []

-- the first of signals 31, 30, .., 16 that is not allocated, if there is one
unfoldable pub highest_free : ℕ → Option ℕ
highest_free allocated = find (λ n. not (has_signal allocated n)) own_signals

-- the signal is free, it is one of 16 to 31, and those above it are allocated; if there is none, all of 16 to 31 are
abbrev pub IsHighestFree : ℕ → Option ℕ → Type 0
IsHighestFree allocated signal = MatchOption signal
    ((k : ℕ) → 16 ≤ k → k < 32 → IsTrue (has_signal allocated k))
    (λ n. (16 ≤ n) × (n < 32) × IsFalse (has_signal allocated n)
    × ((k : ℕ) → n < k → k < 32 → IsTrue (has_signal allocated k)))

-- a signal from 16 to 31: one that a task may allocate
abbrev pub is_own_signal : ℕ → Bool
is_own_signal n = nat_le 16 n && nat_lt n 32

-- the signal that AllocSignal gives, if any: for -1 the highest free one, and for a number from 16 to 31 that signal if
-- it is free (autodoc AllocSignal)
abbrev pub grant : ℤ → SignalSets → Option ℕ
grant (pos n) sets = if is_own_signal n && not (has_signal sets.allocated n) then Some n else None
grant (negsuc zero) sets = highest_free sets.allocated
grant (negsuc (suc _)) sets = None

-- what AllocSignal returns: the number of the signal, or -1 if none is given
abbrev pub grant_number : Option ℕ → ℤ
grant_number None = negsuc 0
grant_number (Some n) = pos n

-- AllocSignal: a signal that is given becomes allocated, and is removed from the received ones
abbrev pub after_grant : Option ℕ → SignalSets → SignalSets
after_grant None sets = sets
after_grant (Some n) sets = record { received = without_bits sets.received (2 ^ n); allocated = bit_or sets.allocated (2 ^ n) }

-- FreeSignal: the signal is not allocated any more, and the received signals stay as they are (autodoc FreeSignal)
abbrev pub after_free : ℕ → SignalSets → SignalSets
after_free n sets = record { received = sets.received; allocated = without_bits sets.allocated (2 ^ n) }
