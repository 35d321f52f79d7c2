-- How the machine follows the plain words that calculate and jump.
use Rattle.std.proofs.Common.{◌≡◌, ℕ, ◌+◌, ◌-◌, ◌%◌, ◌^◌, subst, if◌then◌else◌, nat_eq, bit_and, bit_or}
use Rattle.execmodel.specs.{State.Call, Calls.Caller, Calls.argument, Calls.silent_by, Calls.goes_on, Plain.does_set_by, Plain.does_add_by, Plain.does_sub_by, Plain.does_and_by, Plain.does_or_by, Plain.jumps, Plain.does_jump, Plain.does_jump_zero, Plain.does_jump_not_zero}
use Rattle.execsim.specs.Agreement.{Seen, Quietly}
use Rattle.execsim.proofs.Following.{moves_scripts, quietly_moves}

module _ {m n : Seen} (c : Caller) (call : Call) where
  pub follows_set : (value : ℕ) → value ≡ argument 0 call → Quietly (silent_by c call value) m n → Quietly (does_set_by c call) m n
  follows_set value is follows = subst (λ v. Quietly (silent_by c call v) m n) is follows

  pub follows_add : (value : ℕ) → value ≡ (argument 0 call + argument 1 call) % 2 ^ 32 → Quietly (silent_by c call value) m n → Quietly (does_add_by c call) m n
  follows_add value is follows = subst (λ v. Quietly (silent_by c call v) m n) is follows

  pub follows_sub : (value : ℕ) → value ≡ (argument 0 call + (2 ^ 32 - argument 1 call)) % 2 ^ 32 → Quietly (silent_by c call value) m n → Quietly (does_sub_by c call) m n
  follows_sub value is follows = subst (λ v. Quietly (silent_by c call v) m n) is follows

  pub follows_and : (value : ℕ) → value ≡ bit_and (argument 0 call) (argument 1 call) → Quietly (silent_by c call value) m n → Quietly (does_and_by c call) m n
  follows_and value is follows = subst (λ v. Quietly (silent_by c call v) m n) is follows

  pub follows_or : (value : ℕ) → value ≡ bit_or (argument 0 call) (argument 1 call) → Quietly (silent_by c call value) m n → Quietly (does_or_by c call) m n
  follows_or value is follows = subst (λ v. Quietly (silent_by c call v) m n) is follows

module _ {m n : Seen} (t : ℕ) (call : Call) where
  pub follows_jump : (place : ℕ) → place ≡ argument 0 call → Quietly (jumps t place) m n → Quietly (does_jump t call) m n
  unfolding does_jump
  follows_jump place is follows = subst (λ p. Quietly (jumps t p) m n) is follows

  pub follows_jump_zero : (place : ℕ) → place ≡ (if nat_eq (argument 0 call) 0 then argument 1 call else call.next)
      → Quietly (jumps t place) m n → Quietly (does_jump_zero t call) m n
  unfolding does_jump_zero
  follows_jump_zero place is follows = subst (λ p. Quietly (jumps t p) m n) is follows

  pub follows_jump_not_zero : (place : ℕ) → place ≡ (if nat_eq (argument 0 call) 0 then call.next else argument 1 call)
      → Quietly (jumps t place) m n → Quietly (does_jump_not_zero t call) m n
  unfolding does_jump_not_zero
  follows_jump_not_zero place is follows = subst (λ p. Quietly (jumps t p) m n) is follows

pub follows_jumps : {m n : Seen} (t place : ℕ) → n ≡ record m { scripts = goes_on t place m.scripts } → Quietly (jumps t place) m n
unfolding jumps
follows_jumps t place is = quietly_moves (moves_scripts (goes_on t place) is)
