-- How deep a task has nested Forbid and Disable, and what each call makes of it.
use Rattle.std.specs.Prelude.{Bool, ◌&&◌, if◌then◌else◌, ℤ, pos, negsuc, ◌+ℤ◌, ◌-ℤ◌, ◌≤ℤ◌, int_lt, Option, Some, None, option_map}
use Rattle.std.specs.Ordering.{int_eq}

-- the two counts of a task: the number of its calls of Forbid minus that of Permit, minus one; and the number of its
-- calls of Disable minus that of Enable, minus one (RKM Libraries, Exec Tasks: forbidding)
pub record Nesting : Type 0 where
  pub forbids : ℤ
  pub disables : ℤ

-- -1, the count of a task that is not inside a pair of calls
abbrev pub not_nested : ℤ
not_nested = negsuc 0

-- 127, the greatest count
abbrev pub most_nested : ℤ
most_nested = pos 127

-- both counts begin at -1
abbrev pub initial_nesting : Nesting
initial_nesting = record { forbids = not_nested; disables = not_nested }

-- both counts lie from -1 to 127
pub record IsInRange (nesting : Nesting) : Type 0 where
  pub least_forbids : not_nested ≤ℤ nesting.forbids
  pub greatest_forbids : nesting.forbids ≤ℤ most_nested
  pub least_disables : not_nested ≤ℤ nesting.disables
  pub greatest_disables : nesting.disables ≤ℤ most_nested

-- the count one level deeper; none if it is 127 already
abbrev pub count_inside : ℤ → Option ℤ
count_inside count = if int_lt count most_nested then Some (count +ℤ pos 1) else None

-- the count one level less deep; none if it is -1 already
abbrev pub count_outside : ℤ → Option ℤ
count_outside count = if int_lt not_nested count then Some (count -ℤ pos 1) else None

-- the nesting with another count of Forbid and Permit
abbrev pub with_forbids : Nesting → ℤ → Nesting
with_forbids nesting count = record { forbids = count; disables = nesting.disables }

-- the nesting with another count of Disable and Enable
abbrev pub with_disables : Nesting → ℤ → Nesting
with_disables nesting count = record { forbids = nesting.forbids; disables = count }

-- ---- the four calls: the nesting after the call, or none if the call is a fault

-- the nesting after a Forbid; none if the count is 127 already (autodoc Forbid; the refusal: project rule)
abbrev pub after_forbid : Nesting → Option Nesting
after_forbid nesting = option_map (with_forbids nesting) (count_inside nesting.forbids)

-- the nesting after a Permit; none if the count of Forbid is -1 (autodoc Permit; the refusal: project rule)
abbrev pub after_permit : Nesting → Option Nesting
after_permit nesting = option_map (with_forbids nesting) (count_outside nesting.forbids)

-- the nesting after a Disable; none if the count is 127 already (autodoc Disable; the refusal: project rule)
abbrev pub after_disable : Nesting → Option Nesting
after_disable nesting = option_map (with_disables nesting) (count_inside nesting.disables)

-- the nesting after an Enable; none if the count of Disable is -1 (autodoc Enable; the refusal: project rule)
abbrev pub after_enable : Nesting → Option Nesting
after_enable nesting = option_map (with_disables nesting) (count_outside nesting.disables)

-- ---- what the running task's nesting allows

-- another task may be given the processor: the running task is inside neither Forbid nor Disable (autodocs Forbid and
-- Disable)
abbrev pub may_switch : Nesting → Bool
may_switch nesting = int_eq nesting.forbids not_nested && int_eq nesting.disables not_nested

-- an interrupt may be served: the running task is not inside Disable
abbrev pub may_interrupt : Nesting → Bool
may_interrupt nesting = int_eq nesting.disables not_nested
