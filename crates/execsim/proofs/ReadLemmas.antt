-- Reading up to a limit.
use Rattle.std.proofs.Common.{◌≡◌, ◌∙◌, ap, sym, ◌≤◌, ◌-◌, ◌++◌, ◌+◌, ℕ, List, Option, length, length-append, arith}
use Rattle.std.proofs.KnownBytes.{Consumes-trans}
use Rattle.std.specs.Io.KnownBytes.{Consumes}
use Rattle.execsim.specs.declared.reading.ReadFault.TheVariants.{Failed, TooLong, OutOfMemory}
use Rattle.execsim.specs.{Reading.GaveBeforeFault, Reading.IsGivenBefore, declared.reading.ReadFault.ReadFault}

-- what came before a fault counts from where the reading began
given_in_all : (limit front n all : ℕ) (fault : ReadFault) → front ≤ limit → all ≡ front + n → IsGivenBefore (limit - front) fault n → IsGivenBefore limit fault all
given_in_all limit front n all TooLong short sum given = omega arith
given_in_all limit front n all Failed short sum given = omega arith
given_in_all limit front n all OutOfMemory short sum given = omega arith

-- a fault after n bytes that came is one of the whole reading
pub fault_after : (a b c : Option (List ℕ)) (limit n : ℕ) (front : List ℕ) (fault : ReadFault) → Consumes a b front → n ≡ length front → n ≤ limit
    → GaveBeforeFault (limit - n) fault b c → GaveBeforeFault limit fault a c
fault_after a b c limit n front fault came size short given = (
  front ++ given.0,
  Consumes-trans a b c front given.0 came given.1,
  given_in_all limit n (length given.0) _ fault short (length-append front given.0 ∙ ap (λ m. m + length given.0) (sym size)) given.2,
)
