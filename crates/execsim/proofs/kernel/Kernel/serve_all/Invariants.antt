-- What holds in the loops of `Kernel::serve_all`: all that asks is served, if interrupts are allowed: there are three
-- sources, and no serving sets a latch.
use Rattle.std.proofs.Common.{◌≡◌, ℕ, ◌+◌}
use Rattle.execmodel.specs.Interrupts.{servings}
use Rattle.execsim.specs.Agreement.{Follows, Seen}
use Rattle.execsim.proofs.kernel.Kernel.serve_all.Given as goal

-- what the servings that are left do ends what all of them do
abbrev pub invariant-loop-turn : goal.invariant-loop-turn
invariant-loop-turn g l = (left : ℕ) → left + l._turn ≡ 3 → (n : Seen) (c : g.W.Witness.hearing.Told) → Follows g.W.Witness.hearing (servings left) l.self n (g.W.Witness.told l.out) c
    → Follows g.W.Witness.hearing (servings 3) l.initial.self n (g.W.Witness.told l.initial.out) c
