-- What a sink is, and what a call writes to one.
use Rattle.std.specs.Prelude.{◌≡◌, ◌≢◌, ℕ, zero, suc, ◌+◌, ◌<◌, ◌≤◌, ◌⊎◌, List, ◌++◌, length, take, MatchResult, Option, Result}
use Rattle.std.specs.Io.KnownBytes.{Appends, Keeps}
use Rattle.exectrace.specs.declared.sinks.SinkState.TheVariants.{Good, Empty, Failed}
use Rattle.exectrace.specs.declared.sinks.SinkState.{SinkState}

-- what a sink reports: the bytes that it has taken, if they are known, and its state
pub record Tape : Type 0 where
  pub taken : Option (List ℕ)
  pub state : SinkState

-- how many of the last writes took no byte, one after another
abbrev pub empties : SinkState → ℕ
empties Good = 0
empties (Empty k) = k
empties Failed = 0

-- the state after a write that took n bytes
abbrev pub after_taking : SinkState → ℕ → SinkState
after_taking state zero = Empty (empties state + 1)
after_taking state (suc n) = Good

-- what a `write` does by its answer: `Ok(n)` took the first n bytes, an error took none
abbrev pub Takes : {E : Type 0} → Tape → Tape → List ℕ → Result ℕ E → Type 0
Takes old new bytes result =
    MatchResult result
    (λ n. (n ≤ length bytes) × Appends old.taken new.taken (take n bytes) × (new.state ≡ after_taking old.state n))
    (λ _. Keeps old.taken new.taken × (new.state ≡ Failed))

-- From one tape to another all these bytes were taken, and the sink is good.
pub record TakesAll (old new : Tape) (bytes : List ℕ) : Type 0 where
  pub took : Appends old.taken new.taken bytes
  pub good : new.state ≡ Good

-- From one tape to another only a prefix of these bytes was taken, and the sink takes no more:
-- its last write answered an error, or its last 16 took no byte.
pub record Breaks (old new : Tape) (bytes : List ℕ) : Type 0 where
  pub written : List ℕ
  pub missing : List ℕ
  pub parts : bytes ≡ written ++ missing
  pub short : 0 < length missing
  pub took : Appends old.taken new.taken written
  pub stopped : (new.state ≡ Failed) ⊎ (new.state ≡ Empty 16)

-- a call that was given a good sink wrote these bytes at Ok, and a part of them at Err
abbrev pub Writes : {T E : Type 0} → Tape → Tape → List ℕ → Result T E → Type 0
Writes old new bytes result = MatchResult result (λ _. TakesAll old new bytes) (λ _. Breaks old new bytes)

-- A call that does not fail wrote these bytes to a good sink, or broke off among them; a sink that was not good is left
-- alone. So a sink's own state reports at the end whether all was written, and one such call may follow another.
pub record Puts (old new : Tape) (bytes : List ℕ) : Type 0 where
  pub while_good : old.state ≡ Good → TakesAll old new bytes ⊎ Breaks old new bytes
  pub afterwards : old.state ≢ Good → new ≡ old

-- A text was added to a line that is built before it is handed over: what of the line was not yet handed over, and the
-- text after it, is what was handed over meanwhile and what is left.
pub record Adds (old new : Tape) (before after text : List ℕ) : Type 0 where
  pub handed : List ℕ
  pub puts : Puts old new handed
  pub whole : before ++ text ≡ handed ++ after
