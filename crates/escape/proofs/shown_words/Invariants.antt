-- Those so far.
use Rattle.std.proofs.Common.{◌≡◌, map, take, string_bytes}
use Rattle.escape.specs.Shown.{shown}
use Rattle.escape.proofs.shown_words.Given as goal

abbrev pub invariant-loop-word : goal.invariant-loop-word
invariant-loop-word l = map string_bytes l.out.items ≡ map (λ word. shown word.now) (take l.word-index l.words)
