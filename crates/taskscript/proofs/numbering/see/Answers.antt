-- The proof of `see`.
use Rattle.std.proofs.Common.{◌≡◌, ◌∙◌, refl, arith, true, false, nat_lt}
use Rattle.std.proofs.lemmas.Bool.Decides.{nat_tests}
use Rattle.script.specs.Names.{texts}
use Rattle.taskscript.specs.Numbering.{place_of_name}
use Rattle.taskscript.proofs.Names.{number_texts, seen_texts}
use Rattle.taskscript.proofs.numbering.see.Goals as goal

pub returns-then-index-limit-clause-room : goal.returns-then-index-limit-clause-room
returns-then-index-limit-clause-room c =
    let same : c.in_ok-index.index ≡ place_of_name (texts c.args.names.now.keys) c.args.name.bytes = c.in_ok-index.ensures.index ∙ number_texts c.args.name.bytes c.args.names.now.keys in
    let room : nat_lt c.in_ok-index.index c.args.limit ≡ true = grind (arith, nat_tests) in
    rw same at room

pub returns-then-index-limit-clause-seen : goal.returns-then-index-limit-clause-seen
returns-then-index-limit-clause-seen c = rw c.in_ok-index.ensures.keys (seen_texts c.args.name c.args.names.now.keys)

pub returns-else-index-limit-clause-room : goal.returns-else-index-limit-clause-room
returns-else-index-limit-clause-room c =
    let same : c.in_ok-index.index ≡ place_of_name (texts c.args.names.now.keys) c.args.name.bytes = c.in_ok-index.ensures.index ∙ number_texts c.args.name.bytes c.args.names.now.keys in
    let full : nat_lt c.in_ok-index.index c.args.limit ≡ false = grind (arith, nat_tests) in
    λ _. (refl, rw same at full)
