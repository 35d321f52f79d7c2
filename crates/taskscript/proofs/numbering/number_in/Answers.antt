-- The proof of `number_in`.
use Rattle.std.proofs.Common.{bytes_eq, ◌∙◌}
use Rattle.arrayvec.specs.ArrayString.{ArrayString}
use Rattle.taskscript.proofs.Names.{number_texts, position_found, position_lacking}
use Rattle.taskscript.proofs.numbering.number_in.Goals as goal

pub returns-in-Some : goal.returns-in-Some
returns-in-Some c = position_found (λ (k : ArrayString). bytes_eq c.args.name.bytes k.bytes) c.args.names.now.keys c.in-Some.index c.in-Some.ensures.index ∙ number_texts c.args.name.bytes c.args.names.now.keys

pub returns-in-None : goal.returns-in-None
returns-in-None c = c.len.ensures.len ∙ position_lacking (λ (k : ArrayString). bytes_eq c.args.name.bytes k.bytes) c.args.names.now.keys c.in-None.ensures.index ∙ number_texts c.args.name.bytes c.args.names.now.keys
