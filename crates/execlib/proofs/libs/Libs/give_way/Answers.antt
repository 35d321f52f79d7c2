-- A loaded library lies in a block.
use Rattle.std.proofs.Common.{sym, ◌∙◌}
use Rattle.execlib.proofs.Asking.{library_block}
use Rattle.execlib.proofs.libs.Libs.give_way.Goals as goal

pub remove-requires-clause-block : goal.remove-requires-clause-block
remove-requires-clause-block g c = library_block c.args.i c.args.self.now c.args.memory.now c.requires.blocks (sym c.is_loaded.ensures ∙ c.if-is_loaded.true)
