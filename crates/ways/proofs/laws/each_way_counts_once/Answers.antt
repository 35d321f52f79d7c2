-- The proof of `each_way_counts_once`: no way is lost and none is made.
use Rattle.std.proofs.Common.{◌≡◌, ◌∙◌, ◌+◌, [], length, arith}
use Rattle.ways.proofs.Tables.{total-table}
use Rattle.ways.proofs.laws.each_way_counts_once.Goals as goal

pub returns : goal.returns
returns c = λ seen ways. let none : 0 + length ways ≡ length ways = omega arith in total-table seen [] ways ∙ none
