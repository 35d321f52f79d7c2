-- The proof of `exact`: a text's count is the number of ways that show it, and its way is the first of them.
use Rattle.std.proofs.Common.{◌≡◌, ◌∙◌, ◌+◌, [], arith}
use Rattle.ways.specs.Tables.{showing}
use Rattle.ways.proofs.Exact.{count-table, first-table}
use Rattle.ways.proofs.laws.exact.Goals as goal

pub returns-clause-count : goal.returns-clause-count
returns-clause-count c = λ seen ways text. let none : 0 + showing seen text ways ≡ showing seen text ways = omega arith in count-table seen text [] ways ∙ none

pub returns-clause-first : goal.returns-clause-first
returns-clause-first c = λ seen ways text. first-table seen text [] ways
