-- The first node of the name is the first library of the name.
use Rattle.std.proofs.Common.{length, map, ap, ◌∙◌, find}
use Rattle.execlist.specs.Lists.{is_named, sequence}
use Rattle.execlib.specs.Libraries.{Libraries, description_of, number_of, numbers}
use Rattle.execlib.proofs.Names.{found}
use Rattle.execlib.proofs.libs.Libs.number_of.Goals as goal

pub returns-clause-value : goal.returns-clause-value
returns-clause-value g c =
    let name = c.args.name.now in
    let libraries = map description_of c.self.inside.known.items in
    c.find_name.ensures.value
    ∙ ap (λ s. find (is_named (g.S.ListSpace.keys c.self.inside.names) name) (sequence s 0)) c.self.invariant.listed
    ∙ ap (λ k. find (is_named k name) (numbers (length libraries))) c.self.invariant.named
    ∙ found name libraries
    ∙ ap (λ (m : Libraries). number_of name m) c.self.view_is
