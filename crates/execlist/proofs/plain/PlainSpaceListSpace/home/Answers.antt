-- The header of a linked node has it in its sequence, so it is one of the space.
use Rattle.std.proofs.Common.{◌∙◌, sym, arith}
use Rattle.execlist.specs.Plain.{sequences_of}
use Rattle.execlist.proofs.PlainLemmas.{home_header, read_home, if_some_from}
use Rattle.execlist.proofs.plain.PlainSpaceListSpace.home.Goals as goal

pub returns-clause-known : goal.returns-clause-known
returns-clause-known c =
    let s = c.args.self.now in
    if_some_from c.index.result.now (λ h e. home_header (sequences_of s.headers s.order.items s.homes.items) s.homes.items c.args.n h (s.stands h c.args.n) (sym (read_home s.homes.items c.args.n _ c.index.ensures (omega (arith, s.homes.ok.0, c.requires))) ∙ e))
