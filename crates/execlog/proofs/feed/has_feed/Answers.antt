-- No bit of the mask is set.
use Rattle.std.proofs.Common.{◌≡◌, arith}
use Rattle.std.proofs.lemmas.Bool.Decides.{nat_tests}
use Rattle.execlog.proofs.Feeds.{feeds, no_feed}
use Rattle.execlog.proofs.feed.has_feed.Goals as goal

pub returns : goal.returns
returns g c =
    λ none k within.
    let zero : feeds c.args.at g.row.N c.args.text.now ≡ 0 = grind (arith, nat_tests, none) in
    (no_feed c.args.text.now c.args.at g.row.N c.requires.within c.requires.few zero).before k within within
