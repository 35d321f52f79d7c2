-- The first line feed is the lowest bit of the mask.
use Rattle.execlog.proofs.Feeds.{first_feed, no_feed}
use Rattle.execlog.proofs.feed.part_len.Goals as goal

pub returns-then-feeds-eq0-clause-before : goal.returns-then-feeds-eq0-clause-before
returns-then-feeds-eq0-clause-before g c = (no_feed c.args.text.now c.args.at g.row.N c.requires.within c.requires.few c.if-feeds-eq0.true).before

pub returns-else-feeds-eq0-clause-before : goal.returns-else-feeds-eq0-clause-before
returns-else-feeds-eq0-clause-before g c = (first_feed c.args.text.now c.args.at g.row.N c.requires.within c.requires.few c.if-feeds-eq0.false).before

pub returns-else-feeds-eq0-clause-feed : goal.returns-else-feeds-eq0-clause-feed
returns-else-feeds-eq0-clause-feed g c = (first_feed c.args.text.now c.args.at g.row.N c.requires.within c.requires.few c.if-feeds-eq0.false).feed
