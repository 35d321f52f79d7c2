-- The law that walks by `next_place` and `prev_place` meet a whole sequence.
use Rattle.execlist.proofs.Places.{walks_meet_sequences}
use Rattle.execlist.proofs.laws.walks_meet_sequences.Goals as goal

pub returns : goal.returns
returns c = walks_meet_sequences
