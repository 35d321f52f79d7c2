-- The proof of `FreeSpace::take`: takes that many bytes off the front of the lowest gap that has them, which is the one
-- after the chunk at an address, and answers where they begin.
use Rattle.std.proofs.Common.{◌≡◌, ◌+◌, ◌-◌, ◌++◌, refl, arith, ap, sym, ◌∙◌, subst, length, IsSome}
use Rattle.memlist.specs.{declared.gap.Gap.Gap, Blocks.stretch, Chain.IsCount, Chain.IsSpot, Chain.Space, Chain.cut_rest, Chain.cut_words}
use Rattle.memlist.proofs.{Chains.IsShown, Chains.before_within, Chains.seen, Chains.shown, Writing.bytes_taken, Writing.IsSpotIn, Writing.cut_len, Writing.link_len, Writing.space_written, Writing.spot_in, Writing.taken_chain, Walking.past, Walking.same_gap, Walking.seen_spot, Walking.up_to, space.FreeSpace.take.Goals.After-link, space.FreeSpace.take.Goals.After-unwrap-gap}
use Rattle.memlist.proofs.space.FreeSpace.take.Goals as goal

module _ (c : After-unwrap-gap) (spot : IsSpot c.args.size c.args.self.now.gaps c.args.before) where
  same : c.unwrap-gap.result ≡ spot.gap
  same = same_gap c.after.result c.unwrap-gap.result spot.gap c.unwrap-gap.ensures (c.after.ensures.is (up_to spot))

  -- if the gap lies
  lies : IsSpotIn c.self.inside.base (length c.self.inside.words.items) c.args.size c.unwrap-gap.result
  lies =
      spot_in c.self.inside.base c.self.inside.words.items c.self.inside.head _ c.self.invariant.0 c.args.size c.args.before c.requires.whole
      (seen_spot (ap (λ (s : Space). s.gaps) c.self.view_is) spot) c.unwrap-gap.result same

module _ (c : After-link) (spot : IsSpot c.args.size c.args.self.now.gaps c.args.before) (is : c.unwrap-gap.result ≡ spot.gap) where
  taken : IsShown c.self.inside.base c.link.new.words.items c.link.new.head
      (spot.below ++ (stretch (spot.gap.address + c.args.size) (spot.gap.address + spot.gap.size) ++ spot.above))
  taken =
      shown c.self.inside.base c.link.new.words.items c.link.new.head _
      (taken_chain c.self.inside.base c.self.inside.words.items c.self.inside.head _ c.self.invariant.0 c.args.size c.args.before c.next-next.result c.cut-rest.result
      (seen_spot (ap (λ (s : Space). s.gaps) c.self.view_is) spot) c.cut-rest.new.words.items c.link.new.words.items c.link.new.head c.requires.whole
      (c.next-next.ensures.is (past spot c.unwrap-gap.result is))
      (c.cut-rest.ensures.rest ∙ ap (λ (g : Gap). cut_rest g c.args.size c.next-next.result) is)
      (c.cut-rest.ensures.words ∙ ap (λ (g : Gap). cut_words c.self.inside.base c.self.inside.words.items g c.args.size c.next-next.result) is)
      c.link.ensures.words c.link.ensures.head)

pub after-requires : goal.after-requires
after-requires c = up_to c.requires.spot

pub unwrap-gap-requires : goal.unwrap-gap-requires
unwrap-gap-requires c = subst (λ o. IsSome o) (sym (c.after.ensures.is (up_to c.requires.spot))) refl

pub next-next-requires : goal.next-next-requires
next-next-requires c = past c.requires.spot c.unwrap-gap.result (same (goal.at.next-next-requires c).After-unwrap-gap c.requires.spot)

pub cut-rest-requires-clause-low : goal.cut-rest-requires-clause-low
cut-rest-requires-clause-low c = (lies (goal.at.cut-rest-requires-clause-low c).After-unwrap-gap c.requires.spot).low

pub cut-rest-requires-clause-fits : goal.cut-rest-requires-clause-fits
cut-rest-requires-clause-fits c = omega (arith, c.requires.spot.fits, ap (λ (g : Gap). g.size) (same (goal.at.cut-rest-requires-clause-fits c).After-unwrap-gap c.requires.spot))

pub cut-rest-requires-clause-reach : goal.cut-rest-requires-clause-reach
cut-rest-requires-clause-reach c = (lies (goal.at.cut-rest-requires-clause-reach c).After-unwrap-gap c.requires.spot).reach

pub cut-rest-requires-clause-room : goal.cut-rest-requires-clause-room
cut-rest-requires-clause-room c = (lies (goal.at.cut-rest-requires-clause-room c).After-unwrap-gap c.requires.spot).room

pub link-requires-clause-low : goal.link-requires-clause-low
link-requires-clause-low c some =
    (before_within c.self.inside.base c.self.inside.words.items c.self.inside.head _ c.self.invariant.0 c.args.before some (seen (ap (λ (s : Space). s.gaps) c.self.view_is) (up_to c.requires.spot))).begins

pub link-requires-clause-within : goal.link-requires-clause-within
link-requires-clause-within c some =
    let w = before_within c.self.inside.base c.self.inside.words.items c.self.inside.head _ c.self.invariant.0 c.args.before some (seen (ap (λ (s : Space). s.gaps) c.self.view_is) (up_to c.requires.spot)) in
    let len = ap length c.cut-rest.ensures.words ∙ cut_len c.self.inside.base c.self.inside.words.items c.unwrap-gap.result c.args.size c.next-next.result in
    omega (arith, w.begins, w.ends, len)

pub invariant_of-self : goal.invariant_of-self
invariant_of-self c =
    let shown = taken (goal.at.invariant_of-self c).After-link c.requires.spot (same (goal.at.invariant_of-self c).After-unwrap-gap c.requires.spot) in
    let spot = seen_spot (ap (λ (s : Space). s.gaps) c.self.view_is) c.requires.spot in
    (shown.kept, subst (IsCount (c.self.inside.free - c.args.size)) (sym shown.is) (bytes_taken c.self.inside.free c.args.size _ spot.below spot.gap spot.above c.self.invariant.1 spot.is spot.fits).1)

pub returns : goal.returns
returns c spot = (
  ap (λ (g : Gap). g.address) (same (goal.at.returns c).After-unwrap-gap spot),
  space_written c.self.inside.base c.self.inside.words.items c.link.new.words.items c.self.inside.head c.link.new.head _ c.args.self.now (taken (goal.at.returns c).After-link spot (same (goal.at.returns c).After-unwrap-gap spot)) c.self.view_is
      (ap length c.link.ensures.words ∙ link_len c.self.inside.base c.cut-rest.new.words.items c.args.before c.cut-rest.result ∙ ap length c.cut-rest.ensures.words
      ∙ cut_len c.self.inside.base c.self.inside.words.items c.unwrap-gap.result c.args.size c.next-next.result),
)
