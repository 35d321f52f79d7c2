-- The proof of `FreeSpace::join`: frees a block, which joins the gaps that touch it.
use Rattle.std.proofs.Common.{◌+◌, ◌-◌, arith, ap, sym, length, ◌∙◌, subst}
use Rattle.memlist.specs.{Chain.IsCount, Chain.Space, Chain.written, Joins.Around}
use Rattle.memlist.proofs.{Chains.apart_sum, Chains.before_within, Chains.seen, Writing.bytes_joined, Writing.IsJoining, Writing.joining, Writing.length-written, Writing.link_len, Writing.seen_around, Writing.space_written, Edits.front, Edits.joined, Walking.up_to_block, space.FreeSpace.join.Goals.After-upper-upper}
use Rattle.memlist.proofs.space.FreeSpace.join.Goals as goal

module _ (c : After-upper-upper) (around : Around c.args.self.now.gaps c.args.address c.args.size) where
  joins : IsJoining c.self.inside.base c.self.inside.words.items c.self.inside.head c.args.address (front around) (joined around) c.args.before c.upper-upper.result.next c.upper-upper.result.size
  joins =
      let base_is = ap (λ (s : Space). s.base) c.self.view_is in
      let end_is = ap (λ (s : Space). s.end) c.self.view_is in
      let walk = up_to_block around c.requires.before in
      joining c.self.inside.base c.self.inside.words.items c.self.inside.head _ c.self.invariant.0 c.args.address c.args.size (seen_around (ap (λ (s : Space). s.gaps) c.self.view_is) around)
      (omega (arith, base_is, c.requires.low)) (omega (arith, end_is, c.requires.high)) c.requires.place c.requires.some c.requires.whole
      c.args.before c.upper-upper.result.next c.upper-upper.result.size walk.last (c.upper-upper.ensures.next walk) (c.upper-upper.ensures.size walk)

pub upper-upper-requires-clause-walk : goal.upper-upper-requires-clause-walk
upper-upper-requires-clause-walk c = up_to_block c.requires.around c.requires.before

pub ends_at-requires : goal.ends_at-requires
ends_at-requires c = up_to_block c.requires.around c.requires.before

pub overflow_add-free : goal.overflow_add-free
overflow_add-free c =
    let all = apart_sum c.self.inside.base _ _ c.self.invariant.0.apart in
    omega (arith, c.self.invariant.1, all, c.self.invariant.0.low, c.self.invariant.0.reach, c.requires.low, c.requires.high, ap (λ (s : Space). s.end) c.self.view_is, ap (λ (s : Space). s.base) c.self.view_is)

pub overflow_sub-chunk : goal.overflow_sub-chunk
overflow_sub-chunk c = ((joins (goal.at.overflow_sub-chunk c).After-upper-upper c.requires.around).lower (sym c.if-ends_at.true ∙ c.ends_at.ensures (up_to_block c.requires.around c.requires.before))).above

pub overflow_add-chunk : goal.overflow_add-chunk
overflow_add-chunk c = omega (arith, ((joins (goal.at.overflow_add-chunk c).After-upper-upper c.requires.around).lower (sym c.if-ends_at.true ∙ c.ends_at.ensures (up_to_block c.requires.around c.requires.before))).fits)

pub word_place-requires : goal.word_place-requires
word_place-requires c = ((joins (goal.at.word_place-requires c).After-upper-upper c.requires.around).lower (sym c.if-ends_at.true ∙ c.ends_at.ensures (up_to_block c.requires.around c.requires.before))).low

pub write-requires : goal.write-requires
write-requires c = omega (arith, ((joins (goal.at.write-requires c).After-upper-upper c.requires.around).lower (sym c.if-ends_at.true ∙ c.ends_at.ensures (up_to_block c.requires.around c.requires.before))).room, c.word_place.ensures)

pub invariant_of-self : goal.invariant_of-self
invariant_of-self c =
    let shown =
    (joins (goal.at.invariant_of-self c).After-upper-upper c.requires.around).into c.write.new.words.items (sym c.if-ends_at.true ∙ c.ends_at.ensures (up_to_block c.requires.around c.requires.before))
    (c.write.ensures ∙ ap (λ k. written c.self.inside.words.items k c.upper-upper.result.next (c.args.address - c.args.before + c.upper-upper.result.size)) c.word_place.ensures) in
    let around = seen_around (ap (λ (s : Space). s.gaps) c.self.view_is) c.requires.around in
    (shown.kept, subst (IsCount (c.self.inside.free + c.args.size)) (sym shown.is) (bytes_joined c.self.inside.free c.args.size c.args.address _ around c.self.invariant.1))

pub link-requires-clause-low : goal.link-requires-clause-low
link-requires-clause-low c some =
    (before_within c.self.inside.base c.self.inside.words.items c.self.inside.head _ c.self.invariant.0 c.args.before some
    (seen (ap (λ (s : Space). s.gaps) c.self.view_is) (up_to_block c.requires.around c.requires.before))).begins

pub link-requires-clause-within : goal.link-requires-clause-within
link-requires-clause-within c some =
    let w = before_within c.self.inside.base c.self.inside.words.items c.self.inside.head _ c.self.invariant.0 c.args.before some
    (seen (ap (λ (s : Space). s.gaps) c.self.view_is) (up_to_block c.requires.around c.requires.before)) in
    let len = ap length c.write-else-ends_at.ensures ∙ length-written c.self.inside.words.items c.word_place-else-ends_at.result c.upper-upper.result.next c.upper-upper.result.size in
    omega (arith, w.begins, w.ends, len)

pub invariant_of-self-else-ends_at : goal.invariant_of-self-else-ends_at
invariant_of-self-else-ends_at c =
    let shown =
    (joins (goal.at.invariant_of-self-else-ends_at c).After-upper-upper c.requires.around).own c.write-else-ends_at.new.words.items c.link.new.words.items c.link.new.head (sym c.if-ends_at.false ∙ c.ends_at.ensures (up_to_block c.requires.around c.requires.before))
    (c.write-else-ends_at.ensures ∙ ap (λ k. written c.self.inside.words.items k c.upper-upper.result.next c.upper-upper.result.size) c.word_place-else-ends_at.ensures)
    c.link.ensures.words c.link.ensures.head in
    let around = seen_around (ap (λ (s : Space). s.gaps) c.self.view_is) c.requires.around in
    (shown.kept, subst (IsCount (c.self.inside.free + c.args.size)) (sym shown.is) (bytes_joined c.self.inside.free c.args.size c.args.address _ around c.self.invariant.1))

pub returns-then-ends_at : goal.returns-then-ends_at
returns-then-ends_at c around =
    space_written c.self.inside.base c.self.inside.words.items c.write.new.words.items c.self.inside.head c.self.inside.head (joined around) c.args.self.now ((joins (goal.at.returns-then-ends_at c).After-upper-upper around).into c.write.new.words.items (sym c.if-ends_at.true ∙ c.ends_at.ensures (up_to_block around c.requires.before))
    (c.write.ensures ∙ ap (λ k. written c.self.inside.words.items k c.upper-upper.result.next (c.args.address - c.args.before + c.upper-upper.result.size)) c.word_place.ensures)) c.self.view_is
    (ap length c.write.ensures ∙ length-written c.self.inside.words.items c.word_place.result c.upper-upper.result.next (c.args.address - c.args.before + c.upper-upper.result.size))

pub returns-else-ends_at : goal.returns-else-ends_at
returns-else-ends_at c around =
    space_written c.self.inside.base c.self.inside.words.items c.link.new.words.items c.self.inside.head c.link.new.head (joined around) c.args.self.now ((joins (goal.at.returns-else-ends_at c).After-upper-upper around).own c.write-else-ends_at.new.words.items c.link.new.words.items c.link.new.head (sym c.if-ends_at.false ∙ c.ends_at.ensures (up_to_block around c.requires.before))
    (c.write-else-ends_at.ensures ∙ ap (λ k. written c.self.inside.words.items k c.upper-upper.result.next c.upper-upper.result.size) c.word_place-else-ends_at.ensures)
    c.link.ensures.words c.link.ensures.head) c.self.view_is
    (ap length c.link.ensures.words ∙ link_len c.self.inside.base c.write-else-ends_at.new.words.items c.args.before c.args.address ∙ ap length c.write-else-ends_at.ensures
    ∙ length-written c.self.inside.words.items c.word_place-else-ends_at.result c.upper-upper.result.next c.upper-upper.result.size)
