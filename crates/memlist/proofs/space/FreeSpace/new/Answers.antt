-- The proof of `FreeSpace::new`: that many bytes from an address on, all of them free.
use Rattle.std.proofs.Common.{◌/◌, arith, ap, length, ◌∙◌}
use Rattle.std.proofs.lemmas.List.{length-replicate}
use Rattle.memlist.proofs.Writing.{bytes_new, new_space}
use Rattle.memlist.proofs.space.FreeSpace.new.Goals as goal

pub write-requires : goal.write-requires
write-requires c =
    let len = ap length (c.in_ok-words.ensures.items_if_clones_equal (λ y h. h)) ∙ length-replicate (c.args.size / 4) 0 in
    omega (arith, len, c.requires.some, c.requires.whole)

pub invariant_of-result : goal.invariant_of-result
invariant_of-result c =
    let len = ap length (c.in_ok-words.ensures.items_if_clones_equal (λ y h. h)) ∙ length-replicate (c.args.size / 4) 0 in
    let new = new_space c.args.base c.args.size c.in_ok-words.words.items c.write.new.words.items c.requires.place c.requires.low c.requires.some c.requires.whole c.requires.reach len c.write.ensures in
    (new.kept, bytes_new c.args.base c.args.size c.write.new.words.items new)

pub returns : goal.returns
returns c =
    let len = ap length (c.in_ok-words.ensures.items_if_clones_equal (λ y h. h)) ∙ length-replicate (c.args.size / 4) 0 in
    (new_space c.args.base c.args.size c.in_ok-words.words.items c.write.new.words.items c.requires.place c.requires.low c.requires.some c.requires.whole c.requires.reach len c.write.ensures).is
