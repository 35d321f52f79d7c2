-- The proof of `FreeSpace::reset`: all bytes are free.
use Rattle.std.proofs.Common.{◌≡◌, ◌+◌, ◌*◌, ◌/◌, ◌≤◌, length, ap, ◌∙◌, arith}
use Rattle.memlist.specs.{Chain.Space, Blocks.stretch}
use Rattle.memlist.proofs.Writing.{bytes_new, new_space}
use Rattle.memlist.proofs.space.FreeSpace.reset.Goals as goal

pub write-requires : goal.write-requires
write-requires c =
    let base : c.self.inside.base ≡ c.args.self.now.base = ap (λ (s : Space). s.base) c.self.view_is in
    let end : c.self.inside.base + 4 * length c.self.inside.words.items ≡ c.args.self.now.end = ap (λ (s : Space). s.end) c.self.view_is in
    omega (arith, base, end, c.requires.all, c.requires.some, c.requires.whole)

pub invariant_of-self : goal.invariant_of-self
invariant_of-self c =
    let base : c.self.inside.base ≡ c.args.self.now.base = ap (λ (s : Space). s.base) c.self.view_is in
    let end : c.self.inside.base + 4 * length c.self.inside.words.items ≡ c.args.self.now.end = ap (λ (s : Space). s.end) c.self.view_is in
    let len : length c.self.inside.words.items ≡ c.args.size / 4 = omega (arith, base, end, c.requires.all, c.requires.whole) in
    let reach : c.self.inside.base + c.args.size ≤ 2147483648 = omega (arith, c.self.invariant.0.reach, base, end, c.requires.all) in
    let new = new_space c.self.inside.base c.args.size c.self.inside.words.items c.write.new.words.items c.self.invariant.0.place c.self.invariant.0.low c.requires.some c.requires.whole reach len c.write.ensures in
    (new.kept, bytes_new c.self.inside.base c.args.size c.write.new.words.items new)

pub returns : goal.returns
returns c =
    let base : c.self.inside.base ≡ c.args.self.now.base = ap (λ (s : Space). s.base) c.self.view_is in
    let end : c.self.inside.base + 4 * length c.self.inside.words.items ≡ c.args.self.now.end = ap (λ (s : Space). s.end) c.self.view_is in
    let len : length c.self.inside.words.items ≡ c.args.size / 4 = omega (arith, base, end, c.requires.all, c.requires.whole) in
    let reach : c.self.inside.base + c.args.size ≤ 2147483648 = omega (arith, c.self.invariant.0.reach, base, end, c.requires.all) in
    let all : c.self.inside.base + c.args.size ≡ c.args.self.now.end = ap (λ n. n + c.args.size) base ∙ c.requires.all in
    (new_space c.self.inside.base c.args.size c.self.inside.words.items c.write.new.words.items c.self.invariant.0.place c.self.invariant.0.low c.requires.some c.requires.whole reach len c.write.ensures).is
    ∙ ap (λ n. let space : Space = record { base = c.self.inside.base; end = n; gaps = stretch c.self.inside.base n } in space) all
    ∙ ap (λ n. let space : Space = record { base = n; end = c.args.self.now.end; gaps = stretch n c.args.self.now.end } in space) base
