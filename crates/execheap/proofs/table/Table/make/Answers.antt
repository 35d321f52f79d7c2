-- The number that is next gets the address if the block was put, and libraries that are asked for memory for it leave a
-- table sound.
use Rattle.std.proofs.Common.{None, Some, ap, ◌∙◌}
use Rattle.execheap.specs.Table.{next_object, ready_for}
use Rattle.execheap.proofs.Asking.{lie_in, object_made, sound_made, sound_unmade}
use Rattle.execheap.proofs.table.Table.make.Goals as goal

pub alloc_mem-requires : goal.alloc_mem-requires
alloc_mem-requires g c = record { blocks = lie_in c.self.invariant }

pub invariant_of-self : goal.invariant_of-self
invariant_of-self g c =
    let put = c.in_err-address.ensures in
    sound_unmade c.self.invariant c.is_well_formed.ensures c.args.kind c.code-code.result c.code-code.ensures c.in_ok-number.number
    c.index-self-code-2.result c.in_ok-number.ensures.value c.size.result c.size.ensures
    c.alloc_mem.new.memory c.alloc_mem.new.self put.libraries put.memory

pub returns-in_err-address-clause-answer : goal.returns-in_err-address-clause-answer
returns-in_err-address-clause-answer g c =
    c.from_residual-in_err-address.ensures
    ∙ object_made c.self.invariant c.is_well_formed.ensures c.args.kind c.code-code.result c.code-code.ensures c.in_ok-number.number
    c.index-self-code-2.result c.in_ok-number.ensures.value c.size.result c.size.ensures None c.in_err-address.ensures.answer
    ∙ ap (λ t. next_object c.args.kind (ready_for c.args.kind t)) c.self.view_is

pub invariant_of-self-2 : goal.invariant_of-self-2
invariant_of-self-2 g c =
    let put = c.in_ok-address.ensures in
    sound_made c.self.invariant c.is_well_formed.ensures c.args.kind c.code-code.result c.code-code.ensures c.in_ok-number.number
    c.index-self-code-2.result c.in_ok-number.ensures.value c.size.result c.size.ensures c.in_ok-address.address c.tag_of-tag.result
    c.index-self-code.result c.index-self-code-3.result c.facts.ensures c.tag_of-tag.ensures put.answer
    c.alloc_mem.new.memory c.alloc_mem.new.self c.give.new.self put.libraries put.memory c.give.ensures

pub returns-clause-answer : goal.returns-clause-answer
returns-clause-answer g c =
    object_made c.self.invariant c.is_well_formed.ensures c.args.kind c.code-code.result c.code-code.ensures c.in_ok-number.number
    c.index-self-code-2.result c.in_ok-number.ensures.value c.size.result c.size.ensures (Some c.in_ok-address.address) c.in_ok-address.ensures.answer
    ∙ ap (λ t. next_object c.args.kind (ready_for c.args.kind t)) c.self.view_is
