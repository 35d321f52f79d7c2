-- The object is made if it is shown to fit, and is shown where it is made.
use Rattle.std.proofs.Common.{None, Some, [], refl, ◌∙◌}
use Rattle.sigsem.specs.Semaphores.{free_sem}
use Rattle.execmodel.specs.State.{Semaphore}
use Rattle.execheap.specs.declared.tag.Kind.TheVariants as variant
use Rattle.execheap.proofs.{Semaphores.sem_made_kept, Semaphores.sem_made_shown, Semaphores.sem_next, Asked.kept_unmade, Asked.made_ready, Asked.place_made, Asked.placed_ready, Asked.shown_unmade}
use Rattle.execheap.proofs.objects.Objects.make_semaphore.Goals as goal

pub invariant_of-self : goal.invariant_of-self
invariant_of-self g c =
    let make = c.in_err-semaphore.ensures in
    kept_unmade c.self.view_is c.self.invariant make.sound make.memory variant.Semaphore make.stocked c.make.new.self make.next

pub returns-in_err-semaphore-clause-address : goal.returns-in_err-semaphore-clause-address
returns-in_err-semaphore-clause-address g c =
    let make = c.in_err-semaphore.ensures in
    c.from_residual.ensures ∙ place_made c.self.view_is c.self.invariant make.sound make.memory variant.Semaphore make.stocked None make.answer

pub returns-in_err-semaphore-clause-next : goal.returns-in_err-semaphore-clause-next
returns-in_err-semaphore-clause-next g c =
    let make = c.in_err-semaphore.ensures in
    shown_unmade c.self.view_is c.self.invariant make.sound make.memory variant.Semaphore make.stocked c.make.new.self make.next (Semaphore free_sem []) _ c.from_residual.ensures

pub returns-clause-address : goal.returns-clause-address
returns-clause-address g c =
    let make = c.in_ok-semaphore.ensures in
    place_made c.self.view_is c.self.invariant make.sound make.memory variant.Semaphore make.stocked (Some (c.in_ok-semaphore.field-0-0, c.in_ok-semaphore.semaphore)) make.answer

pub unwrap-requires : goal.unwrap-requires
unwrap-requires g c =
    let make = c.in_ok-semaphore.ensures in
    let made = made_ready c.self.view_is c.self.invariant make.sound make.memory variant.Semaphore make.stocked c.in_ok-semaphore.field-0-0 c.in_ok-semaphore.semaphore c.make.new.self make.answer make.next in
    rw (c.make-2.ensures.answer, sem_next c.make-2.new.self made) refl

pub invariant_of-self-2 : goal.invariant_of-self-2
invariant_of-self-2 g c =
    let make = c.in_ok-semaphore.ensures in
    let made = made_ready c.self.view_is c.self.invariant make.sound make.memory variant.Semaphore make.stocked c.in_ok-semaphore.field-0-0 c.in_ok-semaphore.semaphore c.make.new.self make.answer make.next in
    sem_made_kept c.make-2.new.self made c.make-2.ensures.next

pub returns-clause-next : goal.returns-clause-next
returns-clause-next g c =
    let make = c.in_ok-semaphore.ensures in
    let made = made_ready c.self.view_is c.self.invariant make.sound make.memory variant.Semaphore make.stocked c.in_ok-semaphore.field-0-0 c.in_ok-semaphore.semaphore c.make.new.self make.answer make.next in
    sem_made_shown c.make-2.new.self made c.make-2.ensures.next c.facts.ensures.sound
    ∙ placed_ready c.self.view_is c.self.invariant make.sound make.memory variant.Semaphore make.stocked c.in_ok-semaphore.semaphore (Semaphore free_sem [])
