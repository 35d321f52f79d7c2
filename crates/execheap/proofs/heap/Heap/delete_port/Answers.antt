-- The port is freed if it is shown, and its task and its signal are answered as they are shown.
use Rattle.std.proofs.Common.{ℕ, ap, sym, ◌∙◌}
use Rattle.execmodel.specs.{State.Memory, Memory.freed, Ports.port_of}
use Rattle.msgport.specs.Port.{Port}
use Rattle.execheap.proofs.Posted.{port_of_shown}
use Rattle.execheap.proofs.heap.Heap.delete_port.Goals as goal

pub returns-clause-task : goal.returns-clause-task
returns-clause-task g c =
    ap (λ (owner : ℕ × ℕ). owner.0) c.free_port.ensures.owner
    ∙ ap (λ (port : Port). port.task) (sym (port_of_shown c.in_ok-p.ensures.known.sound c.in_ok-p.p c.args.port c.in_ok-p.ensures.found))
    ∙ ap (λ (m : Memory). (port_of c.args.port m.heap).task) c.self.view_is

pub returns-clause-bit : goal.returns-clause-bit
returns-clause-bit g c =
    ap (λ (owner : ℕ × ℕ). owner.1) c.free_port.ensures.owner
    ∙ ap (λ (port : Port). port.bit) (sym (port_of_shown c.in_ok-p.ensures.known.sound c.in_ok-p.p c.args.port c.in_ok-p.ensures.found))
    ∙ ap (λ (m : Memory). (port_of c.args.port m.heap).bit) c.self.view_is

pub returns-clause-next : goal.returns-clause-next
returns-clause-next g c = c.free_port.ensures.next ∙ ap (freed c.args.port) c.self.view_is
